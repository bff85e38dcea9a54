-- The final reply to a request, and what was sent of it.
use Rattle.std.specs.Prelude.{◌≡◌, ℕ, Bool, true, false, List, length, Option, Some, None, Result, Ok, Err}
use Rattle.std.specs.Io.KnownBytes.{append_known}
use Rattle.desk_outside.specs.declared.deed.Deed.{Deed}
use Rattle.desk_outside.specs.Bytes.{AddsPart}
use Rattle.desk_replies.specs.declared.response.Response.{Response}
use Rattle.desk_replies.specs.declared.response.AnswerFault.{AnswerFault}
use Rattle.desk_replies.specs.declared.response.AnswerFault.TheVariants as failed
use Rattle.desk_replies.specs.declared.status.Status.TheVariants as status
use Rattle.desk_replies.specs.Bodies.{keeper_fault_body, no_memory_body}
use Rattle.desk_replies.specs.Replies.{reply_text}
use Rattle.desk_replies.specs.Answers.{Answer}
use Rattle.desk_answers.specs.BookAnswers.{Answered}
use Rattle.desk_answers.specs.Seats.{SeatFacts}
use Rattle.final_replies.specs.declared.ends.SessionEnd.{SessionEnd}
use Rattle.final_replies.specs.declared.ends.SessionEnd.TheVariants.{Closed, LinkFault}

-- a final reply was sent, and the turn stays open or closes; or the link failed, and a part of it was sent
abbrev pub Replied : Option SessionEnd → Bool → List ℕ → Option (List ℕ) → Option (List ℕ) → Type 0
Replied None closing reply before after = (closing ≡ false) × (after ≡ append_known before reply)
Replied (Some Closed) closing reply before after = (closing ≡ true) × (after ≡ append_known before reply)
Replied (Some LinkFault) closing reply before after = AddsPart before after reply
Replied (Some _) closing reply before after = ⊥

-- the final reply by what a request came to, and whether it closes
abbrev pub reply_of : Bool → Result Response AnswerFault → List ℕ
reply_of closing (Ok response) = reply_text response.status response.methods closing response.body
reply_of closing (Err failed.KeeperFault) = reply_text status.KeeperFault None closing keeper_fault_body
reply_of closing (Err failed.NoMemory) = reply_text status.NoMemory None true no_memory_body

abbrev pub closes_by : Bool → Result Response AnswerFault → Bool
closes_by closing (Ok response) = closing
closes_by closing (Err failed.KeeperFault) = closing
closes_by closing (Err failed.NoMemory) = true

-- a request was answered, and its final reply was sent, with the mark of the deeds that the seat has seen then
pub record Responds (ask : List Deed → Answer → Type 0) (closing : Bool) (mark : Option ℕ) (end : Option SessionEnd) (old new : SeatFacts) (before after : Option (List ℕ)) : Type 0 where
  pub came : Result Response AnswerFault
  pub answered : Answered ask came old new
  pub mark_is : mark ≡ Some (length new.seen)
  pub sent : Replied end (closes_by closing came) (reply_of closing came) before after
