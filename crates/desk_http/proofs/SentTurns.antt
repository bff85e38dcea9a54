-- What was sent of a turn: an interim reply, and then a final one.
use Rattle.std.proofs.Common.{◌≡◌, ℕ, Bool, List, ◌++◌, Option, Some, None, refl, sym, ap, ◌∙◌, append_assoc}
use Rattle.std.specs.Io.KnownBytes.{append_known}
use Rattle.final_replies.specs.declared.ends.SessionEnd.{SessionEnd}
use Rattle.final_replies.specs.declared.ends.SessionEnd.TheVariants.{Closed, Ended, Cut, LinkFault, NoMemory}
use Rattle.final_replies.specs.FinalReplies.{Replied}
use Rattle.final_replies.proofs.SentParts.{sent_on}
use Rattle.desk_http.specs.Turns.{TurnSent}

pub sent_turn : (end : Option SessionEnd) (closing : Bool) (interim reply : List ℕ) (a b c : Option (List ℕ)) → b ≡ append_known a interim → Replied end closing reply b c
    → (part : List ℕ) × TurnSent end (interim ++ reply) part × (c ≡ append_known a part)
sent_turn None closing interim reply a b c sent replied = (interim ++ reply, refl, replied.1 ∙ ap (λ s. append_known s reply) sent ∙ sent_on a interim reply)
sent_turn (Some Closed) closing interim reply a b c sent replied = (interim ++ reply, refl, replied.1 ∙ ap (λ s. append_known s reply) sent ∙ sent_on a interim reply)
sent_turn (Some LinkFault) closing interim reply a b c sent (left, adds) = (
  interim ++ adds.part,
  (left, ap (λ l. interim ++ l) adds.cut ∙ sym (append_assoc interim adds.part left)),
  adds.added ∙ ap (λ s. append_known s adds.part) sent ∙ sent_on a interim adds.part,
)
sent_turn (Some Ended) closing interim reply a b c sent replied = absurd replied
sent_turn (Some Cut) closing interim reply a b c sent replied = absurd replied
sent_turn (Some NoMemory) closing interim reply a b c sent replied = absurd replied
