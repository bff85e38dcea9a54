-- What may be answered to a request.
use Rattle.std.specs.Prelude.{ℕ, List, Option, Some, None, Result, Ok, Err}
use Rattle.desk_outside.specs.declared.deed.DeedKind.{DeedKind}
use Rattle.diagnosis.specs.declared.put.Put.{Put}
use Rattle.diagnosis.specs.declared.put.Put.TheVariants.{Created, Same}
use Rattle.book.specs.declared.answers.PutFault.{PutFault}
use Rattle.book.specs.declared.answers.PutFault.TheVariants as put_fault
use Rattle.book.specs.declared.answers.LookFault.{LookFault}
use Rattle.book.specs.declared.answers.LookFault.TheVariants as look_fault
use Rattle.desk_replies.specs.declared.status.Status.{Status}
use Rattle.desk_replies.specs.declared.status.Status.TheVariants as status
use Rattle.desk_replies.specs.declared.methods.Methods.{Methods}
use Rattle.desk_replies.specs.declared.bodies.TextKind.{TextKind}
use Rattle.desk_replies.specs.declared.bodies.Refusal.{Refusal}
use Rattle.desk_replies.specs.declared.bodies.Refusal.TheVariants as refusal
use Rattle.desk_replies.specs.Statuses.{refusal_status}
use Rattle.desk_replies.specs.Bodies.{refusal_body, unknown_revision_body, unknown_sign_body, name_taken_body, digest_differs_body, full_body, text_fault_body, keeper_fault_body, no_memory_body}

-- an answer: its status, the methods of the route where it refuses any other, its body, and what was done, if anything
pub record Answer : Type 0 where
  pub status : Status
  pub methods : Option Methods
  pub body : List ℕ
  pub done : Option DeedKind

-- nothing was done
abbrev pub plain : Status → List ℕ → Answer
plain s body = record { status = s; methods = None; body = body; done = None }

abbrev pub refused : Refusal → Answer
refused r = plain (refusal_status r) (refusal_body r)

-- the route hasn't the method
abbrev pub other_method : Methods → Answer
other_method methods = record { status = status.MethodNotAllowed; methods = Some methods; body = refusal_body refusal.MethodNotAllowed; done = None }

-- a text breaks a rule at a line
abbrev pub unprocessable : TextKind → ℕ × ℕ → Answer
unprocessable kind fault = plain status.UnprocessableContent (text_fault_body kind (record { line = fault.0; rule = fault.1 }))

-- ---- changes and looks

-- a change that is refused
abbrev pub put_refused : PutFault → Answer
put_refused (put_fault.NameTaken kept) = plain status.Conflict (name_taken_body kept)
put_refused put_fault.UnknownDesign = refused refusal.UnknownDesign
put_refused (put_fault.DigestDiffers right) = plain status.Conflict (digest_differs_body right)
put_refused (put_fault.Full limit) = plain status.Conflict (full_body limit)
put_refused put_fault.Failed = plain status.KeeperFault keeper_fault_body
put_refused put_fault.NoMemory = plain status.NoMemory no_memory_body

-- a change by its answer: the body has the number of what was created, or is there already
abbrev pub put : (ℕ → List ℕ) → DeedKind → Result Put PutFault → Answer
put body what (Ok (Created n)) = record { status = status.Created; methods = None; body = body n; done = Some what }
put body what (Ok (Same n)) = plain status.Ok (body n)
put body what (Err fault) = put_refused fault

-- a look that finds nothing
abbrev pub look_refused : LookFault → Answer
look_refused look_fault.UnknownDesign = refused refusal.UnknownDesign
look_refused look_fault.UnknownDie = refused refusal.UnknownDie
look_refused (look_fault.UnknownRevision have) = plain status.NotFound (unknown_revision_body have)
look_refused (look_fault.UnknownSign have) = plain status.NotFound (unknown_sign_body have)
look_refused look_fault.NoMemory = plain status.NoMemory no_memory_body

-- goes on with what was found
abbrev pub look : {X : Type 0} → Result X LookFault → (X → Answer) → Answer
look (Ok x) next = next x
look (Err fault) next = look_refused fault
