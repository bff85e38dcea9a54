-- Why a command has no report, and what reading says of it.
use Rattle.std.specs.Prelude.{◌≡◌, ◌<◌, ℕ, Bool, List, ◌++◌, codes, length, Option, None, IsSomeAnd, Result, Ok, Err}
use Rattle.text_parts.specs.declared.fault.ReadFault.{ReadFault}
use Rattle.text_parts.specs.declared.fault.ReadFault.TheVariants as answer
use Rattle.text_parts.specs.declared.fault.TextFault.{TextFault}
use Rattle.diagnosis.specs.TextHalts.{Halt, refused, failed, no_memory, is_failure, ends_by_failure, ComesTo}
use Rattle.desk_commands.specs.declared.files.Refusal.{Refusal}
use Rattle.desk_commands.specs.declared.files.Refusal.TheVariants.{Absent, TooLong, Rule}
use Rattle.desk_commands.specs.declared.files.Stop.{Stop}
use Rattle.desk_commands.specs.declared.files.Stop.TheVariants.{Refused, Fault, NoMemory}
use Rattle.desk_commands.specs.FileReadings.{Reading, file_limit}
use Rattle.desk_commands.specs.Work.{refusal_status, refusal_line}

-- the refusal holds of a file's text, or of there being none, whatever the text stands for
abbrev pub RefusesText : Option (List ℕ) → Refusal → Type 0
RefusesText text Absent = text ≡ None
RefusesText text TooLong = IsSomeAnd text (λ t. file_limit < length t)
RefusesText text (Rule fault) = ⊥

-- a stop at the file of that name, whose text is refused where it is no failure
abbrev pub StopsAt : Option (List ℕ) → List ℕ → Stop → Type 0
StopsAt text name (Refused n refusal) = (n.now ≡ name) × RefusesText text refusal
StopsAt text name (Fault n) = n.now ≡ name
StopsAt text name NoMemory = Unit {0}

-- a stop at the file of that name for this fault of its text
abbrev pub IsRuleAt : List ℕ → TextFault → Stop → Type 0
IsRuleAt name fault (Refused n refusal) = (n.now ≡ name) × (refusal ≡ Rule fault)
IsRuleAt name fault (Fault n) = ⊥
IsRuleAt name fault NoMemory = ⊥

-- a stop at the file of that name for what its reader answered
abbrev pub StopsFor : List ℕ → ReadFault → Stop → Type 0
StopsFor name (answer.Text fault) stop = IsRuleAt name fault stop
StopsFor name answer.NoMemory stop = stop ≡ NoMemory

-- a reader's answer for the file of that name, with a stop in place of its fault
abbrev pub IsNamed : {X : Type 0} → List ℕ → Result X ReadFault → Result X Stop → Type 0
IsNamed name (Ok x) (Ok y) = y ≡ x
IsNamed name (Err fault) (Err stop) = StopsFor name fault stop
IsNamed name (Ok x) (Err stop) = ⊥
IsNamed name (Err fault) (Ok y) = ⊥

-- a stop as reading speaks of it
abbrev pub halt_of : Stop → Halt (List ℕ) Refusal
halt_of (Refused n refusal) = refused n.now refusal
halt_of (Fault n) = failed n.now
halt_of NoMemory = no_memory

-- the answer is what reading comes to, up to a failure at a file that is read, and want of memory
abbrev pub Follows : {X : Type 0} → Result X Stop → Reading X → Type 0
Follows result reading = ComesTo halt_of (λ x. x) result reading

-- the shelf failed
abbrev pub is_fault : Stop → Bool
is_fault stop = is_failure (halt_of stop)

abbrev pub ends_by_fault : {X : Type 0} → Result X Stop → Bool
ends_by_fault result = ends_by_failure halt_of result

-- the status and the line of a stop, which is none for want of memory
abbrev pub IsPageOf : Stop → ℕ → List ℕ → Type 0
IsPageOf (Refused n refusal) status text = (status ≡ refusal_status refusal) × (text ≡ refusal_line n.now refusal)
IsPageOf (Fault n) status text = (status ≡ 5) × (text ≡ n.now ++ codes " fault\n")
IsPageOf NoMemory status text = ⊥

-- the page of a text, or of the stop in its place
abbrev pub IsPageOfAnswer : Result (List ℕ) Stop → ℕ → List ℕ → Type 0
IsPageOfAnswer (Ok written) status text = (status ≡ 0) × (text ≡ written)
IsPageOfAnswer (Err stop) status text = IsPageOf stop status text
