-- Files that are read by the rules of their texts.
use Rattle.std.proofs.Common.{◌≡◌, ◌∙◌, ◌≤◌, ℕ, List, length, Some, Result, Ok, Err, refl, sym, ap}
use Rattle.std.specs.Prelude.{IfOk, IfErr}
use Rattle.text_parts.specs.declared.fault.ReadFault.{ReadFault}
use Rattle.text_parts.specs.declared.fault.ReadFault.TheVariants as read_fault
use Rattle.text_parts.specs.ReadResults.{Gives}
use Rattle.desk_outside.specs.declared.shelf.File.{File}
use Rattle.desk_outside.specs.Files.{text_of}
use Rattle.diagnosis.specs.Texts.{by_rules}
use Rattle.diagnosis.specs.TextHalts.{ComesTo}
use Rattle.diagnosis.proofs.Halting.{text_halts}
use Rattle.desk_commands.specs.declared.files.Stop.{Stop}
use Rattle.desk_commands.specs.declared.files.Stop.TheVariants.{Refused, Fault, NoMemory}
use Rattle.desk_commands.specs.FileReadings.{Reading, file_limit, file_place, file_reading, for_fault}
use Rattle.desk_commands.specs.CommandStops.{Follows, StopsAt, IsNamed, halt_of}
use Rattle.desk_commands.proofs.FilePlaces.{halts_at, serves_as}

module _ {X : Type 0} (files : List File) (reads : List ℕ → Result X (ℕ × ℕ)) (name : List ℕ) where
  -- a file that doesn't serve
  pub reading_stops : {A : Type 0} (view : A → X) (stop : Stop) → StopsAt (text_of files name) name stop → ComesTo {A = A} halt_of view (Err stop) (file_reading files reads name)
  reading_stops view stop is = text_halts (file_place files name) (λ text. by_rules for_fault (reads text)) (halt_of stop) (halts_at files name stop is)

  -- one that does: what its reader answers
  pub reading_comes : {A : Type 0} (view : A → X) (text : List ℕ) (answer : Result A ReadFault) (result : Result A Stop) → text_of files name ≡ Some text → length text ≤ file_limit
      → Gives view answer (reads text) → IsNamed name answer result → ComesTo halt_of view result (file_reading files reads name)
  reading_comes view text (Ok x) (Ok y) held within stands is = rw (serves_as files name text held within, stands, is) refl
  reading_comes view text (Err (read_fault.Text f)) (Err (Refused n refusal)) held within fails is = rw (serves_as files name text held within, fails, is.0, is.1) refl
  reading_comes view text (Err (read_fault.Text f)) (Err (Fault n)) held within fails is = absurd is
  reading_comes view text (Err (read_fault.Text f)) (Err NoMemory) held within fails is = absurd is
  reading_comes view text (Err read_fault.NoMemory) (Err stop) held within fails is = rw is tt
  reading_comes view text (Ok x) (Err stop) held within stands is = absurd is
  reading_comes view text (Err fault) (Ok y) held within fails is = absurd is

-- what is made of texts that serve, where only memory may be short
pub made_of : {X : Type 0} (reading : Reading X) (x : X) (result : Result X Stop) → reading.outcome ≡ Ok x → IfOk result (λ y. y ≡ x) → IfErr result (λ stop. stop ≡ NoMemory) → Follows result reading
made_of reading x (Ok y) serves is short = serves ∙ ap Ok (sym is)
made_of reading x (Err stop) serves is short = rw short tt
