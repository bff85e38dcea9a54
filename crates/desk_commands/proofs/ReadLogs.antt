-- Logs that are read one after another and added to a die.
use Rattle.std.proofs.Common.{◌≡◌, ◌∙◌, ◌<◌, ◌≤◌, ◌+◌, ℕ, List, [], ◌∷◌, ◌++◌, Some, Result, Ok, Err, IfErr, OnOk, get_or, refl, sym, ap, map, length, drop, Bor}
use Rattle.std.proofs.lemmas.List.{drop-map, drop_more}
use Rattle.text_parts.specs.declared.fault.ReadFault.{ReadFault}
use Rattle.text_parts.specs.declared.fault.ReadFault.TheVariants as read_fault
use Rattle.text_parts.specs.ReadResults.{Fails}
use Rattle.desk_outside.specs.declared.shelf.File.{File}
use Rattle.desk_outside.specs.Files.{text_of}
use Rattle.scan_model.specs.declared.logs.LogFacts.{LogFacts}
use Rattle.scan_model.specs.LogText.{LogFrame, log_reading}
use Rattle.scan_model.specs.DieReport.{different}
use Rattle.diagnosis.specs.Texts.{at_name, value, by_rules}
use Rattle.diagnosis.proofs.Halting.{text_halts, at_halt, comes_after}
use Rattle.desk_commands.specs.declared.files.Stop.{Stop}
use Rattle.desk_commands.specs.declared.files.Stop.TheVariants.{Refused, Fault, NoMemory}
use Rattle.desk_commands.specs.FileReadings.{file_limit, file_place, for_fault}
use Rattle.desk_commands.specs.CommandStops.{Follows, StopsAt, StopsFor, IsNamed, halt_of}
use Rattle.desk_commands.specs.Work.{in_place_of, log_file, logs_after, logs_reading, logs_report}
use Rattle.desk_commands.specs.Logs.{GoesOn, AreRead, IsTaken, IsFileTaken, FileFollows, with_text}
use Rattle.desk_commands.proofs.FilePlaces.{halts_at, serves_as}
use Rattle.desk_commands.proofs.DifferentTexts.{one_more_different}

-- the next of the names that are left
pub next_name : (names : List (Bor (List ℕ))) (i : ℕ) (d : Bor (List ℕ)) → i < length names
    → drop i (map (λ name. name.now) names) ≡ (get_or names i d).now ∷ drop (i + 1) (map (λ name. name.now) names)
next_name names i d below =
    let seen : Bor (List ℕ) → List ℕ = λ name. name.now in
    drop-map seen i names ∙ ap (map seen) (drop_more names i d below) ∙ ap (λ rest. (get_or names i d).now ∷ rest) (sym (drop-map seen (i + 1) names))

-- ---- a file

module _ (files : List File) (frame : LogFrame) (name : List ℕ) where
  -- a file that doesn't serve
  pub file_stops : (stop : Stop) → StopsAt (text_of files name) name stop → Follows {X = List ℕ} (Err stop) (log_file files frame name)
  file_stops stop is =
      text_halts (file_place files name) (λ text. in_place_of (by_rules for_fault (log_reading frame text)) text) (halt_of stop) (halts_at files name stop is)

  module _ (text : List ℕ) (held : text_of files name ≡ Some text) (within : length text ≤ file_limit) where
    -- what its text comes to
    outcome_is : (log_file files frame name).outcome ≡ at_name name (in_place_of (by_rules for_fault (log_reading frame text)) text)
    outcome_is = rw (serves_as files name text held within) refl

    refuses : (fault : ReadFault) (stop : Stop) → Fails fault (log_reading frame text) → StopsFor name fault stop → Follows {X = List ℕ} (Err stop) (log_file files frame name)
    refuses (read_fault.Text f) (Refused n refusal) fails is = outcome_is ∙ rw (fails, is.0, is.1) refl
    refuses (read_fault.Text f) (Fault n) fails is = absurd is
    refuses (read_fault.Text f) NoMemory fails is = absurd is
    refuses read_fault.NoMemory stop fails is = rw is tt

    serves : (facts : LogFacts) → log_reading frame text ≡ Ok facts → (log_file files frame name).outcome ≡ Ok text
    serves facts reads = outcome_is ∙ rw reads refl

-- a file whose text is added, or refused
pub file_follows : {X : Type 0} (files : List File) (frame : LogFrame) (old new : List (List ℕ)) (name text : List ℕ) (answer : Result X ReadFault) (result : Result X Stop)
    → text_of files name ≡ Some text → length text ≤ file_limit → IsNamed name answer result
    → OnOk answer (IsTaken frame text old new) → IfErr answer (λ fault. Fails fault (log_reading frame text))
    → FileFollows frame result old new (log_file files frame name)
file_follows files frame old new name text (Ok x) (Ok y) held within is taken fails = record {
  text = text;
  serves = serves files frame name text held within taken.facts taken.reads;
  taken = taken;
}
file_follows files frame old new name text (Err fault) (Err stop) held within is taken fails = refuses files frame name text held within fault stop fails is
file_follows files frame old new name text (Ok x) (Err stop) held within is taken fails = absurd is
file_follows files frame old new name text (Err fault) (Ok y) held within is taken fails = absurd is

-- ---- the names one after another

-- the texts are the different ones of the files of the names before what is left
pub record AreReadBefore (files : List File) (frame : LogFrame) (names left texts : List (List ℕ)) : Type 0 where
  pub all : List (List ℕ)
  pub goes_on : GoesOn files frame names all left
  pub are_different : texts ≡ different all

module _ (files : List File) (frame : LogFrame) (names : List (List ℕ)) where
  pub none_before : AreReadBefore files frame names names []
  none_before = record { all = []; goes_on = λ result follows. follows; are_different = refl }

  module _ (left rest : List (List ℕ)) (name : List ℕ) (next : left ≡ name ∷ rest) (texts : List (List ℕ)) (before : AreReadBefore files frame names left texts) where
    -- a log that serves: its text comes after the others
    pub one_more : (new : List (List ℕ)) → IsFileTaken frame (log_file files frame name) texts new → AreReadBefore files frame names rest new
    one_more new file = record {
      all = before.all ++ file.text ∷ [];
      goes_on = λ result follows.
          before.goes_on result (rw next (comes_after (log_file files frame name) (λ t. logs_after files frame (before.all ++ t ∷ []) rest) halt_of (λ x. x) file.text result file.serves follows));
      are_different = file.taken.added ∙ ap (λ ts. with_text ts file.text) before.are_different ∙ sym (one_more_different before.all file.text);
    }

    -- a log that doesn't serve stops them all
    pub one_stops : (stop : Stop) → Follows {X = List ℕ} (Err stop) (log_file files frame name) → Follows {X = List (List ℕ)} (Err stop) (logs_reading files frame names)
    one_stops stop follows =
        before.goes_on (Err stop) (rw next (at_halt (log_file files frame name) (λ t. logs_after files frame (before.all ++ t ∷ []) rest) (halt_of stop) follows))

  -- where no name is left, the logs are read
  pub none_left : (left texts : List (List ℕ)) → AreReadBefore files frame names left texts → left ≡ [] → AreRead (logs_reading files frame names) texts
  none_left left texts before none = record {
    all = before.all;
    serve = before.goes_on (Ok before.all) (rw none refl);
    are_different = before.are_different;
  }

-- ---- the report

module _ (files : List File) (frame : LogFrame) (names : List (List ℕ)) (report : List (List ℕ) → List ℕ) where
  pub no_report : (stop : Stop) → Follows {X = List (List ℕ)} (Err stop) (logs_reading files frame names) → Follows {X = List ℕ} (Err stop) (logs_report files frame names report)
  no_report stop is = at_halt (logs_reading files frame names) (λ texts. value (report texts)) (halt_of stop) is

  -- the report of logs that are read
  pub report_follows : (texts : List (List ℕ)) (written : List ℕ) (read : AreRead (logs_reading files frame names) texts) → written ≡ report read.all → Follows (Ok written) (logs_report files frame names report)
  report_follows texts written read is =
      comes_after (logs_reading files frame names) (λ texts. value (report texts)) halt_of (λ x. x) read.all (Ok written) read.serve (ap Ok (sym is))
