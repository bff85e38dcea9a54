-- Logs that are added to a case, and its report.
use Rattle.std.proofs.Common.{◌≡◌, ◌∙◌, ℕ, List, [], ◌∷◌, ap, refl}
use Rattle.std.specs.Prelude.{filter_map}
use Rattle.std.proofs.lemmas.List.{map-append}
use Rattle.desk_outside.specs.declared.shelf.File.{File}
use Rattle.scan_model.specs.ScanTest.{ScanTest}
use Rattle.scan_model.specs.Universe.{universe}
use Rattle.scan_model.specs.LogText.{log_frame, log_reading}
use Rattle.scan_model.specs.ReportText.{report_text_among}
use Rattle.scan_model.specs.DieReport.{accepted, die_report, different}
use Rattle.diagnosis.specs.declared.put.Put.{Put}
use Rattle.diagnosis.specs.declared.put.Put.TheVariants.{Created, Same}
use Rattle.diagnosis.specs.Designs.{ReadLogFacts, texts_of}
use Rattle.diagnosis.specs.Texts.{ReadTexts}
use Rattle.diagnosis.specs.Cases.{CaseFacts, AddedAmong, IsTextAdded, case_report, log_in, with_logs}
use Rattle.command_words.specs.Invocations.{Request}
use Rattle.desk_commands.specs.Work.{logs_report, with_design}
use Rattle.desk_commands.specs.Logs.{IsTaken, with_text}
use Rattle.desk_commands.proofs.DifferentTexts.{different_again}

texts_after : (put : Put) (log : ReadLogFacts) (old new : List ReadLogFacts) → AddedAmong put log old new → texts_of new ≡ with_text (texts_of old) log.text
texts_after (Created number) log old new added = ap texts_of added.2 ∙ map-append (λ (l : ReadLogFacts). l.text) old (log ∷ []) ∙ rw added.0 refl
texts_after (Same number) log old new added = ap texts_of added.2 ∙ rw added.0 refl

pub text_taken : (put : Put) (text : List ℕ) (old : CaseFacts) (new : List ReadLogFacts) → IsTextAdded put text old new → IsTaken (log_frame old.test old.design old.die) text (texts_of old.logs) (texts_of new)
text_taken put text old new is = record {
  facts = is.facts;
  reads = is.reads;
  added = texts_after put (log_in old text is.facts) old.logs new is.added;
}

-- ---- the report of a case

same_report : (t : ScanTest) (design die : List ℕ) (texts : List (List ℕ)) → die_report t design die (different texts) ≡ die_report t design die texts
same_report t design die texts =
    ap (λ ts. report_text_among (universe t) t design die (filter_map (λ text. accepted (log_reading (log_frame t design die) text)) ts)) (different_again texts)

-- over the different ones of some texts it is the report over them
pub report_is : (k new : CaseFacts) (texts : List (List ℕ)) → with_logs new [] ≡ with_logs k [] → texts_of new.logs ≡ different texts → case_report new ≡ die_report k.test k.design k.die texts
report_is k new texts kept are =
    ap (λ ts. die_report new.test new.design new.die ts) are
    ∙ same_report new.test new.design new.die texts
    ∙ ap (λ (k : CaseFacts). die_report k.test k.design k.die texts) kept

-- the logs of a case that is of a request come to what those of the request come to
pub same_reading : (files : List File) (r : Request) (d : ReadTexts) (k : CaseFacts) (names : List (List ℕ)) → k.test ≡ d.test → k.design ≡ r.design → k.die ≡ r.die → names ≡ r.logs
    → logs_report files (log_frame k.test k.design k.die) names (die_report k.test k.design k.die) ≡ with_design files r d
same_reading files r d k names test design die logs =
    ap (λ (t : ScanTest). logs_report files (log_frame t k.design k.die) names (die_report t k.design k.die)) test
    ∙ ap (λ (n : List ℕ). logs_report files (log_frame d.test n k.die) names (die_report d.test n k.die)) design
    ∙ ap (λ (n : List ℕ). logs_report files (log_frame d.test r.design n) names (die_report d.test r.design n)) die
    ∙ ap (λ (ns : List (List ℕ)). logs_report files (log_frame d.test r.design r.die) ns (die_report d.test r.design r.die)) logs
