-- Dies of the same names with logs of the same texts.
use Rattle.std.proofs.Common.{◌≡◌, ℕ, List, ◌∷◌, sym, ap, ◌∙◌, subst}
use Rattle.std.specs.Arc.{arc_value}
use Rattle.scan_model.specs.ScanTest.{ScanTest}
use Rattle.scan_model.specs.DieReport.{die_report}
use Rattle.diagnosis.specs.declared.put.Put.{Put}
use Rattle.diagnosis.specs.declared.put.Put.TheVariants.{Created, Same}
use Rattle.diagnosis.specs.LogAddition.{Added}
use Rattle.diagnosis.specs.Designs.{DesignFacts, ReadLogFacts, ViewFacts, IsLogOf, texts_of, view_report}
use Rattle.die_entries.specs.Entries.{arc_values}
use Rattle.die_entries.proofs.MoreLogs.{Log}

-- one more log before those of equal texts
pub texts_behind : (rest others more other_more : List Log) (log other : Log) → rest ≡ log ∷ more → others ≡ other ∷ other_more → (arc_value log).text ≡ (arc_value other).text
    → texts_of (arc_values more) ≡ texts_of (arc_values other_more) → texts_of (arc_values rest) ≡ texts_of (arc_values others)
texts_behind rest others more other_more log other is other_is first behind =
    let texts : List Log → List (List ℕ) = λ logs. texts_of (arc_values logs) in
    ap texts is ∙ ap (λ (t : List ℕ). t ∷ texts more) first ∙ ap (λ (ts : List (List ℕ)). (arc_value other).text ∷ ts) behind ∙ sym (ap texts other_is)

-- they have the same report
pub same_report : (v w : ViewFacts) → v.design.name ≡ w.design.name → v.design.test ≡ w.design.test → v.die ≡ w.die → texts_of v.logs ≡ texts_of w.logs → view_report v ≡ view_report w
same_report v w names tests dies texts =
    ap (λ (t : ScanTest). die_report t v.design.name v.die (texts_of v.logs)) tests
    ∙ ap (λ (name : List ℕ). die_report w.design.test name v.die (texts_of v.logs)) names
    ∙ ap (λ (die : List ℕ). die_report w.design.test w.design.name die (texts_of v.logs)) dies
    ∙ ap (λ (ts : List (List ℕ)). die_report w.design.test w.design.name w.die ts) texts

-- a die that takes a log stays one of its design
pub added_stays : (put : Put) (log : ReadLogFacts) (old new : ViewFacts) → Added put log old new → new.design ≡ old.design
added_stays (Created number) log old new added = ap (λ (v : ViewFacts). v.design) added.2
added_stays (Same number) log old new added = ap (λ (v : ViewFacts). v.design) added.2

-- a log of a die is one of the same die
pub is_log_as : (d e : DesignFacts) (die x : List ℕ) (log copy : ReadLogFacts) → e ≡ d → x ≡ die → copy ≡ log → IsLogOf e x log → IsLogOf d die copy
is_log_as d e die x log copy design names same is =
    subst (λ (v : DesignFacts). IsLogOf v die copy) design (subst (λ (n : List ℕ). IsLogOf e n copy) names (subst (IsLogOf e x) (sym same) is))
