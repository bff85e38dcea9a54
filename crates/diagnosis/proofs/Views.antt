-- Views of a die, which are cases with the bundle of their design.
use Rattle.std.proofs.Common.{◌≡◌, ℕ, true, List, [], Result, refl, ap, ◌∙◌}
use Rattle.std.specs.Prelude.{IfOk, OnErr}
use Rattle.std.specs.List.{IsDistinct}
use Rattle.std.proofs.lemmas.List.Elements.{All-nil, All-weaker}
use Rattle.scan_model.specs.declared.rows.NoMemory.{NoMemory}
use Rattle.scan_model.specs.ScanTest.{ScanTest}
use Rattle.scan_model.specs.Words.{is_tag}
use Rattle.diagnosis.specs.declared.put.Put.{Put}
use Rattle.diagnosis.specs.declared.put.Put.TheVariants.{Created, Same}
use Rattle.diagnosis.specs.Designs.{DesignFacts, IsDesign, ReadLogFacts, ViewFacts, IsView, IsLogOf}
use Rattle.diagnosis.specs.LogAddition.{Added}
use Rattle.diagnosis.specs.Cases.{IsCase, IsLogOver, AddedAmong, case_of}
use Rattle.diagnosis.proofs.Cases.{case_with, same_case, case_after}

pub view_without_logs : (d : DesignFacts) (die : List ℕ) → IsDesign d → is_tag die ≡ true → IsView (record { design = d; die = die; logs = [] })
unfolding IsDistinct
view_without_logs d die design tag = record { design = design; die = tag; logs = All-nil (IsLogOf d die); differ = tt }

abbrev pub view_with : DesignFacts → List ℕ → List ReadLogFacts → ViewFacts
view_with design die logs = record { design = design; die = die; logs = logs }

-- a view is its parts
pub same_view : (v : ViewFacts) (design : DesignFacts) (die : List ℕ) (logs : List ReadLogFacts) → design ≡ v.design → die ≡ v.die → logs ≡ v.logs → view_with design die logs ≡ v
same_view v design die logs is_design is_die are_logs = rw (is_design, is_die, are_logs) refl

-- ---- views and cases

over_parts : (d : DesignFacts) (die : List ℕ) (log : ReadLogFacts) → IsLogOf d die log → IsLogOver d.test d.name die log
over_parts d die log of = record { of_design = of.of_design; of_die = of.of_die; stands = of.stands }

of_design : (d : DesignFacts) (die : List ℕ) (log : ReadLogFacts) → IsLogOver d.test d.name die log → IsLogOf d die log
of_design d die log of = record { of_design = of.of_design; of_die = of.of_die; stands = of.stands }

pub view_is_case : (v : ViewFacts) → IsView v → IsCase (case_of v)
view_is_case v view = record {
  design = view.design.name;
  die = view.die;
  logs = All-weaker (IsLogOf v.design v.die) (IsLogOver v.design.test v.design.name v.die) (over_parts v.design v.die) v.logs view.logs;
  differ = view.differ;
}

view_of_case : (v : ViewFacts) → IsDesign v.design → IsCase (case_of v) → IsView v
view_of_case v design case = record {
  design = design;
  die = case.die;
  logs = All-weaker (IsLogOver v.design.test v.design.name v.die) (IsLogOf v.design v.die) (of_design v.design v.die) v.logs case.logs;
  differ = case.differ;
}

-- parts of a view are those of its case
pub case_is : (v : ViewFacts) (d : DesignFacts) (t : ScanTest) (design die : List ℕ) (logs : List ReadLogFacts) → d ≡ v.design → t ≡ d.test → design ≡ d.name → die ≡ v.die → logs ≡ v.logs
    → case_with t design die logs ≡ case_of v
case_is v d t design die logs of_design is_test is_design is_die are_logs =
    same_case (case_of v) t design die logs (is_test ∙ ap (λ (d : DesignFacts). d.test) of_design) (is_design ∙ ap (λ (d : DesignFacts). d.name) of_design) is_die are_logs

-- ---- a log is added

pub view_after : (v : ViewFacts) (log : ReadLogFacts) (answer : Result Put NoMemory) (new : List ReadLogFacts) → IsView v → IsLogOf v.design v.die log
    → IfOk answer (λ put. AddedAmong put log v.logs new) → OnErr answer (new ≡ v.logs) → IsView (view_with v.design v.die new)
view_after v log answer new view of added kept =
    view_of_case (view_with v.design v.die new) view.design (case_after (case_of v) log (view_is_case v view) (over_parts v.design v.die log of) answer new added kept)

pub view_added : (v : ViewFacts) (log : ReadLogFacts) (put : Put) (new : List ReadLogFacts) → AddedAmong put log v.logs new → Added put log v (view_with v.design v.die new)
view_added v log (Created number) new added = (added.0, added.1, ap (view_with v.design v.die) added.2)
view_added v log (Same number) new added = (added.0, added.1, ap (view_with v.design v.die) added.2)
