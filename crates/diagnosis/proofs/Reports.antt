-- The report that is written.
use Rattle.std.proofs.Common.{◌≡◌, ◌<◌, ◌∙◌, ℕ, List, length, sym, subst, ap}
use Rattle.std.specs.Prelude.{All, IsPermutation}
use Rattle.std.specs.List.{IsDistinct}
use Rattle.std.proofs.lemmas.List.Sorted.{All-permutation}
use Rattle.scan_model.specs.declared.logs.LogFacts.{LogFacts}
use Rattle.scan_model.specs.declared.logs.Scored.{Scored}
use Rattle.scan_model.specs.ScanTest.{ScanTest}
use Rattle.scan_model.specs.Universe.{universe}
use Rattle.scan_model.specs.MatchCounts.{candidates}
use Rattle.scan_model.specs.Ranking.{same_place, ranked}
use Rattle.scan_model.specs.ReportText.{report_layout, report_lines}
use Rattle.scan_model.proofs.CandidatePlaces.{candidates_below, candidates_distinct}
use Rattle.diagnosis.specs.Designs.{facts_of}
use Rattle.diagnosis.specs.Cases.{CaseFacts, IsCase, case_lines}
use Rattle.diagnosis.proofs.Cases.{texts_stand}

module _ (t : ScanTest) (logs : List LogFacts) (counted sorted : List Scored) (all : counted ≡ candidates t logs) where
  -- the rows are places of the universe
  pub places : IsPermutation counted sorted → All (λ (row : Scored). row.place < length (universe t)) sorted
  places same =
      let Below : Scored → Type 0 = λ row. row.place < length (universe t) in
      All-permutation Below counted sorted same (subst (All Below) (sym all) (candidates_below (universe t) t logs))

  -- they are in ranking order
  pub in_order : (IsDistinct same_place counted → sorted ≡ ranked counted) → sorted ≡ ranked (candidates t logs)
  in_order one = one (subst (IsDistinct same_place) (sym all) (candidates_distinct (universe t) t logs)) ∙ ap ranked all

  -- and make the report
  pub layout_is_report : (d e design die : List ℕ) (count : ℕ) → (IsDistinct same_place counted → sorted ≡ ranked counted)
      → d ≡ design → e ≡ die → count ≡ length logs → report_layout (universe t) t d e count logs sorted ≡ report_lines t design die logs
  layout_is_report d e design die count one is_design is_die is_count =
      ap (λ rows. report_layout (universe t) t d e count logs rows) (in_order one)
      ∙ ap (λ n. report_layout (universe t) t d e n logs (ranked (candidates t logs))) is_count
      ∙ ap (λ n. report_layout (universe t) t n e (length logs) logs (ranked (candidates t logs))) is_design
      ∙ ap (λ n. report_layout (universe t) t design n (length logs) logs (ranked (candidates t logs))) is_die

-- over the logs of a case they are its report's lines
pub case_lines_are : (k : CaseFacts) → IsCase k → report_lines k.test k.design k.die (facts_of k.logs) ≡ case_lines k
case_lines_are k case = ap (report_lines k.test k.design k.die) (sym (texts_stand k case))
