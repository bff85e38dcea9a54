-- Reading a predicted log gives back the predicted fails.
use Rattle.std.proofs.Common.{◌≡◌, ℕ, ◌+◌, Bool, true, false, List, [], ◌∷◌, ◌++◌, length, map, Option, None, Result, Ok, refl, ap, ◌∙◌, arith}
use Rattle.std.specs.Prelude.{filter_map}
use Rattle.std.specs.List.{list_any}
use Rattle.scan_model.specs.declared.fault.Fault.{Fault}
use Rattle.scan_model.specs.declared.logs.Bit.{Bit}
use Rattle.scan_model.specs.declared.logs.LogFacts.{LogFacts}
use Rattle.scan_model.specs.ScanTest.{ScanTest, IsScanTest}
use Rattle.scan_model.specs.Lines.{text_lines}
use Rattle.scan_model.specs.Words.{is_tag}
use Rattle.scan_model.specs.TextFaults.{first_fault, refused_or}
use Rattle.scan_model.specs.ReportText.{spaced}
use Rattle.scan_model.specs.declared.logs.Range.{Range}
use Rattle.scan_model.specs.declared.logs.CutGroup.{CutGroup}
use Rattle.scan_model.specs.LogText.{LogFrame, LogLine, log_frame, end_line, later_lines, log_rule, log_of_lines, log_reading, is_truncated, bits_listed, group_cut, group_points, each_once}
use Rattle.diag_report.specs.PredictedLog.{predicted_log, predicted_bits, predicted_facts, last_pattern, HasWordNames}
use Rattle.diag_report.proofs.PlainWords.{AreLines, lines_back, later_back}
use Rattle.diag_report.proofs.LogForms.{fail_words, title_words, header_words, end_words, log_words, log_is, fail_form, header_forms, tail_forms, ranges_are, none_cut, truncated_by}
use Rattle.diag_report.proofs.LogRules.{whole}
use Rattle.diag_report.proofs.ListedBits.{all_listed}
use Rattle.diag_report.proofs.LogWalk.{log_are_lines, no_fault_in}
use Rattle.diag_report.proofs.LogBits.{bits_back}

abbrev facts_with : List Range → Bool → List Bit → List CutGroup → (List CutGroup → List (List ℕ)) → LogFacts
facts_with ranges truncated fails groups points = record { ranges = ranges; truncated = truncated; fails = fails; cuts = points groups }

module _ (t : ScanTest) (sound : IsScanTest t) (design die : List ℕ) (f : Fault) where
  abbrev forms : List LogLine
  forms = header_forms design die (last_pattern t) ++ (map (fail_form t) (predicted_bits t f) ++ end_line ∷ [])

  facts_are : log_of_lines (log_frame t design die) forms ≡ predicted_facts t f
  facts_are =
      let frame = log_frame t design die in
      let last : ℕ = last_pattern t in
      let points : List CutGroup → List (List ℕ) = λ gs. map (group_points frame.points) (each_once gs) in
      let truncated : Bool = list_any is_truncated forms in
      let groups : List CutGroup = filter_map (group_cut frame) forms in
      ap (λ (rs : List Range). facts_with rs truncated (bits_listed frame forms) groups points) (ranges_are t design die last (predicted_bits t f) (end_line ∷ []) refl (omega (arith, sound.patterns.few)))
      ∙ ap (λ (gs : List CutGroup). facts_with (whole last ∷ []) truncated (bits_listed frame forms) gs points) (none_cut t design die last (predicted_bits t f) frame (end_line ∷ []))
      ∙ ap (λ (b : Bool). facts_with (whole last ∷ []) b (bits_listed frame forms) [] points) (truncated_by t design die last (predicted_bits t f) (end_line ∷ []))
      ∙ ap (λ (bits : List Bit). facts_with (whole last ∷ []) false bits [] points) (bits_back t sound design die f)

  pub reads_back : is_tag design ≡ true → is_tag die ≡ true → HasWordNames t → log_reading (log_frame t design die) (predicted_log t design die f) ≡ Ok (predicted_facts t f)
  reads_back design_tag die_tag names =
      let frame : LogFrame = log_frame t design die in
      let words = log_words t design die (predicted_bits t f) in
      let rest = header_words design die (last_pattern t) ++ (map (fail_words t) (predicted_bits t f) ++ end_words) in
      let lines : AreLines words = log_are_lines t sound names design die f (predicted_bits t f) design_tag die_tag (all_listed t f) in
      let text : text_lines (predicted_log t design die f) ≡ map spaced words = ap text_lines (log_is t design die f) ∙ lines_back words lines in
      let none : first_fault (log_rule frame (map spaced words)) (length (map spaced words) + 1) ≡ None = no_fault_in t sound design die f (predicted_bits t f) lines (all_listed t f) in
      let later : later_lines frame.form (map spaced words) ≡ forms =
      later_back frame.form title_words rest lines ∙ ap (λ (fs : List LogLine). header_forms design die (last_pattern t) ++ fs) (tail_forms t (predicted_bits t f)) in
      ap (λ (ls : List (List ℕ)). refused_or (first_fault (log_rule frame ls) (length ls + 1)) (log_of_lines frame (later_lines frame.form ls))) text
      ∙ ap (λ (o : Option (ℕ × ℕ)). refused_or o (log_of_lines frame (later_lines frame.form (map spaced words)))) none
      ∙ ap (λ (x : LogFacts). let r : Result LogFacts (ℕ × ℕ) = Ok x in r) (ap (log_of_lines frame) later ∙ facts_are)
