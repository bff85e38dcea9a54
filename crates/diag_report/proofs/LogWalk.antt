-- A predicted log has no fault.
use Rattle.std.proofs.Common.{◌≡◌, ℕ, suc, ◌+◌, ◌<◌, Bool, true, false, not, ltb, List, [], ◌∷◌, ◌++◌, length, map, get_or, Option, None, refl, sym, ap, subst, ◌∙◌, append-nil, length-append, arith}
use Rattle.std.specs.Prelude.{codes, decimal}
use Rattle.std.specs.List.{AllByRecursion}
use Rattle.std.proofs.lemmas.Bool.Decides.{nat_tests}
use Rattle.std.proofs.lemmas.List.{length-map}
use Rattle.scan_model.specs.declared.parts.Point.{Point}
use Rattle.scan_model.specs.declared.parts.Point.TheVariants.{Output, Cell}
use Rattle.scan_model.specs.declared.fault.Fault.{Fault}
use Rattle.scan_model.specs.declared.logs.Bit.{Bit}
use Rattle.scan_model.specs.ScanTest.{ScanTest, IsScanTest, IsPoint, no_chain, name_of, chain_at, point_at}
use Rattle.scan_model.specs.Words.{is_tag}
use Rattle.scan_model.specs.TextFaults.{lowest, fault_from, first_fault}
use Rattle.scan_model.specs.declared.rules.TheConstants.{OTHER_DESIGN, OTHER_DIE}
use Rattle.scan_model.specs.ReportText.{spaced, point_words}
use Rattle.scan_model.specs.declared.logs.LogVersion.TheVariants.{First}
use Rattle.scan_model.specs.LogText.{LogFrame, LogLine, Headers, log_frame, is_shift, log_rule, later_rules, headers_in, has_all, is_closed, die_line, design_line, end_line}
use Rattle.scan_model.proofs.Points.{points_are_points}
use Rattle.diag_report.specs.PredictedLog.{last_pattern, HasWordNames, tested_words}
use Rattle.diag_report.proofs.PlainWords.{AreNames, IsLine, AreLines, tag_is_name}
use Rattle.diag_report.proofs.NumberWords.{number_back, decimal_is_name}
use Rattle.diag_report.proofs.LogForms.{fail_words, title_words, header_words, end_words, log_words, point_form, fail_form, header_forms, plain_line, form_is, forms_are, tail_forms, closed_by, has_headers, tested_is}
use Rattle.diag_report.proofs.LogRules.{later_rule, title_rule, end_rule, tested_accepted, out_accepted, cell_accepted, end_accepted, line_passes, whole as whole_range}
use Rattle.diag_report.proofs.ListedBits.{IsListed, predicts_at, predicts_is, captures, same_bytes, output_named, cells_short, chain_named}

zero_below : (n : ℕ) → ltb 0 (suc n) ≡ true
zero_below n = grind (arith, nat_tests)

-- ---- words

module _ (t : ScanTest) (sound : IsScanTest t) (names : HasWordNames t) where
  point_names : (s : Point) → IsPoint t s → AreNames (point_words t s)
  point_names (Output k) within = (refl, (names.outputs k 0 within, tt))
  point_names (Cell h i) within = (refl, (names.chains h no_chain within.0, (decimal_is_name i (omega (arith, within.1, cells_short t sound h within.0)), tt)))

  fail_is_line : (f : Fault) (b : Bit) → IsListed t f b → IsLine (fail_words t b)
  fail_is_line f b listed =
      let s : Point = point_at t b.point in
      (zero_below (suc (length (point_words t s))), (refl, (decimal_is_name b.pattern (omega (arith, listed.0.0, sound.patterns.few)), point_names s (points_are_points t b.point (Output 0) listed.0.1))))

  tail_are_lines : (f : Fault) (bits : List Bit) → AllByRecursion (IsListed t f) bits → AreLines (map (fail_words t) bits ++ end_words)
  tail_are_lines f [] all = ((refl, (refl, tt)), tt)
  tail_are_lines f (b ∷ bits) all = (fail_is_line f b all.0, tail_are_lines f bits all.1)

  pub log_are_lines : (design die : List ℕ) (f : Fault) (bits : List Bit) → is_tag design ≡ true → is_tag die ≡ true → AllByRecursion (IsListed t f) bits → AreLines (log_words t design die bits)
  log_are_lines design die f bits design_tag die_tag all =
      let first = decimal_is_name 0 (omega arith) in
      let last = decimal_is_name (last_pattern t) (omega (arith, sound.patterns.few)) in
      let tail = tail_are_lines f bits all in
      ((refl, (refl, (refl, tt))), ((refl, (refl, (tag_is_name die die_tag, tt))), ((refl, (refl, (tag_is_name design design_tag, tt))), ((refl, (refl, (first, (last, tt)))), tail))))

-- ---- fail lines

module _ (t : ScanTest) (sound : IsScanTest t) (design die : List ℕ) (f : Fault) where
  abbrev frame : LogFrame
  frame = log_frame t design die

  accepted_at : (h : Headers) (w : ℕ) → h.ranges ≡ whole_range (last_pattern t) ∷ [] → has_all h ≡ true → w < length t.patterns → (s : Point) → IsPoint t s → predicts_at t f w s ≡ true → lowest (later_rules frame First h (point_form t w s)) ≡ None
  accepted_at h w tested all lt (Output k) within predicted =
      out_accepted frame h (decimal w) (name_of t (get_or t.netlist.outputs k 0)) w (last_pattern t) (number_back w (omega (arith, lt, sound.patterns.few))) (output_named t design die k within) tested (omega (arith, lt))
      (captures t f w k lt predicted) all
  accepted_at h w tested all lt (Cell g i) within predicted =
      cell_accepted frame h (decimal w) (chain_at t g).name (decimal i) w i (last_pattern t) (number_back w (omega (arith, lt, sound.patterns.few))) (number_back i (omega (arith, within.1, cells_short t sound g within.0)))
      (omega (arith, chain_named t sound design die g within.0, within.1)) tested (omega (arith, lt)) all

  fail_accepted : (h : Headers) (b : Bit) → h.ranges ≡ whole_range (last_pattern t) ∷ [] → has_all h ≡ true → IsListed t f b → lowest (later_rules frame First h (plain_line (fail_words t b))) ≡ None
  fail_accepted h b tested all listed =
      let s : Point = point_at t b.point in
      ap (λ (l : LogLine). lowest (later_rules frame First h l)) (form_is t b.pattern s)
      ∙ accepted_at h b.pattern tested all listed.0.0 s (points_are_points t b.point (Output 0) listed.0.1) (sym (predicts_is t f b listed.0.1) ∙ listed.1)

-- ---- line by line

module _ (t : ScanTest) (sound : IsScanTest t) (design die : List ℕ) (f : Fault) where
  abbrev whole : List (List (List ℕ)) → List (List (List ℕ))
  whole rest = title_words ∷ (header_words design die (last_pattern t) ++ rest)

  abbrev rule_in : List (List (List ℕ)) → ℕ → Option ℕ
  rule_in rest i = log_rule (log_frame t design die) (map spaced (whole rest)) i

  small_last : last_pattern t < 4294967296
  small_last = omega (arith, sound.patterns.few)

  rule_here : (done : List Bit) (ws : List (List ℕ)) (after : List (List (List ℕ))) → AreLines (whole (map (fail_words t) done ++ ws ∷ after))
      → rule_in (map (fail_words t) done ++ ws ∷ after) (4 + length done) ≡ lowest (later_rules (log_frame t design die) First (headers_in (header_forms design die (last_pattern t) ++ map (fail_form t) done)) (plain_line ws))
  rule_here done ws after names =
      let rest : List (List (List ℕ)) = map (fail_words t) done ++ ws ∷ after in
      let place : 4 + length done ≡ length (title_words ∷ (header_words design die (last_pattern t) ++ map (fail_words t) done)) = omega (arith, length-map done (fail_words t)) in
      let unclosed : is_closed (map plain_line (header_words design die (last_pattern t) ++ map (fail_words t) done)) ≡ false =
      ap (λ (fs : List LogLine). is_closed (header_forms design die (last_pattern t) ++ fs)) (forms_are t done ∙ sym (append-nil (map (fail_form t) done))) ∙ closed_by t design die (last_pattern t) done [] in
      ap (rule_in rest) place ∙ later_rule (log_frame t design die) title_words (header_words design die (last_pattern t) ++ map (fail_words t) done) ws after names refl unclosed
      ∙ ap (λ (fs : List LogLine). lowest (later_rules (log_frame t design die) First (headers_in (header_forms design die (last_pattern t) ++ fs)) (plain_line ws))) (forms_are t done)

  move : (done : List Bit) (b : Bit) (rest : List (List (List ℕ))) → map (fail_words t) (done ++ b ∷ []) ++ rest ≡ map (fail_words t) done ++ fail_words t b ∷ rest
  move [] b rest = refl
  move (d ∷ done) b rest = ap (λ (wss : List (List (List ℕ))). fail_words t d ∷ wss) (move done b rest)

  one_longer : (done : List Bit) (b : Bit) → length (done ++ b ∷ []) ≡ length done + 1
  one_longer done b = length-append done (b ∷ [])

  walk : (rest : List (List (List ℕ))) (done todo : List Bit) → rest ≡ map (fail_words t) done ++ (map (fail_words t) todo ++ end_words) → AreLines (whole rest) → AllByRecursion (IsListed t f) todo
      → fault_from (rule_in rest) (4 + length done) (length todo + 2) ≡ None
  walk rest done [] e names all =
      let frame = log_frame t design die in
      let h = headers_in (header_forms design die (last_pattern t) ++ map (fail_form t) done) in
      let passes : rule_in rest (4 + length done) ≡ None =
      ap (λ (r : List (List (List ℕ))). rule_in r (4 + length done)) e ∙ rule_here done (codes "end" ∷ []) [] (subst (λ (r : List (List (List ℕ))). AreLines (whole r)) e names)
      ∙ end_accepted frame h (last_pattern t) (tested_is t design die (last_pattern t) done small_last) (has_headers t design die (last_pattern t) done (map (fail_form t) done)) in
      let closed : is_closed (map plain_line (header_words design die (last_pattern t) ++ rest)) ≡ true =
      ap (λ (r : List (List (List ℕ))). is_closed (map plain_line (header_words design die (last_pattern t) ++ r))) e ∙ ap (λ (fs : List LogLine). is_closed (header_forms design die (last_pattern t) ++ fs)) (tail_forms t done)
      ∙ closed_by t design die (last_pattern t) done (end_line ∷ []) in
      let many : length (map spaced (whole rest)) ≡ length (whole rest) = length-map (whole rest) spaced in
      let tail : length rest ≡ length (map (fail_words t) done) + 1 = ap length e ∙ length-append (map (fail_words t) done) end_words in
      let place : (4 + length done) + 1 ≡ length (map spaced (whole rest)) = omega (arith, many, tail, length-map done (fail_words t)) in
      let past : rule_in rest ((4 + length done) + 1) ≡ None = ap (rule_in rest) place ∙ end_rule frame title_words (header_words design die (last_pattern t) ++ rest) names closed in
      line_passes (rule_in rest) (4 + length done) 1 2 refl passes (line_passes (rule_in rest) ((4 + length done) + 1) 0 1 refl past refl)
  walk rest done (b ∷ todo) e names all =
      let frame = log_frame t design die in
      let h = headers_in (header_forms design die (last_pattern t) ++ map (fail_form t) done) in
      let after : List (List (List ℕ)) = map (fail_words t) todo ++ end_words in
      let passes : rule_in rest (4 + length done) ≡ None =
      ap (λ (r : List (List (List ℕ))). rule_in r (4 + length done)) e ∙ rule_here done (fail_words t b) after (subst (λ (r : List (List (List ℕ))). AreLines (whole r)) e names)
      ∙ fail_accepted t sound design die f h b (tested_is t design die (last_pattern t) done small_last) (has_headers t design die (last_pattern t) done (map (fail_form t) done)) all.0 in
      let later : fault_from (rule_in rest) (4 + length (done ++ b ∷ [])) (length todo + 2) ≡ None = walk rest (done ++ b ∷ []) todo (e ∙ sym (move done b after)) names all.1 in
      let place : 4 + length (done ++ b ∷ []) ≡ (4 + length done) + 1 = omega (arith, one_longer done b) in
      line_passes (rule_in rest) (4 + length done) (length todo + 2) (length (b ∷ todo) + 2) (omega arith) passes (subst (λ (n : ℕ). fault_from (rule_in rest) n (length todo + 2) ≡ None) place later)

  pub no_fault_in : (bits : List Bit) → AreLines (log_words t design die bits) → AllByRecursion (IsListed t f) bits
      → first_fault (log_rule (log_frame t design die) (map spaced (log_words t design die bits))) (length (map spaced (log_words t design die bits)) + 1) ≡ None
  no_fault_in bits names all =
      let frame = log_frame t design die in
      let last : ℕ = last_pattern t in
      let rest : List (List (List ℕ)) = map (fail_words t) bits ++ end_words in
      let rule = rule_in rest in
      let many : length (map spaced (whole rest)) ≡ length (whole rest) = length-map (whole rest) spaced in
      let tail : length rest ≡ length (map (fail_words t) bits) + 1 = length-append (map (fail_words t) bits) end_words in
      let count : length (map spaced (whole rest)) + 1 ≡ suc (suc (suc (suc (length bits + 2)))) = omega (arith, many, tail, length-map bits (fail_words t)) in
      let die_words : List (List ℕ) = codes "die" ∷ die ∷ [] in
      let design_words : List (List ℕ) = codes "design" ∷ design ∷ [] in
      let die_passes : rule 1 ≡ None = later_rule frame title_words [] die_words (design_words ∷ tested_words last ∷ rest) names refl refl ∙ ap (λ (b : Bool). lowest ((OTHER_DIE, not b) ∷ [])) (same_bytes die) in
      let design_passes : rule 2 ≡ None = later_rule frame title_words (die_words ∷ []) design_words (tested_words last ∷ rest) names refl refl ∙ ap (λ (b : Bool). lowest ((OTHER_DESIGN, not b) ∷ [])) (same_bytes design) in
      let shifts : length (map is_shift t.patterns) ≡ length t.patterns = length-map t.patterns is_shift in
      let tested_passes : rule 3 ≡ None =
      later_rule frame title_words (die_words ∷ design_words ∷ []) (tested_words last) rest names refl refl
      ∙ tested_accepted frame (decimal 0) (decimal last) last (headers_in (die_line die ∷ design_line design ∷ [])) (number_back 0 (omega arith)) (number_back last small_last) (omega (arith, shifts, sound.patterns.some)) refl in
      line_passes rule 0 (suc (suc (suc (length bits + 2)))) _ count (title_rule frame (header_words design die last ++ rest) refl names)
      (line_passes rule 1 (suc (suc (length bits + 2))) _ refl die_passes (line_passes rule 2 (suc (length bits + 2)) _ refl design_passes (line_passes rule 3 (length bits + 2) _ refl tested_passes (walk rest [] bits refl names all))))
