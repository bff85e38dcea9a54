-- The lines of a predicted log: their words, their forms, and the headers that they give.
use Rattle.std.proofs.Common.{◌≡◌, ℕ, ◌<◌, Bool, true, false, ◌||◌, List, [], ◌∷◌, ◌++◌, length, map, Option, None, refl, sym, ap, ◌∙◌, append-nil, arith, unwrap_or}
use Rattle.std.specs.Prelude.{codes, decimal, filter_map, slice_index_or}
use Rattle.std.specs.List.{list_any}
use Rattle.std.proofs.lemmas.Bool.{lt-ltb}
use Rattle.scan_model.specs.declared.parts.Point.{Point}
use Rattle.scan_model.specs.declared.parts.Point.TheVariants.{Output, Cell}
use Rattle.scan_model.specs.declared.fault.Fault.{Fault}
use Rattle.scan_model.specs.declared.logs.Bit.{Bit}
use Rattle.scan_model.specs.ScanTest.{ScanTest, name_of, chain_at, point_at}
use Rattle.scan_model.specs.Words.{number_of}
use Rattle.scan_model.specs.ReportText.{line, bit_line, concatenated, point_words}
use Rattle.scan_model.specs.declared.logs.Range.{Range}
use Rattle.scan_model.specs.declared.logs.LogForm.TheVariants.{FailLog}
use Rattle.scan_model.specs.declared.logs.LogVersion.TheVariants.{First}
use Rattle.scan_model.specs.LogText.{LogFrame, LogLine, die_line, design_line, tested_line, out_line, cell_line, end_line, log_line, is_end, is_truncated, is_closed, range_of, group_cut, headers_in, has_all}
use Rattle.diag_report.specs.PredictedLog.{predicted_log, predicted_bits, head_lines, tested_words, last_pattern}
use Rattle.diag_report.proofs.NumberWords.{number_back}

-- ---- words

abbrev pub fail_words : ScanTest → Bit → List (List ℕ)
fail_words t b = codes "fail" ∷ decimal b.pattern ∷ point_words t (point_at t b.point)

abbrev pub title_words : List (List ℕ)
title_words = codes "FAILLOG" ∷ codes "1" ∷ []

abbrev pub header_words : List ℕ → List ℕ → ℕ → List (List (List ℕ))
header_words design die last = (codes "die" ∷ die ∷ []) ∷ (codes "design" ∷ design ∷ []) ∷ tested_words last ∷ []

abbrev pub end_words : List (List (List ℕ))
end_words = (codes "end" ∷ []) ∷ []

-- the words of each line of a log that lists these bits
abbrev pub log_words : ScanTest → List ℕ → List ℕ → List Bit → List (List (List ℕ))
log_words t design die bits = title_words ∷ (header_words design die (last_pattern t) ++ (map (fail_words t) bits ++ end_words))

tail_lines : (t : ScanTest) (bits : List Bit) → map (bit_line t (codes "fail")) bits ++ line (codes "end" ∷ []) ∷ [] ≡ map line (map (fail_words t) bits ++ end_words)
tail_lines t [] = refl
tail_lines t (b ∷ bits) = ap (λ (ls : List (List ℕ)). bit_line t (codes "fail") b ∷ ls) (tail_lines t bits)

pub log_is : (t : ScanTest) (design die : List ℕ) (f : Fault) → predicted_log t design die f ≡ concatenated (map line (log_words t design die (predicted_bits t f)))
log_is t design die f = ap (λ (ls : List (List ℕ)). concatenated (head_lines t design die ++ ls)) (tail_lines t (predicted_bits t f))

-- ---- forms

abbrev pub point_form : ScanTest → ℕ → Point → LogLine
point_form t w (Output k) = out_line (decimal w) (name_of t (slice_index_or t.netlist.outputs k 0))
point_form t w (Cell h i) = cell_line (decimal w) (chain_at t h).name (decimal i)

abbrev pub fail_form : ScanTest → Bit → LogLine
fail_form t b = point_form t b.pattern (point_at t b.point)

abbrev pub header_forms : List ℕ → List ℕ → ℕ → List LogLine
header_forms design die last = die_line die ∷ design_line design ∷ tested_line (decimal 0) (decimal last) ∷ []

-- the form of a line of version 1
abbrev pub plain_line : List (List ℕ) → LogLine
plain_line ws = log_line FailLog First ws

pub form_is : (t : ScanTest) (w : ℕ) (s : Point) → plain_line (codes "fail" ∷ decimal w ∷ point_words t s) ≡ point_form t w s
form_is t w (Output k) = refl
form_is t w (Cell h i) = refl

pub forms_are : (t : ScanTest) (bits : List Bit) → map plain_line (map (fail_words t) bits) ≡ map (fail_form t) bits
forms_are t [] = refl
forms_are t (b ∷ bits) = ap (λ (l : LogLine). l ∷ map plain_line (map (fail_words t) bits)) (form_is t b.pattern (point_at t b.point)) ∙ ap (λ (ls : List LogLine). fail_form t b ∷ ls) (forms_are t bits)

pub tail_forms : (t : ScanTest) (bits : List Bit) → map plain_line (map (fail_words t) bits ++ end_words) ≡ map (fail_form t) bits ++ end_line ∷ []
tail_forms t [] = refl
tail_forms t (b ∷ bits) = ap (λ (l : LogLine). l ∷ map plain_line (map (fail_words t) bits ++ end_words)) (form_is t b.pattern (point_at t b.point)) ∙ ap (λ (ls : List LogLine). fail_form t b ∷ ls) (tail_forms t bits)

abbrev range_with : ℕ → ℕ → Range
range_with first last = record { first = first; last = last }

-- ---- what fail lines are not

pub none_of : (t : ScanTest) (p : LogLine → Bool) → ((w : ℕ) (s : Point) → p (point_form t w s) ≡ false) → (bits : List Bit) (rest : List LogLine) → list_any p (map (fail_form t) bits ++ rest) ≡ list_any p rest
none_of t p none [] rest = refl
none_of t p none (b ∷ bits) rest = ap (λ (x : Bool). x || list_any p (map (fail_form t) bits ++ rest)) (none b.pattern (point_at t b.point)) ∙ none_of t p none bits rest

none_from : {Y : Type 0} (t : ScanTest) (g : LogLine → Option Y) → ((w : ℕ) (s : Point) → g (point_form t w s) ≡ None) → (bits : List Bit) (rest : List LogLine) → filter_map g (map (fail_form t) bits ++ rest) ≡ filter_map g rest
none_from t g none [] rest = refl
none_from t g none (b ∷ bits) rest = rw (none b.pattern (point_at t b.point)) (none_from t g none bits rest)

not_end : (t : ScanTest) (w : ℕ) (s : Point) → is_end (point_form t w s) ≡ false
not_end t w (Output k) = refl
not_end t w (Cell h i) = refl

not_truncated : (t : ScanTest) (w : ℕ) (s : Point) → is_truncated (point_form t w s) ≡ false
not_truncated t w (Output k) = refl
not_truncated t w (Cell h i) = refl

no_range : (t : ScanTest) (w : ℕ) (s : Point) → range_of (point_form t w s) ≡ None
no_range t w (Output k) = refl
no_range t w (Cell h i) = refl

no_cut : (frame : LogFrame) (t : ScanTest) (w : ℕ) (s : Point) → group_cut frame (point_form t w s) ≡ None
no_cut frame t w (Output k) = refl
no_cut frame t w (Cell h i) = refl

module _ (t : ScanTest) (design die : List ℕ) (last : ℕ) (bits : List Bit) where
  pub closed_by : (rest : List LogLine) → is_closed (header_forms design die last ++ (map (fail_form t) bits ++ rest)) ≡ is_closed rest
  closed_by rest = none_of t is_end (not_end t) bits rest

  pub truncated_by : (rest : List LogLine) → list_any is_truncated (header_forms design die last ++ (map (fail_form t) bits ++ rest)) ≡ list_any is_truncated rest
  truncated_by rest = none_of t is_truncated (not_truncated t) bits rest

  pub has_headers : (rest : List LogLine) → has_all (headers_in (header_forms design die last ++ rest)) ≡ true
  has_headers rest = lt-ltb 0 (length (filter_map range_of (header_forms design die last ++ rest))) (omega arith)

  pub ranges_are : (rest : List LogLine) → filter_map range_of rest ≡ [] → last < 4294967296 → filter_map range_of (header_forms design die last ++ (map (fail_form t) bits ++ rest)) ≡ record { first = 0; last = last } ∷ []
  ranges_are rest none small =
      ap (λ (o : Option ℕ). range_with (unwrap_or o 0) (unwrap_or (number_of (decimal last)) 0) ∷ filter_map range_of (map (fail_form t) bits ++ rest)) (number_back 0 (omega arith))
      ∙ ap (λ (o : Option ℕ). range_with 0 (unwrap_or o 0) ∷ filter_map range_of (map (fail_form t) bits ++ rest)) (number_back last small)
      ∙ ap (λ (rs : List Range). range_with 0 last ∷ rs) (none_from t range_of (no_range t) bits rest ∙ none)

  pub tested_is : last < 4294967296 → (headers_in (header_forms design die last ++ map (fail_form t) bits)).ranges ≡ record { first = 0; last = last } ∷ []
  tested_is small = ap (λ (fs : List LogLine). filter_map range_of (header_forms design die last ++ fs)) (sym (append-nil (map (fail_form t) bits))) ∙ ranges_are [] refl small

  pub none_cut : (frame : LogFrame) (rest : List LogLine) → filter_map (group_cut frame) (header_forms design die last ++ (map (fail_form t) bits ++ rest)) ≡ filter_map (group_cut frame) rest
  none_cut frame rest = none_from t (group_cut frame) (no_cut frame t) bits rest
