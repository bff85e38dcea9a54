-- The bits that a predicted log lists, and the names of their points.
use Rattle.std.proofs.Common.{◌≡◌, ℕ, ◌<◌, ◌≤◌, Bool, true, false, List, [], ◌∷◌, length, map, get_or, Option, Some, None, refl, sym, ap, ◌∙◌, inl, inr, arith}
use Rattle.std.specs.Prelude.{filter, slice_index_or, bytes_eq}
use Rattle.std.specs.List.{position_or_len, AllByRecursion}
use Rattle.std.specs.Cmp.Lexicographic.{bytes_decides, nat_list_eq_equiv}
use Rattle.std.proofs.lemmas.Bool.{cases_Bool, both_ways}
use Rattle.std.proofs.lemmas.List.{get_or-map, length-map}
use Rattle.std.proofs.lemmas.List.Folds.{list_any_at}
use Rattle.std.proofs.lemmas.List.Sums.{position_or_len_is}
use Rattle.std.proofs.lemmas.Map.Keys.{apart_from_distinct}
use Rattle.scan_model.specs.declared.values.Tri.{Tri}
use Rattle.scan_model.specs.declared.values.Tri.TheVariants.{Unknown}
use Rattle.scan_model.specs.declared.parts.PatternKind.{PatternKind}
use Rattle.scan_model.specs.declared.parts.PatternKind.TheVariants.{Capture, Shift}
use Rattle.scan_model.specs.declared.parts.Point.{Point}
use Rattle.scan_model.specs.declared.parts.Point.TheVariants.{Output}
use Rattle.scan_model.specs.declared.fault.Fault.{Fault}
use Rattle.scan_model.specs.declared.logs.Bit.{Bit}
use Rattle.scan_model.specs.Values.{are_opposite}
use Rattle.scan_model.specs.ScanTest.{ScanTest, IsScanTest, no_chain, no_pattern, name_of, chain_at, pattern_at, points_of, point_at}
use Rattle.scan_model.specs.Response.{observed, output_value, value_of_bit, predicts_fail}
use Rattle.scan_model.specs.LogText.{log_frame, has_output, chain_length, is_shift, is_shift_kind}
use Rattle.scan_model.proofs.PointCount.{cells_few}
use Rattle.fault_universe.proofs.CellPlaces.{chain_room}
use Rattle.diag_report.specs.PredictedLog.{predicted_bits}
use Rattle.diag_report.proofs.BitRanges.{each_bit_in}

abbrev pub IsWithin : ScanTest → Bit → Type 0
IsWithin t b = (b.pattern < length t.patterns) × (b.point < length (points_of t))

-- a bit of the test at which the fault predicts a fail
abbrev pub IsListed : ScanTest → Fault → Bit → Type 0
IsListed t f b = IsWithin t b × (predicts_fail t f b ≡ true)

keep : (P : Bit → Type 0) (p : Bit → Bool) (xs : List Bit) → AllByRecursion P xs → AllByRecursion (λ b. P b × (p b ≡ true)) (filter p xs)
keep P p [] all = tt
keep P p (x ∷ xs) all = elim (cases_Bool (p x)) [
  | inl e ↦ rw e ((all.0, e), keep P p xs all.1)
  | inr e ↦ rw e (keep P p xs all.1)
]

pub all_listed : (t : ScanTest) (f : Fault) → AllByRecursion (IsListed t f) (predicted_bits t f)
all_listed t f = keep (IsWithin t) (predicts_fail t f) _ (each_bit_in (length t.patterns) (length (points_of t)) (IsWithin t) (λ w k w_lt k_lt. (w_lt, k_lt)))

-- ---- what is observed at a point

observed_at : (t : ScanTest) (fault : Option Fault) (b : Bit) → b.point < length (points_of t) → value_of_bit t fault b ≡ observed t fault b.pattern (point_at t b.point)
observed_at t fault b lt = get_or-map (observed t fault b.pattern) (points_of t) b.point (Output 0) Unknown lt

abbrev pub predicts_at : ScanTest → Fault → ℕ → Point → Bool
predicts_at t f w s = are_opposite (observed t None w s) (observed t (Some f) w s)

pub predicts_is : (t : ScanTest) (f : Fault) (b : Bit) → b.point < length (points_of t) → predicts_fail t f b ≡ predicts_at t f b.pattern (point_at t b.point)
predicts_is t f b lt =
    ap (λ (v : Tri). are_opposite v (value_of_bit t (Some f) b)) (observed_at t None b lt) ∙ ap (λ (v : Tri). are_opposite (observed t None b.pattern (point_at t b.point)) v) (observed_at t (Some f) b lt)

-- no output fails where chains only shift
captures_kind : (t : ScanTest) (f : Fault) (w k : ℕ) → predicts_at t f w (Output k) ≡ true → (kind : PatternKind) → (pattern_at t w).kind ≡ kind → is_shift_kind kind ≡ false
captures_kind t f w k predicted Capture e = refl
captures_kind t f w k predicted Shift e =
    absurd (both_ways (predicts_at t f w (Output k)) (ap (λ (x : PatternKind). are_opposite (output_value t None x w k) (observed t (Some f) w (Output k))) e) predicted)

pub captures : (t : ScanTest) (f : Fault) (w k : ℕ) → w < length t.patterns → predicts_at t f w (Output k) ≡ true → slice_index_or (map is_shift t.patterns) w false ≡ false
captures t f w k lt predicted = get_or-map is_shift t.patterns w no_pattern false lt ∙ captures_kind t f w k predicted (pattern_at t w).kind refl

-- ---- names

pub same_bytes : (w : List ℕ) → bytes_eq w w ≡ true
same_bytes w = (bytes_decides w w).1 refl

pub output_named : (t : ScanTest) (design die : List ℕ) (k : ℕ) → k < length t.netlist.outputs → has_output (log_frame t design die) (name_of t (get_or t.netlist.outputs k 0)) ≡ true
output_named t design die k lt =
    let n : List ℕ = name_of t (get_or t.netlist.outputs k 0) in
    let names : List (List ℕ) = map (name_of t) t.netlist.outputs in
    let there : get_or names k [] ≡ n = get_or-map (name_of t) t.netlist.outputs k 0 [] lt in
    list_any_at (bytes_eq n) names k [] (omega (arith, length-map t.netlist.outputs (name_of t), lt)) ((bytes_decides n (get_or names k [])).1 (sym there))

pub cells_short : (t : ScanTest) → IsScanTest t → (h : ℕ) → h < length t.chains → length (chain_at t h).cells ≤ 65536
cells_short t sound h lt = omega (arith, chain_room t.chains h no_chain lt, cells_few t.netlist t.chains sound.circuit sound.chains)

pub chain_named : (t : ScanTest) → IsScanTest t → (design die : List ℕ) (h : ℕ) → h < length t.chains → chain_length (log_frame t design die) (chain_at t h).name ≡ length (chain_at t h).cells
chain_named t sound design die h lt =
    let c : List ℕ = (chain_at t h).name in
    let names : List (List ℕ) = map (λ g. g.name) t.chains in
    let many : length names ≡ length t.chains = length-map t.chains (λ g. g.name) in
    let there : get_or names h [] ≡ c = get_or-map (λ g. g.name) t.chains h no_chain [] lt in
    let place : position_or_len (bytes_eq c) names ≡ h =
    position_or_len_is (bytes_eq c) names h [] (omega (arith, many, lt))
    (λ k before. nat_list_eq_equiv.symm c (get_or names k []) ∙ ap (bytes_eq (get_or names k [])) (sym there) ∙ apart_from_distinct bytes_eq names k h [] sound.chains.names_differ before (omega (arith, many, lt)))
    (λ within. (bytes_decides c (get_or names h [])).1 (sym there)) in
    ap (λ (q : ℕ). get_or (map (λ g. length g.cells) t.chains) q 0) place ∙ get_or-map (λ g. length g.cells) t.chains h no_chain 0 lt
