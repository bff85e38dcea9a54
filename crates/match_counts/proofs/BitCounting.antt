-- Counting bit by bit, and listing candidate by candidate.
use Rattle.std.proofs.Common.{◌≡◌, ℕ, ◌+◌, ◌<◌, ◌≤◌, Bool, cond, not, ◌&&◌, List, [], ◌∷◌, ◌++◌, length, map, take, Some, refl, ◌∙◌, arith}
use Rattle.std.specs.Prelude.{count_by, slice_get}
use Rattle.std.specs.List.{enumerate_from}
use Rattle.std.proofs.lemmas.List.{take_more, length-take, map-append}
use Rattle.std.proofs.lemmas.List.Sums.{fold_push}
use Rattle.std.proofs.lemmas.List.Elements.{filter-append}
use Rattle.std.proofs.lemmas.Option.{get_or_from_slice_get, slice_get_within}
use Rattle.scan_model.specs.declared.values.Tri.{Tri}
use Rattle.scan_model.specs.declared.fault.Fault.{Fault}
use Rattle.scan_model.specs.declared.logs.Bit.{Bit}
use Rattle.scan_model.specs.declared.logs.BitClass.{BitClass}
use Rattle.scan_model.specs.declared.logs.LogFacts.{LogFacts}
use Rattle.scan_model.specs.declared.logs.Counts.{Counts}
use Rattle.scan_model.specs.Values.{are_opposite}
use Rattle.scan_model.specs.ChainShift.{value_at}
use Rattle.scan_model.specs.ScanTest.{ScanTest}
use Rattle.scan_model.specs.Coverage.{bit_of}
use Rattle.scan_model.specs.Classes.{class_of, is_failing, is_passing}
use Rattle.scan_model.specs.MatchCounts.{candidates_among, scored, is_candidate}
use Rattle.fault_universe.specs.BitRows.{row_bits}
use Rattle.fault_universe.proofs.BitSteps.{enumerate_push, row_bits_more}
use Rattle.match_counts.specs.Tally.{counts_over, counted, class_in, predicts, AreAtMost}

count_push : (p : Bit → Bool) (bits : List Bit) (b : Bit) → count_by p (bits ++ b ∷ []) ≡ count_by p bits + cond (p b) 1 0
count_push p bits b = fold_push (λ n x. n + cond (p x) 1 0) 0 bits b

-- one more bit
counts_more : (logs : List LogFacts) (good bad : ℕ → List Tri) (bits : List Bit) (b : Bit) → counts_over logs good bad (bits ++ b ∷ []) ≡ counted (counts_over logs good bad bits) (class_in logs good b) (predicts good bad b)
counts_more logs good bad bits b =
    rw (
      count_push (λ b. is_failing (class_in logs good b) && predicts good bad b) bits b,
      count_push (λ b. is_failing (class_in logs good b) && not (predicts good bad b)) bits b,
      count_push (λ b. is_passing (class_in logs good b) && predicts good bad b) bits b,
    )
    refl

-- one more bit of a row
pub row_more : (logs : List LogFacts) (good bad : ℕ → List Tri) (bits : List Bit) (w k : ℕ) (row values : List Tri) (sum next : Counts) (class : BitClass) (predicted : Bool)
    → sum ≡ counts_over logs good bad (bits ++ row_bits w k) → good w ≡ row → bad w ≡ values → class ≡ class_of logs (value_at row k) (bit_of w k) → predicted ≡ are_opposite (value_at row k) (value_at values k) → next ≡ counted sum class predicted
    → next ≡ counts_over logs good bad (bits ++ row_bits w (k + 1))
row_more logs good bad bits w k row values sum next class predicted so_far is_row is_values is_class is_predicted added =
    added ∙ rw (row_bits_more bits w k, counts_more logs good bad (bits ++ row_bits w k) (bit_of w k), so_far, is_class, is_predicted, is_row, is_values) refl

-- one more fault
pub candidates_more : (t : ScanTest) (logs : List LogFacts) (faults : List Fault) (k : ℕ) (f : Fault) → slice_get faults k ≡ Some f
    → candidates_among (take (k + 1) faults) t logs ≡ candidates_among (take k faults) t logs ++ cond (is_candidate (scored t logs (k, f))) (scored t logs (k, f) ∷ []) []
candidates_more t logs faults k f there =
    let within : k < length faults = slice_get_within faults k f there in
    let len : 0 + length (take k faults) ≡ k = omega (arith, length-take k faults) in
    rw (
      take_more faults k f within,
      get_or_from_slice_get faults k f f there,
      enumerate_push 0 (take k faults) f,
      len,
      map-append (scored t logs) (enumerate_from 0 (take k faults)) ((k, f) ∷ []),
    )
    (filter-append is_candidate (map (scored t logs) (enumerate_from 0 (take k faults))) (scored t logs (k, f) ∷ []))

pub AreAtMost-le : (m n : ℕ) (counts : Counts) → m ≤ n → AreAtMost m counts → AreAtMost n counts
AreAtMost-le m n counts le all = record { tfsf = omega arith; tfsp = omega arith; tpsf = omega arith }
