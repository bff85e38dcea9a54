-- The bits of a test lie within its patterns and points.
use Rattle.std.proofs.Common.{ℕ, zero, suc, ◌+◌, ◌<◌, List, [], ◌∷◌, ◌++◌, length, map, arith}
use Rattle.std.specs.Prelude.{All, flat_map}
use Rattle.std.specs.List.{range_with_len, AllByRecursion}
use Rattle.std.proofs.lemmas.List.Elements.{All-from_recursion}
use Rattle.scan_model.specs.declared.logs.Bit.{Bit}
use Rattle.scan_model.specs.ScanTest.{ScanTest, points_of}
use Rattle.scan_model.specs.Coverage.{bit_of, bits_of, bits_over}

append : (P : Bit → Type 0) (xs ys : List Bit) → AllByRecursion P xs → AllByRecursion P ys → AllByRecursion P (xs ++ ys)
append P [] ys a b = b
append P (x ∷ xs) ys a b = (a.0, append P xs ys a.1 b)

in_row : (P : Bit → Type 0) (w a n : ℕ) → ((k : ℕ) → k < a + n → P (bit_of w k)) → AllByRecursion P (map (bit_of w) (range_with_len a n))
in_row P w a zero each = tt
in_row P w a (suc n) each = (each a (omega arith), in_row P w (a + 1) n (λ k lt. each k (omega arith)))

in_rows : (P : Bit → Type 0) (n a m : ℕ) → ((w k : ℕ) → w < a + m → k < n → P (bit_of w k)) → AllByRecursion P (flat_map (λ w. map (bit_of w) (range_with_len 0 n)) (range_with_len a m))
in_rows P n a zero each = tt
in_rows P n a (suc m) each =
    append P (map (bit_of a) (range_with_len 0 n)) (flat_map (λ w. map (bit_of w) (range_with_len 0 n)) (range_with_len (a + 1) m))
    (in_row P a 0 n (λ k lt. each a k (omega arith) (omega arith))) (in_rows P n (a + 1) m (λ w k w_lt k_lt. each w k (omega arith) k_lt))

-- what holds of each pattern at each point holds of each bit
pub each_bit_in : (patterns points : ℕ) (P : Bit → Type 0) → ((w k : ℕ) → w < patterns → k < points → P (bit_of w k)) → AllByRecursion P (bits_over patterns points)
each_bit_in patterns points P each = in_rows P points 0 patterns (λ w k w_lt k_lt. each w k (omega arith) k_lt)

pub each_bit : (t : ScanTest) (P : Bit → Type 0) → ((w k : ℕ) → w < length t.patterns → k < length (points_of t) → P (bit_of w k)) → All P (bits_of t)
each_bit t P each = All-from_recursion P (bits_of t) (each_bit_in (length t.patterns) (length (points_of t)) P each)

pub patterns_within : (t : ScanTest) → All (λ b. b.pattern < length t.patterns) (bits_of t)
patterns_within t = each_bit t (λ b. b.pattern < length t.patterns) (λ w k w_lt k_lt. w_lt)
