-- Bits, row by row, and lists with numbers.
use Rattle.std.proofs.Common.{◌≡◌, ℕ, ◌+◌, List, [], ◌∷◌, ◌++◌, length, map, sym, ap, ◌∙◌, append_assoc, arith}
use Rattle.std.specs.Prelude.{flat_map}
use Rattle.std.specs.List.{range_with_len, enumerate_from}
use Rattle.std.proofs.lemmas.List.{map-id, flat_map_more}
use Rattle.std.proofs.lemmas.List.FromFn.{map-range_with_len_more}
use Rattle.scan_model.specs.declared.logs.Bit.{Bit}
use Rattle.scan_model.specs.ScanTest.{ScanTest, points_of}
use Rattle.scan_model.specs.Coverage.{bit_of}
use Rattle.fault_universe.specs.BitRows.{row_bits, bits_upto}

-- one more point
pub row_bits_more : (bits : List Bit) (w n : ℕ) → bits ++ row_bits w (n + 1) ≡ (bits ++ row_bits w n) ++ bit_of w n ∷ []
row_bits_more bits w n = rw (map-range_with_len_more (bit_of w) 0 n n (omega arith)) (sym (append_assoc bits (row_bits w n) (bit_of w n ∷ [])))

-- one more number
pub range_more : (n : ℕ) → range_with_len 0 (n + 1) ≡ range_with_len 0 n ++ n ∷ []
range_more n =
    let e : map (λ (x : ℕ). x) (range_with_len 0 (n + 1)) ≡ map (λ (x : ℕ). x) (range_with_len 0 n) ++ n ∷ [] = map-range_with_len_more (λ x. x) 0 n n (omega arith) in
    simp map-id at e

-- one more pattern
pub bits_upto_more : (t : ScanTest) (m : ℕ) → bits_upto t (m + 1) ≡ bits_upto t m ++ row_bits m (length (points_of t))
bits_upto_more t m = ap (flat_map (λ w. row_bits w (length (points_of t)))) (range_more m) ∙ sym (flat_map_more (λ w. row_bits w (length (points_of t))) [] (range_with_len 0 m) m)

-- one more element with its number
pub enumerate_push : {X : Type 0} (a : ℕ) (xs : List X) (x : X) → enumerate_from a (xs ++ x ∷ []) ≡ enumerate_from a xs ++ (a + length xs, x) ∷ []
enumerate_push {X} a [] x = ap (λ (n : ℕ). let e : List (ℕ × X) = (n, x) ∷ [] in e) (omega arith)
enumerate_push {X} a (y ∷ ys) x =
    ap (λ (es : List (ℕ × X)). (a, y) ∷ es) (enumerate_push (a + 1) ys x ∙ ap (λ (n : ℕ). enumerate_from (a + 1) ys ++ (n, x) ∷ []) (omega arith))
