-- Each compact point is an output of the test or a channel of the compactor.
use Rattle.std.proofs.Common.{◌≡◌, ℕ, zero, suc, ◌+◌, ◌<◌, ltb, List, [], ◌∷◌, length, map, get_or, inl, inr, arith}
use Rattle.std.specs.Prelude.{All, flat_map}
use Rattle.std.specs.List.{range_with_len}
use Rattle.std.proofs.lemmas.Bool.{cases_Bool}
use Rattle.std.proofs.lemmas.List.{length-map}
use Rattle.std.proofs.lemmas.List.Elements.{All-nil, All-cons, All-append, All-get_or}
use Rattle.scan_model.specs.declared.parts.Point.{Point}
use Rattle.scan_model.specs.declared.parts.Point.TheVariants.{Output, Cell}
use Rattle.scan_model.specs.ScanTest.{ScanTest}
use Rattle.compact_points.specs.Channels.{Compactor, IsCompactorOf, greatest, cycles_of, shown_in, points_over}
use Rattle.compact_points.specs.CompactPoints.{IsThere}

module _ (P : Point → Type 0) where
  of_outputs : (a n : ℕ) → ((k : ℕ) → k < a + n → P (Output k)) → All P (map (λ k. Output k) (range_with_len a n))
  of_outputs a zero each = All-nil P
  of_outputs a (suc n) each = All-cons P (Output a) (map (λ k. Output k) (range_with_len (a + 1) n)) (each a (omega arith)) (of_outputs (a + 1) n (λ k lt. each k (omega arith)))

  of_cycle : (channels u x : ℕ) (ns : List ℕ) → ((y : ℕ) → y < channels → P (Cell y u)) → x + length ns ≡ channels → All P (shown_in u x ns)
  of_cycle channels u x [] each fits = All-nil P
  of_cycle channels u x (n ∷ ns) each fits =
      let later : All P (shown_in u (x + 1) ns) = of_cycle channels u (x + 1) ns each (omega (arith, fits)) in
      elim (cases_Bool (ltb u n)) [
        | inl shows ↦ rw shows (All-cons P (Cell x u) (shown_in u (x + 1) ns) (each x (omega (arith, fits))) later)
        | inr not_there ↦ rw not_there later
      ]

  of_cycles : (f : ℕ → List Point) → ((u : ℕ) → All P (f u)) → (us : List ℕ) → All P (flat_map f us)
  of_cycles f each [] = All-nil P
  of_cycles f each (u ∷ us) = All-append P (f u) (flat_map f us) (each u) (of_cycles f each us)

  -- what holds of each output and of each channel in each cycle holds of the compact points
  pub of_points : (outputs : ℕ) (cycles : List ℕ) → ((k : ℕ) → k < outputs → P (Output k)) → ((x u : ℕ) → x < length cycles → P (Cell x u)) → All P (points_over outputs cycles)
  of_points outputs cycles output channel = All-append P (map (λ k. Output k) (range_with_len 0 outputs)) (flat_map (λ u. shown_in u 0 cycles) (range_with_len 0 (greatest cycles)))
      (of_outputs 0 outputs (λ k lt. output k (omega arith)))
      (of_cycles (λ u. shown_in u 0 cycles) (λ u. of_cycle (length cycles) u 0 cycles (λ y lt. channel y u lt) (omega arith)) (range_with_len 0 (greatest cycles)))

pub point_is_there : (t : ScanTest) (c : Compactor) → IsCompactorOf t c → (q : ℕ) → q < length c.points → IsThere t c (get_or c.points q (Output 0))
point_is_there t c made q lt =
    let of_channel : (x u : ℕ) → x < length (map (cycles_of t) c.channels) → IsThere t c (Cell x u) = λ x u inside. omega (arith, length-map c.channels (cycles_of t), inside) in
    let all : All (IsThere t c) c.points = rw made.points (of_points (IsThere t c) (length t.netlist.outputs) (map (cycles_of t) c.channels) (λ k inside. inside) of_channel) in
    All-get_or (IsThere t c) c.points q (Output 0) lt all
