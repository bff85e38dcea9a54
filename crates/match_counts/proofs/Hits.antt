-- Bits by block, place and lane, and the points of a test by net.
use Rattle.std.proofs.Common.{◌≡◌, ℕ, zero, suc, ◌+◌, ◌*◌, ◌<◌, ◌≤◌, Bool, true, false, cond, ltb, ◌&&◌, length, map, refl, ◌∙◌, arith}
use Rattle.std.specs.Prelude.{sum_by, count_by}
use Rattle.std.specs.List.{range_with_len, AllByRecursion}
use Rattle.scan_model.specs.declared.logs.Bit.{Bit}
use Rattle.scan_model.specs.Netlist.{net_numbers}
use Rattle.scan_model.specs.ScanTest.{ScanTest, IsScanTest, points_of, point_at}
use Rattle.scan_model.specs.Coverage.{bit_of, bits_over}
use Rattle.scan_model.specs.Suspect.{observed_net}
use Rattle.match_counts.specs.Hits.{hits, seen_by}
use Rattle.match_counts.proofs.Sums.{sum_agree, sum_exchange, sum_of_map, sum_of_flat_map, sum_cut, sum_by_key}
use Rattle.scan_model.proofs.counting.Shown.{point_at-IsPoint, observed_net-in_range}

guarded : (x y : Bool) → cond {A = ℕ} x (cond y 1 0) 0 ≡ cond (x && y) 1 0
guarded true y = refl
guarded false y = refl

-- a count over all bits is one by block, place and lane
pub bits_by_block : (W P : ℕ) (p : Bit → Bool) (lanes blocks : ℕ) → W ≤ lanes * blocks → count_by p (bits_over W P) ≡ sum_by (hits lanes W P p) (range_with_len 0 blocks)
bits_by_block W P p lanes blocks le =
    let one : ℕ → ℕ → ℕ = λ w k. cond (p (bit_of w k)) 1 0 in
    let lane : ℕ → ℕ → ℕ → ℕ = λ k b j. cond (ltb (lanes * b + j) W) (one (lanes * b + j) k) 0 in
    sum_of_flat_map (λ (x : Bit). cond (p x) 1 0) (λ (w : ℕ). map (bit_of w) (range_with_len 0 P)) (range_with_len 0 W)
    ∙ sum_agree (λ (w : ℕ). sum_by (λ (x : Bit). cond (p x) 1 0) (map (bit_of w) (range_with_len 0 P))) (λ (w : ℕ). sum_by (one w) (range_with_len 0 P)) (range_with_len 0 W)
    (λ w. sum_of_map (λ (x : Bit). cond (p x) 1 0) (bit_of w) (range_with_len 0 P))
    ∙ sum_exchange one (range_with_len 0 W) (range_with_len 0 P)
    ∙ sum_agree (λ (k : ℕ). sum_by (λ w. one w k) (range_with_len 0 W)) (λ (k : ℕ). sum_by (λ b. sum_by (lane k b) (range_with_len 0 lanes)) (range_with_len 0 blocks)) (range_with_len 0 P)
    (λ k. sum_cut (λ w. one w k) lanes blocks W le)
    ∙ sum_exchange (λ (k b : ℕ). sum_by (lane k b) (range_with_len 0 lanes)) (range_with_len 0 P) (range_with_len 0 blocks)
    ∙ sum_agree (λ (b : ℕ). sum_by (λ k. sum_by (lane k b) (range_with_len 0 lanes)) (range_with_len 0 P)) (hits lanes W P p) (range_with_len 0 blocks)
    (λ b. sum_agree (λ (k : ℕ). sum_by (lane k b) (range_with_len 0 lanes)) (λ (k : ℕ). count_by (λ j. ltb (lanes * b + j) W && p (bit_of (lanes * b + j) k)) (range_with_len 0 lanes)) (range_with_len 0 P)
    (λ k. sum_agree (lane k b) (λ (j : ℕ). cond (ltb (lanes * b + j) W && p (bit_of (lanes * b + j) k)) 1 0) (range_with_len 0 lanes) (λ j. guarded (ltb (lanes * b + j) W) (p (bit_of (lanes * b + j) k)))))

-- a sum over the points is one over the nets, of the points that observe each
pub points_by_net : (t : ScanTest) (h : ℕ → ℕ) → IsScanTest t → sum_by h (range_with_len 0 (length (points_of t))) ≡ sum_by (λ n. sum_by h (seen_by t n)) (net_numbers t.netlist)
points_by_net t h sound = sum_by_key h (λ k. observed_net t (point_at t k)) (length t.netlist.nets) (range_with_len 0 (length (points_of t))) (go 0 (length (points_of t)) (omega arith))
  where
    go : (a n : ℕ) → a + n ≤ length (points_of t) → AllByRecursion (λ k. observed_net t (point_at t k) < length t.netlist.nets) (range_with_len a n)
    go a zero le = tt
    go a (suc n) le = (observed_net-in_range t sound (point_at t a) (point_at-IsPoint t sound a (omega arith)), go (a + 1) n (omega arith))
