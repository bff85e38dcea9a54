-- Sums of counted lanes.
use Rattle.std.proofs.Common.{◌≡◌, ℕ, ◌^◌, ◌<◌, ◌≤◌, Bool, false, refl, sym, subst, ◌∙◌, arith}
use Rattle.lane_rows.specs.Lanes.{count_lanes}
use Rattle.lane_rows.proofs.LaneCounts.{count_lanes_is, count_bound, same_lanes}
use Rattle.std.specs.List.{range_with_len}
use Rattle.match_counts.proofs.Sums.{sum_zero}

pub few_lanes : (p : ℕ → Bool) → count_lanes p ≤ 512
few_lanes p = let P : ℕ → Type 0 = λ n. n ≤ 512 in subst P (sym (count_lanes_is p 512 refl)) (count_bound p 512)

none_in : (n : ℕ) → n ≡ 512 → count_lanes (λ j. false) ≡ 0
none_in n e = count_lanes_is (λ j. false) n e ∙ sum_zero (range_with_len 0 n)

pub no_lanes : (p : ℕ → Bool) → ((j : ℕ) → j < 512 → p j ≡ false) → count_lanes p ≡ 0
no_lanes p none = same_lanes p (λ j. false) none ∙ none_in 512 refl

pub few_more : (n : ℕ) → n < 2 ^ 31 → n < 2 ^ 32
few_more n few = omega arith
