-- The counts over some of the bits, from the values without and with a fault in each pattern.
use Rattle.std.specs.Prelude.{ℕ, ◌+◌, ◌≤◌, List, Bool, cond, not, ◌&&◌, count_by}
use Rattle.scan_model.specs.declared.values.Tri.{Tri}
use Rattle.scan_model.specs.declared.logs.Bit.{Bit}
use Rattle.scan_model.specs.declared.logs.BitClass.{BitClass}
use Rattle.scan_model.specs.declared.logs.LogFacts.{LogFacts}
use Rattle.scan_model.specs.declared.logs.Counts.{Counts}
use Rattle.scan_model.specs.Values.{are_opposite}
use Rattle.scan_model.specs.ChainShift.{value_at}
use Rattle.scan_model.specs.Classes.{class_of, is_failing, is_passing}

abbrev pub class_in : List LogFacts → (ℕ → List Tri) → Bit → BitClass
class_in logs good b = class_of logs (value_at (good b.pattern) b.point) b

abbrev pub predicts : (ℕ → List Tri) → (ℕ → List Tri) → Bit → Bool
predicts good bad b = are_opposite (value_at (good b.pattern) b.point) (value_at (bad b.pattern) b.point)

abbrev pub counts_over : List LogFacts → (ℕ → List Tri) → (ℕ → List Tri) → List Bit → Counts
counts_over logs good bad bits = record {
  tfsf = count_by (λ b. is_failing (class_in logs good b) && predicts good bad b) bits;
  tfsp = count_by (λ b. is_failing (class_in logs good b) && not (predicts good bad b)) bits;
  tpsf = count_by (λ b. is_passing (class_in logs good b) && predicts good bad b) bits;
}

-- the counts with one more bit
abbrev pub counted : Counts → BitClass → Bool → Counts
counted counts class predicted = record {
  tfsf = counts.tfsf + cond (is_failing class && predicted) 1 0;
  tfsp = counts.tfsp + cond (is_failing class && not predicted) 1 0;
  tpsf = counts.tpsf + cond (is_passing class && predicted) 1 0;
}

pub record AreAtMost (n : ℕ) (counts : Counts) : Type 0 where
  pub tfsf : counts.tfsf ≤ n
  pub tfsp : counts.tfsp ≤ n
  pub tpsf : counts.tpsf ≤ n
