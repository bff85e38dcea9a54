use Rattle.std.proofs.Common.{◌≡◌, ℕ, ◌+◌, ◌<◌, ◌≤◌, ◌&&◌, ◌||◌, false, length, sym, ap, ◌∙◌, arith}
use Rattle.log_rows.specs.declared.side.Side.{Side}
use Rattle.log_rows.specs.declared.side.Side.TheVariants.{Failing, Passing}
use Rattle.fault_effects.specs.FaultModel.{Table}
use Rattle.match_counts.specs.Flips.{count_on}
use Rattle.match_counts.specs.Tables.{IsCount, sum_of_table}
use Rattle.match_counts.proofs.TableSums.{few_of, both_sums}
use Rattle.match_counts.proofs.point_observer.PointCountsObserver.both.Goals as goal

pub overflow_add-result : goal.overflow_add-result
overflow_add-result c =
    let rows = c.args.self.now.rows.now in
    let few : length rows ≤ 131072 = omega (arith, c.args.self.now.rows_len, c.points.ensures.few) in
    record { fits = omega (arith, c.requires.first.1 Failing, few_of rows Failing c.requires.first.0 few, c.requires.second.1 Failing, few_of rows Failing c.requires.second.0 few) }

pub overflow_add-result-2 : goal.overflow_add-result-2
overflow_add-result-2 c =
    let rows = c.args.self.now.rows.now in
    let few : length rows ≤ 131072 = omega (arith, c.args.self.now.rows_len, c.points.ensures.few) in
    record { fits = omega (arith, c.requires.first.1 Passing, few_of rows Passing c.requires.first.0 few, c.requires.second.1 Passing, few_of rows Passing c.requires.second.0 few) }

pub returns : goal.returns
returns c = λ a b is_a is_b apart side. by_side a b is_a is_b apart side
  where
    by_side : (a b : Table) → IsCount c.args.self.now.rows.now c.args.first a → IsCount c.args.self.now.rows.now c.args.second b → ((q p j : ℕ) → j < 512 → (a q j && b p j) ≡ false) → (side : Side)
        → count_on side (record { tfsf = c.args.first.tfsf + c.args.second.tfsf; tpsf = c.args.first.tpsf + c.args.second.tpsf }) ≡ sum_of_table c.args.self.now.rows.now side (λ q j. a q j || b q j)
    by_side a b is_a is_b apart Failing = ap (λ (n : ℕ). n + c.args.second.tfsf) (is_a Failing) ∙ ap (λ (n : ℕ). sum_of_table c.args.self.now.rows.now Failing a + n) (is_b Failing) ∙ sym (both_sums c.args.self.now.rows.now Failing a b apart)
    by_side a b is_a is_b apart Passing = ap (λ (n : ℕ). n + c.args.second.tpsf) (is_a Passing) ∙ ap (λ (n : ℕ). sum_of_table c.args.self.now.rows.now Passing a + n) (is_b Passing) ∙ sym (both_sums c.args.self.now.rows.now Passing a b apart)
