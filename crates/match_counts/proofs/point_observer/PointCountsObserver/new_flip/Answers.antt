use Rattle.std.proofs.Common.{◌≡◌, ℕ, Bool, ◌&&◌, List, refl, sym, ap, ◌∙◌}
use Rattle.fault_effects.specs.FaultModel.{no_places}
use Rattle.log_rows.specs.declared.side.Side.{Side}
use Rattle.log_rows.specs.declared.side.Side.TheVariants.{Failing, Passing}
use Rattle.match_counts.specs.Flips.{tallied, list_on}
use Rattle.match_counts.specs.Tables.{sum_of_table}
use Rattle.match_counts.proofs.TableSums.{none_sum}
use Rattle.match_counts.proofs.point_observer.PointCountsObserver.new_flip.Goals as goal

pub returns : goal.returns
returns c = λ side. by_side side
  where
    empty : (side : Side) (m : ℕ → Bool) → 0 ≡ sum_of_table c.args.self.now.rows.now side (λ q j. no_places q j && m j)
    empty side m = sym (none_sum c.args.self.now.rows.now side (λ q j. no_places q j && m j) (λ q j. refl))

    by_side : (side : Side) (m : ℕ → Bool) → tallied (list_on side c.new.result) m ≡ sum_of_table c.args.self.now.rows.now side (λ q j. no_places q j && m j)
    by_side Failing m = ap (λ (rows : List (List ℕ)). tallied rows m) c.new.ensures.failing ∙ empty Failing m
    by_side Passing m = ap (λ (rows : List (List ℕ)). tallied rows m) c.new.ensures.passing ∙ empty Passing m
