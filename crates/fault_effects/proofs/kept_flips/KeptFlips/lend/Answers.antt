use Rattle.std.proofs.Common.{◌<◌, ◌%◌, ◌∷◌, length, refl, sym, ◌∙◌, subst, arith}
use Rattle.std.specs.Prelude.{Contains}
use Rattle.std.proofs.lemmas.List.Elements.{All-set}
use Rattle.fault_effects.proofs.LentFlips.{all_there}
use Rattle.fault_effects.proofs.kept_flips.KeptFlips.lend.Goals as goal

pub returns-clause-kept : goal.returns-clause-kept
returns-clause-kept g c =
    let flips = c.args.self.now.flips.items in
    let mine = c.args.flip.now in
    All-set (Contains (mine ∷ flips)) flips (c.args.net % c.len.result) c.swap.new.x (subst (Contains (mine ∷ flips)) (sym c.swap.ensures.x_after) (0, omega arith, refl)) (all_there mine flips)

pub returns-clause-lent : goal.returns-clause-lent
returns-clause-lent g c =
    let flips = c.args.self.now.flips.items in
    let mine = c.args.flip.now in
    let place = c.args.net % c.len.result in
    let within : place < length flips = omega arith in
    subst (Contains (mine ∷ flips)) (sym (c.swap.ensures.y_after ∙ c.index_mut.ensures.value)) (all_there mine flips place c.index_mut.result.now within)
