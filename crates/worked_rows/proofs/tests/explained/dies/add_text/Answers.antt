use Rattle.std.proofs.Common.{ℕ, List, subst}
use Rattle.diagnosis.specs.Designs.{DesignFacts, IsLogOf}
use Rattle.worked_rows.proofs.tests.explained.dies.add_text.Goals as goal

pub add-requires : goal.add-requires
add-requires g c =
    let read = rw c.expect-log.ensures at c.log_of.ensures.log in
    let named : IsLogOf c.design.result.now c.args.view.now.die c.expect-log.result = subst (λ (n : List ℕ). IsLogOf c.design.result.now n c.expect-log.result) c.die.ensures read in
    subst (λ (d : DesignFacts). IsLogOf d c.args.view.now.die c.expect-log.result) c.design.ensures named
