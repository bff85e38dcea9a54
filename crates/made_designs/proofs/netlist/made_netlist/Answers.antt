use Rattle.std.proofs.Common.{◌≡◌, ◌*◌, ap, ◌∙◌, arith}
use Rattle.made_laws.specs.Draws.{state_after}
use Rattle.made_laws.specs.MadeNetlist.{gate_draw}
use Rattle.made_designs.proofs.netlist.made_netlist.Goals as goal

pub returns-clause-draws : goal.returns-clause-draws
returns-clause-draws c = λ seed at.
    let all : gate_draw c.args.blocks 0 ≡ 300 * c.args.blocks = omega arith in
    (c.in_ok-push_blocks.ensures seed at).1 ∙ ap (state_after seed) all
