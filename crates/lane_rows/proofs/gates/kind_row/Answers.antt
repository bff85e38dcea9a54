use Rattle.std.proofs.Common.{ap, ◌∙◌}
use Rattle.scan_model.specs.Values.{tri_not}
use Rattle.lane_rows.proofs.GateFolds.{by_and, by_nand}
use Rattle.lane_rows.proofs.gates.kind_row.Goals as goal

pub returns-in-And : goal.returns-in-And
returns-in-And g c j lt = c.and_row.ensures j lt ∙ by_and (λ s. g.V.NetRows.value c.args.values.now (g.S.SeesNet.seen_net s) j) c.args.operands.now c.args.kind c.requires.count c.in-And.is

pub returns-in-Nand : goal.returns-in-Nand
returns-in-Nand g c j lt = c.not.ensures j lt ∙ ap tri_not (c.and_row-in-Nand.ensures j lt)
    ∙ by_nand (λ s. g.V.NetRows.value c.args.values.now (g.S.SeesNet.seen_net s) j) c.args.operands.now c.args.kind c.requires.count c.in-Nand.is
