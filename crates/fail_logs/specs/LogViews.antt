-- Lines without where they lie in memory.
use Rattle.scan_model.specs.LogText as model
use Rattle.fail_logs.specs.declared.line.LogLine.{LogLine}
use Rattle.fail_logs.specs.declared.line.LogLine.TheVariants.{Die, Design, Tested, Out, Cell, CutOutputs, CutChain, End, Truncated, Other}

abbrev pub line_view : LogLine → model.LogLine
line_view (Die w) = model.die_line w.now
line_view (Design w) = model.design_line w.now
line_view (Tested a b) = model.tested_line a.now b.now
line_view (Out p n) = model.out_line p.now n.now
line_view (Cell p c w) = model.cell_line p.now c.now w.now
line_view CutOutputs = model.cut_out_line
line_view (CutChain w) = model.cut_chain_line w.now
line_view End = model.end_line
line_view Truncated = model.truncated_line
line_view Other = model.other_line
