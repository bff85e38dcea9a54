use Rattle.std.proofs.Common.{◌≡◌, List, Result, Ok, Err, IfOk, subst, sym}
use Rattle.scan_model.specs.declared.rows.NoMemory.{NoMemory}
use Rattle.scan_model.specs.ScanTest.{ScanTest}
use Rattle.lane_rows.specs.declared.block.Block.{Block}
use Rattle.lane_rows.specs.GoodRows.{AreGoodRows}
use Rattle.packed_sim.specs.declared.good.PackedGood.{PackedGood}
use Rattle.packed_sim.specs.PackedParts.{IsBuiltFor, BelongsTo}
use Rattle.packed_sim.proofs.good.PackedGood.make.Goals as goal

of_test : (t : ScanTest) (rows : List Block) (made : Result PackedGood NoMemory) → AreGoodRows t rows → IfOk made (IsBuiltFor t) → IfOk made (λ good. good.rows ≡ rows) → IfOk made (BelongsTo t)
of_test t rows (Ok good) right built is = record { rows = subst (AreGoodRows t) (sym is) right; built = built }
of_test t rows (Err e) right built is = tt

pub of_rows-requires : goal.of_rows-requires
of_rows-requires c = λ b lt. (c.in_ok-rows.ensures.each b lt).len

pub returns : goal.returns
returns c = of_test c.args.parts.now c.in_ok-rows.rows c.of_rows.result c.in_ok-rows.ensures c.of_rows.ensures.built c.of_rows.ensures.rows
