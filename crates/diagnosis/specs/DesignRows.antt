-- The fault-free rows of a design.
use Rattle.scan_model.specs.ScanTest.{ScanTest}
use Rattle.packed_sim.specs.declared.good.PackedGood.{PackedGood}
use Rattle.diagnosis.specs.declared.rows.DesignRows.{DesignRows}
use Rattle.diagnosis.specs.declared.rows.DesignRows.TheVariants.{Kept, Made}

-- the rows, whether kept or made
abbrev pub rows_in : DesignRows → PackedGood
rows_in (Kept good) = good.now
rows_in (Made good) = good
