-- The lines of a run.
use Rattle.std.specs.Prelude.{ℕ, List, [], ◌++◌, codes, decimal}
use Rattle.run_ends.specs.declared.ending.Ending.{Ending}
use Rattle.run_ends.specs.declared.ending.Ending.TheVariants.{Done, SinkFault, StoreFault, NoMemory, Spoiled, StreetFault}

-- `serving PORT`
abbrev pub first_line : ℕ → List ℕ
first_line port = codes "serving " ++ (decimal port ++ codes "\n")

-- the last line of an ending, which is none where the sink failed
abbrev pub line_of : Ending → List ℕ
line_of (Done sessions deeds) = codes "sessions " ++ (decimal sessions ++ (codes " deeds " ++ (decimal deeds ++ codes "\n")))
line_of SinkFault = []
line_of StoreFault = codes "store fault\n"
line_of NoMemory = codes "memory\n"
line_of (Spoiled row) = codes "store row " ++ (decimal row ++ codes "\n")
line_of StreetFault = codes "street fault\n"
