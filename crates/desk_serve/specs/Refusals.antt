-- The ending where the store isn't opened.
use Rattle.book.specs.declared.opening.StartFault.{StartFault}
use Rattle.book.specs.declared.opening.StartFault.TheVariants as fault
use Rattle.run_ends.specs.declared.ending.Ending.{Ending}
use Rattle.run_ends.specs.declared.ending.Ending.TheVariants.{StoreFault, NoMemory, Spoiled}

abbrev pub ending_of : StartFault → Ending
ending_of (fault.Spoiled row) = Spoiled row
ending_of fault.Failed = StoreFault
ending_of fault.NoMemory = NoMemory
