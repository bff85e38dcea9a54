-- Lists of work in a block, and the suspects that they serve.
use Rattle.std.specs.Prelude.{ℕ, ◌+◌, ◌<◌, List, length, Contains}
use Rattle.scan_model.specs.ScanTest.{ScanTest}
use Rattle.fault_effects.specs.declared.suspect.Suspect.{Suspect}
use Rattle.fault_effects.specs.declared.work_kind.WorkKind.{WorkKind}
use Rattle.fault_effects.specs.declared.work_kind.WorkKind.TheVariants.{Nets, Pins, Cells}
use Rattle.fault_effects.specs.Owners.{owner, suspect_at, IsOwned}

-- an item of such a list: a net, or a suspect's number
abbrev pub IsItem : ScanTest → List Suspect → WorkKind → ℕ → Type 0
IsItem t suspects Nets n = n < length t.netlist.nets
IsItem t suspects Pins i = IsOwned t suspects (length t.netlist.nets) i
IsItem t suspects Cells i = IsOwned t suspects (length t.netlist.nets + 1) i

-- the item by which a suspect is served
abbrev pub item_of : ScanTest → List Suspect → WorkKind → ℕ → ℕ
item_of t suspects Nets i = owner t (suspect_at suspects i).fault
item_of t suspects Pins i = i
item_of t suspects Cells i = i

-- a suspect that a list of work serves
abbrev pub IsServed : ScanTest → List Suspect → WorkKind → List ℕ → ℕ → Type 0
IsServed t suspects kind items i = Contains items (item_of t suspects kind i)
