use Rattle.std.proofs.Common.{◌≡◌, ◌≤◌, List, drop, map, Some}
use Rattle.desk_outside.specs.declared.shelf.File.{File}
use Rattle.desk_commands.proofs.ReadLogs.{AreReadBefore}
use Rattle.desk_commands.proofs.logs.add_logs.Given as goal

abbrev pub invariant-loop-name : goal.invariant-loop-name
invariant-loop-name g l = record {
  told : (held : List File) → g.F.Shelf.files l.fn.shelf ≡ Some held
      → AreReadBefore held (g.D.DieLogs.frame l.fn.die) (map (λ name. name.now) l.names) (drop l.name-index (map (λ name. name.now) l.names)) (g.D.DieLogs.texts l.die);
  kept : g.D.DieLogs.bare l.die ≡ g.D.DieLogs.bare l.fn.die;
  same_frame : g.D.DieLogs.frame l.die ≡ g.D.DieLogs.frame l.fn.die;
  same : g.F.Shelf.files l.shelf ≡ g.F.Shelf.files l.fn.shelf;
  later : g.F.Shelf.faults l.fn.shelf ≤ g.F.Shelf.faults l.shelf;
}
