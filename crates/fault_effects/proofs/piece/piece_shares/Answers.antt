use Rattle.std.proofs.Common.{ℕ, List, [], Result, sym, subst}
use Rattle.std.specs.Prelude.{All, IfOk}
use Rattle.scan_model.specs.declared.rows.NoMemory.{NoMemory}
use Rattle.scan_model.specs.ScanTest.{ScanTest}
use Rattle.fault_effects.specs.declared.share.Share.{Share}
use Rattle.fault_effects.specs.declared.suspect.Suspect.{Suspect}
use Rattle.fault_effects.specs.declared.work_kind.WorkKind.{WorkKind}
use Rattle.fault_effects.specs.FaultModel.{FaultModel, Table}
use Rattle.fault_effects.specs.Shares.{Shares}
use Rattle.fault_effects.specs.Pieces.{IsItem, IsServed}
use Rattle.fault_effects.proofs.piece.piece_shares.Goals as goal

abbrev Answer : {P : Type 0} → (P → Table → Type 0) → FaultModel → ℕ → ScanTest → List Suspect → List ℕ → Result (List (Share P)) NoMemory → WorkKind → Type 0
Answer means m b t suspects items result kind = IfOk result (Shares means m b suspects (IsServed t suspects kind items) [])

pub cell_piece-requires-clause-items : goal.cell_piece-requires-clause-items
cell_piece-requires-clause-items g c = let Each : WorkKind → Type 0 = λ kind. All (IsItem c.args.work.now.parts.now c.args.work.now.suspects.now kind) c.args.items.now in subst Each c.in-Cells.is c.requires.items

pub logic_piece-requires-clause-items : goal.logic_piece-requires-clause-items
logic_piece-requires-clause-items g c = let Each : WorkKind → Type 0 = λ kind. All (IsItem c.args.work.now.parts.now c.args.work.now.suspects.now kind) c.args.items.now in subst Each c.in-Nets.is c.requires.items

pub logic_piece-requires-in-Pins-clause-items : goal.logic_piece-requires-in-Pins-clause-items
logic_piece-requires-in-Pins-clause-items g c = let Each : WorkKind → Type 0 = λ kind. All (IsItem c.args.work.now.parts.now c.args.work.now.suspects.now kind) c.args.items.now in subst Each c.in-Pins.is c.requires.items

pub returns-in-Cells : goal.returns-in-Cells
returns-in-Cells g c = subst (Answer (g.O.Observer.means c.args.work.now.observer.now) (g.O.Observer.model c.args.work.now.observer.now) (g.O.Observer.block c.args.work.now.observer.now) c.args.work.now.parts.now c.args.work.now.suspects.now c.args.items.now c.cell_piece.result) (sym c.in-Cells.is) c.cell_piece.ensures

pub returns-in-Nets : goal.returns-in-Nets
returns-in-Nets g c = subst (Answer (g.O.Observer.means c.args.work.now.observer.now) (g.O.Observer.model c.args.work.now.observer.now) (g.O.Observer.block c.args.work.now.observer.now) c.args.work.now.parts.now c.args.work.now.suspects.now c.args.items.now c.logic_piece.result) (sym c.in-Nets.is) c.logic_piece.ensures

pub returns-in-Pins : goal.returns-in-Pins
returns-in-Pins g c = subst (Answer (g.O.Observer.means c.args.work.now.observer.now) (g.O.Observer.model c.args.work.now.observer.now) (g.O.Observer.block c.args.work.now.observer.now) c.args.work.now.parts.now c.args.work.now.suspects.now c.args.items.now c.logic_piece-in-Pins.result) (sym c.in-Pins.is) c.logic_piece-in-Pins.ensures
