use Rattle.std.proofs.Common.{◌≡◌, ◌<◌, ℕ, length, sym, subst}
use Rattle.scan_model.proofs.counting.Shown.{observed_net-in_range}
use Rattle.packed_sim.specs.PackedParts.{good_at, now_at}
use Rattle.packed_sim.proofs.Changes.{outside_same}
use Rattle.chain_compactor.proofs.shown_changes.CellChangesChanges.change.Goals as goal

pub change-requires-clause-net : goal.change-requires-clause-net
change-requires-clause-net c =
    let t = c.args.self.now.parts.now in
    subst (λ (n : ℕ). n < length t.netlist.nets) (sym c.requires.net) (observed_net-in_range t c.chains.ensures.fits c.args.point c.requires.point)

pub returns-in-None-change : goal.returns-in-None-change
returns-in-None-change c = λ j lt there.
    let o = c.args.self.now in
    let g = o.good.now in
    let b = o.block in
    let s = o.scratch.now in
    outside_same o.parts.now c.chains.ensures.fits g c.requires.ready.belongs o.cell.0 o.cell.1 o.kind s b j c.args.point c.requires.ready.block lt there c.requires.point c.in-None.ensures c.requires.ready.loaded
    (subst (λ (n : ℕ). now_at g s b j n ≡ good_at g b j n) c.requires.net (c.in-None-change.ensures j))
