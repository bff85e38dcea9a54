use Rattle.std.proofs.Common.{◌<◌, ℕ, length, sym, subst}
use Rattle.scan_model.proofs.counting.Shown.{observed_net-in_range}
use Rattle.lane_rows.specs.Planes.{held}
use Rattle.chain_compactor.proofs.ShownFlips.{flip_change, flip_same}
use Rattle.chain_compactor.proofs.shown_changes.FlipChangesChanges.change.Goals as goal

pub change-requires-clause-net : goal.change-requires-clause-net
change-requires-clause-net c =
    let t = c.args.self.now.parts.now in
    subst (λ (n : ℕ). n < length t.netlist.nets) (sym c.requires.net) (observed_net-in_range t c.chains.ensures.fits c.args._point c.requires.point)

pub returns-in-Some : goal.returns-in-Some
returns-in-Some c = λ j lt captured.
    let o = c.args.self.now in
    flip_change o.parts.now c.chains.ensures.fits o.good.now o.block o.net o.scratch.now c.requires.ready c.args._point c.requires.point j lt captured c.args.net c.requires.net
    (held c.in-Some.change j) (c.in-Some.ensures j lt)

pub returns-in-None : goal.returns-in-None
returns-in-None c = λ j lt captured.
    let o = c.args.self.now in
    flip_same o.parts.now c.chains.ensures.fits o.good.now o.block o.net o.scratch.now c.requires.ready c.args._point c.requires.point j lt captured c.args.net c.requires.net
    (c.in-None.ensures j)
