use Rattle.std.proofs.Common.{◌≡◌, ℕ, sym, ap, subst, ◌∙◌, rules}
use Rattle.scan_model.specs.declared.fault.CellKind.{CellKind}
use Rattle.scan_model.specs.declared.fault.Fault.{Fault}
use Rattle.scan_model.specs.declared.fault.Fault.TheVariants as fault
use Rattle.scan_model.specs.ScanTest.{HasSite}
use Rattle.fault_effects.specs.FaultModel.{fails_in}
use Rattle.fault_effects.specs.Tables.{table_of}
use Rattle.fault_effects.specs.Owners.{suspect_at, no_suspect}
use Rattle.fault_effects.specs.Walks.{IsOfKind}
use Rattle.fault_effects.proofs.CellShares.{cell_owned}
use Rattle.fault_effects.proofs.ShareLists.{shares_fewer, shares_push}
use Rattle.fault_effects.proofs.WalkScratch.{walk_scratch}
use Rattle.fault_effects.proofs.cell_shares.share_cell.Goals as goal

pub unreachable-requires : goal.unreachable-requires
unreachable-requires g c =
    let own = c.requires.item in
    let s = suspect_at c.args.work.now.suspects.now c.args.item in
    let is = cell_owned c.args.work.now.parts.now s.fault c.chains.ensures.fits (c.requires.work.suspects c.args.item no_suspect own.within).site own.owned in
    c.in_default.not-Cell is.chain is.pos is.kind is.is

pub returns-clause-shares : goal.returns-clause-shares
returns-clause-shares g c =
    let o = c.args.work.now.observer.now in
    let m = g.O.Observer.model o in
    let means = g.O.Observer.means o in
    let suspects = c.args.work.now.suspects.now in
    let item = c.args.item in
    let s = suspect_at suspects item in
    let f = fault.Cell c.in-Cell.chain c.in-Cell.pos c.args.kind in
    let same : c.in-Cell.own ≡ c.args.kind = search rules in
    let is : f ≡ s.fault = ap (λ (k : CellKind). fault.Cell c.in-Cell.chain c.in-Cell.pos k) (sym same) ∙ sym c.in-Cell.is in
    let walk = c.in_ok-reach.ensures.walk in
    let rows = c.reach.new.notes.rows.items in
    let part = c.total.result in
    let At : ℕ → Type 0 = λ b. means part (fails_in m b s.fault) in
    let Of : Fault → Type 0 = λ x. means part (fails_in m c.args.work.now.block x) in
    let fits = subst At (sym c.requires.chains.block) (subst Of is (g.met.O.Observer.same o part (table_of rows) (fails_in m c.args.work.now.block f) (λ q j q_lt lt. walk.fresh q q_lt j lt) (c.total.ensures (table_of rows) walk.noted.summed))) in
    shares_fewer means m (g.O.Observer.block o) suspects (λ i. i ≡ item) (λ i. (i ≡ item) × IsOfKind c.args.kind (suspect_at suspects i).fault) c.args.shares.now c.push.new.self (λ i both. both.0)
    (shares_push means m (g.O.Observer.block o) suspects c.args.shares.now c.push.new.self item part c.in_ok-push.ensures.ok c.requires.item.within fits)

pub returns-then-ne-clause-scratch : goal.returns-then-ne-clause-scratch
returns-then-ne-clause-scratch g c =
    let work = c.args.work.now in
    let o = work.observer.now in
    walk_scratch work.parts.now work.good.now (g.O.Observer.model o) (g.O.ChainObserver.sums o) work.block c.args.kind c.args.scratch.now c.args.notes.now c.args.at c.requires.walk

pub returns-then-ne-clause-walk : goal.returns-then-ne-clause-walk
returns-then-ne-clause-walk g c = c.requires.walk

pub reach-requires-clause-work : goal.reach-requires-clause-work
reach-requires-clause-work g c = c.requires.chains

pub reach-requires-clause-chain : goal.reach-requires-clause-chain
reach-requires-clause-chain g c = (subst (HasSite c.args.work.now.parts.now) c.in-Cell.is (c.requires.work.suspects c.args.item no_suspect c.requires.item.within).site).0

pub reach-requires-clause-pos : goal.reach-requires-clause-pos
reach-requires-clause-pos g c = (subst (HasSite c.args.work.now.parts.now) c.in-Cell.is (c.requires.work.suspects c.args.item no_suspect c.requires.item.within).site).1

pub reach-requires-clause-walk : goal.reach-requires-clause-walk
reach-requires-clause-walk g c = c.requires.walk

pub returns-clause-walk : goal.returns-clause-walk
returns-clause-walk g c = c.in_ok-reach.ensures.walk
