use Rattle.std.proofs.Common.{◌≡◌, ℕ, ◌+◌, ◌-◌, length, subst, inl, inr, arith}
use Rattle.std.specs.Prelude.{slice_index}
use Rattle.fault_effects.specs.Owners.{suspect_at}
use Rattle.fault_effects.specs.Shares.{IsAmong}
use Rattle.fault_effects.specs.Walks.{IsOfKind, IsFrom}
use Rattle.fault_effects.proofs.ShareLists.{shares_none, shares_join, shares_fewer}
use Rattle.fault_effects.proofs.KindShares.{from_more}
use Rattle.fault_effects.proofs.WalkScratch.{walk_scratch}
use Rattle.fault_effects.proofs.cell_shares.share_kind.Goals as goal

pub loop-left-preserved : goal.loop-left-preserved
loop-left-preserved g c =
    let o = c.args.work.now.observer.now in
    let group = c.args.group.now in
    let suspects = c.args.work.now.suspects.now in
    let left = c.loop-left.left in
    let Kind : ℕ → Type 0 = λ i. IsOfKind c.args.kind (suspect_at suspects i).fault in
    record {
      walk = c.in_ok-at.ensures.walk;
      left_le = omega (arith, c.loop-left.invariant.left_le);
      shares = shares_join (g.O.Observer.means o) (g.O.Observer.model o) (g.O.Observer.block o) suspects (λ i. IsFrom group left i × Kind i) (λ i. (i ≡ slice_index group (left - 1)) × Kind i) (λ i. IsFrom group (left - 1) i × Kind i)
          c.args.shares.now c.loop-left.shares c.share_cell.new.shares c.loop-left.invariant.shares c.in_ok-at.ensures.shares
          (λ i lt both. elim (from_more group (left - 1) i both.0) [
            | inl more ↦
                let back : (left - 1) + 1 ≡ left = omega arith in
                inl (subst (λ (n : ℕ). IsFrom group n i) back more, both.1)
            | inr at ↦ inr (at, both.1)
          ]);
    }

pub loop-left-init : goal.loop-left-init
loop-left-init g c =
    let o = c.args.work.now.observer.now in
    record {
      walk = c.requires.scratch;
      left_le = omega arith;
      shares = shares_none (g.O.Observer.means o) (g.O.Observer.model o) (g.O.Observer.block o) c.args.work.now.suspects.now _ c.args.shares.now (λ i lt both. omega (arith, both.0.1, both.0.2));
    }

pub share_cell-requires-clause-item : goal.share_cell-requires-clause-item
share_cell-requires-clause-item g c = c.requires.group (c.loop-left.left - 1) 0 (omega (arith, c.loop-left.invariant.left_le))

pub share_cell-requires-clause-walk : goal.share_cell-requires-clause-walk
share_cell-requires-clause-walk g c = c.loop-left.invariant.walk

pub returns-clause-scratch : goal.returns-clause-scratch
returns-clause-scratch g c =
    let work = c.args.work.now in
    let o = work.observer.now in
    walk_scratch work.parts.now work.good.now (g.O.Observer.model o) (g.O.ChainObserver.sums o) work.block c.args.kind c.loop-left.scratch c.loop-left.notes c.loop-left.at c.loop-left.invariant.walk

pub returns-clause-shares : goal.returns-clause-shares
returns-clause-shares g c =
    let o = c.args.work.now.observer.now in
    let group = c.args.group.now in
    let suspects = c.args.work.now.suspects.now in
    let Kind : ℕ → Type 0 = λ i. IsOfKind c.args.kind (suspect_at suspects i).fault in
    shares_fewer (g.O.Observer.means o) (g.O.Observer.model o) (g.O.Observer.block o) suspects (λ i. IsFrom group c.loop-left.left i × Kind i) (λ i. IsAmong group (length group) i × Kind i) c.args.shares.now c.loop-left.shares
    (λ i both. ((both.0.0, omega arith, both.0.1, both.0.2), both.1)) c.loop-left.invariant.shares
