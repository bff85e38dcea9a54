use Rattle.std.proofs.Common.{◌≡◌, ℕ, ◌+◌, List, [], length, get_or, sym, ap, subst, ◌∙◌, inl, inr, arith}
use Rattle.std.specs.Prelude.{Contains}
use Rattle.std.proofs.lemmas.List.Elements.{All-nil}
use Rattle.fault_effects.specs.FaultModel.{no_places}
use Rattle.fault_effects.specs.Owners.{owner, suspect_at}
use Rattle.fault_effects.specs.Shares.{IsAmong, Shares}
use Rattle.fault_effects.proofs.ShareLists.{shares_join, shares_none, among_from, among_more}
use Rattle.fault_effects.proofs.net_piece.share_nets.Goals as goal

pub loop-net-init : goal.loop-net-init
loop-net-init g c =
    let o = c.args.work.now.observer.now in
    record {
      scratch = c.requires.scratch;
      kept = c.in_ok-kept.ensures;
      region = record {
        root = no_places;
        held = rw c.new-region.ensures.flip c.new_flip.ensures;
        flip = rw c.new-region.ensures.net tt;
        members = rw c.new-region.ensures.members (All-nil _);
        path = rw c.new-region.ensures.path (All-nil _);
      };
      shares = shares_none (g.O.Observer.means o) (g.O.Observer.model o) (g.O.Observer.block o) c.args.work.now.suspects.now _ c.args.shares.now (λ i lt among. omega (arith, among.1));
    }

pub loop-net-preserved : goal.loop-net-preserved
loop-net-preserved g c =
    let o = c.args.work.now.observer.now in
    let t = c.args.work.now.parts.now in
    let suspects = c.args.work.now.suspects.now in
    let nets = c.args.nets.now in
    let k = c.loop-net.net-index in
    let group = c.group-group.result.now in
    let owner_at : ℕ → ℕ = λ i. owner t (suspect_at suspects i).fault in
    record {
      scratch = c.share_net.ensures.scratch;
      kept = c.in_ok-share_net.ensures.kept;
      region = c.in_ok-share_net.ensures.region;
      shares = shares_join (g.O.Observer.means o) (g.O.Observer.model o) (g.O.Observer.block o) suspects (λ i. IsAmong nets k (owner_at i)) (IsAmong group (length group)) (λ i. IsAmong nets (k + 1) (owner_at i)) c.args.shares.now c.loop-net.shares c.share_net.new.shares c.loop-net.invariant.shares
          c.in_ok-share_net.ensures.shares
          (λ i lt among. elim (among_more nets k (owner_at i) among) [
            | inl before ↦ inl before
            | inr same ↦ inr (among_from group i (let In : List ℕ → Type 0 = λ xs. Contains xs i in subst In (ap (λ (x : ℕ). get_or c.args.work.now.owners.now x []) same ∙ sym c.group-group.ensures) (c.requires.work.owners.all i lt)))
          ]);
    }

pub returns-clause-shares : goal.returns-clause-shares
returns-clause-shares g c =
    let o = c.args.work.now.observer.now in
    let nets = c.args.nets.now in
    let whole : c.loop-net.net-index ≡ length nets = omega arith in
    let Upto : ℕ → Type 0 = λ n. Shares (g.O.Observer.means o) (g.O.Observer.model o) (g.O.Observer.block o) c.args.work.now.suspects.now (λ i. IsAmong nets n (owner c.args.work.now.parts.now (suspect_at c.args.work.now.suspects.now i).fault)) c.args.shares.now c.loop-net.shares in
    subst Upto whole c.loop-net.invariant.shares
