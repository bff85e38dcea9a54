use Rattle.std.proofs.Common.{◌≡◌, ℕ, ◌<◌, List, length, get_or, set, sym, ap, subst, ◌∙◌, inl, inr, arith}
use Rattle.std.proofs.lemmas.Bool.{cases_eq}
use Rattle.std.proofs.lemmas.List.{get_or_default}
use Rattle.lane_rows.specs.Lanes.{lane}
use Rattle.fault_effects.specs.declared.share.Share.{Share}
use Rattle.slat_view.specs.Trials.{lanes_at, no_share}
use Rattle.slat_view.proofs.BlockFits.{lanes_set, lanes_here, share_found}
use Rattle.slat_view.proofs.shares.set_lanes.Goals as goal

pub loop-share-preserved : goal.loop-share-preserved
loop-share-preserved c = λ truth right k lt j lj.
    let shares = c.args.shares.now in
    let i = c.loop-share.share-index in
    let table = c.loop-share.table in
    let s = c.share-item.result in
    let now = set table s.suspect s.part in
    let Inside : Share (List ℕ) → Type 0 = λ x. x.suspect < length c.args.table.now in
    let inside : s.suspect < length table = omega (arith, subst Inside (sym c.share-item.is) (c.requires i s c.loop-share-test.true)) in
    let Right : Share (List ℕ) → Type 0 = λ x. lane x.part j ≡ truth x.suspect j in
    let here : lane s.part j ≡ truth s.suspect j = subst Right (sym c.share-item.is) (right i s c.loop-share-test.true j lj) in
    let is : get_or shares i no_share ≡ s = sym (c.share-item.is ∙ get_or_default shares i s no_share c.loop-share-test.true) in
    let At : Share (List ℕ) → Type 0 = λ x. lane (lanes_at now x.suspect) j ≡ truth x.suspect j in
    elim (cases_eq k i) [
      | inl same ↦ subst At (sym (ap (λ (n : ℕ). get_or shares n no_share) same ∙ is)) (lanes_here table s.suspect s.part truth j inside here)
      | inr other ↦ lanes_set table s.suspect s.part truth j inside here (get_or shares k no_share).suspect (c.loop-share.invariant truth right k (omega arith) j lj)
    ]

pub returns : goal.returns
returns c = λ truth right i has j lj.
    let found = share_found c.args.shares.now i has in
    let At : ℕ → Type 0 = λ q. lane (lanes_at c.loop-share.table q) j ≡ truth q j in
    subst At found.2 (c.loop-share.invariant truth right found.0 (omega (arith, found.1)) j lj)
