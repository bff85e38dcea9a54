use Rattle.std.proofs.Common.{ℕ, ◌<◌, false, [], length, get_or, ap, subst, ◌∙◌, inl, inr, arith}
use Rattle.std.proofs.lemmas.Bool.{cases_eq}
use Rattle.fault_effects.proofs.flip_order.Listing.put_all.Goals as goal

pub loop-net-preserved : goal.loop-net-preserved
loop-net-preserved c = record {
  listing = c.in_ok-put_owner.ensures.listing;
  all = λ n lt owns. elim (cases_eq n c.loop-net.net) [
    | inl same ↦
        ap (λ (m : ℕ). get_or c.put_owner.new.self.seen.items m false) same
        ∙ c.in_ok-put_owner.ensures.seen (subst (λ (m : ℕ). 0 < length (get_or c.args.owners.now m [])) same owns)
    | inr other ↦ c.in_ok-put_owner.ensures.kept n (c.loop-net.invariant.all n (omega (arith, lt, other)) owns)
  ];
}
