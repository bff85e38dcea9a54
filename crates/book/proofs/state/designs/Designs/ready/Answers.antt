use Rattle.std.proofs.Common.{◌≡◌, ◌∙◌, ap, sym, subst, length, Some, None}
use Rattle.std.specs.List.{position}
use Rattle.std.specs.Str.{bytes_eq}
use Rattle.std.specs.Arc.{arc_value}
use Rattle.diagnosis.specs.Designs.{DesignFacts}
use Rattle.die_entries.specs.Entries.{arc_values}
use Rattle.book.specs.Places.{DesignsFacts, AreNoted, place_of}
use Rattle.book.proofs.Noted.{AreNoted-kept}
use Rattle.book.proofs.state.designs.Designs.ready.Goals as goal

pub invariant_of-self : goal.invariant_of-self
invariant_of-self c = record {
  noted =
      subst (λ ds. AreNoted c.ready.new.places (arc_values ds)) (sym c.ready.ensures.items)
      (AreNoted-kept c.self.inside.places c.ready.new.places (arc_values c.self.inside.list.items) (arc_value c.args.design.now) c.self.invariant.noted
      (subst (λ (v : DesignsFacts). position (λ e. bytes_eq e.name (arc_value c.args.design.now).name) v.list ≡ None) (sym c.self.view_is) c.requires) c.ready.ensures.others);
  next = λ d e. absurd cc;
}

pub invariant_of-self-2 : goal.invariant_of-self-2
invariant_of-self-2 c =
    let same : arc_value c.of.result.value ≡ arc_value c.args.design.now = ap (λ k. arc_value k) c.of.ensures ∙ c.in_ok-kept.ensures.same in
    record {
      noted =
          subst (λ ds. AreNoted c.ready.new.places (arc_values ds)) (sym c.ready.ensures.items)
          (AreNoted-kept c.self.inside.places c.ready.new.places (arc_values c.self.inside.list.items) (arc_value c.args.design.now) c.self.invariant.noted
          (subst (λ (v : DesignsFacts). position (λ e. bytes_eq e.name (arc_value c.args.design.now).name) v.list ≡ None) (sym c.self.view_is) c.requires) c.ready.ensures.others);
      next = λ d e.
          let is : arc_value c.args.design.now ≡ d = let h : arc_value c.of.result.value ≡ d = cc in sym same ∙ h in
          record {
            noted = subst (λ (k : DesignFacts). place_of c.ready.new.places k.name ≡ Some (length c.ready.new.list.items)) is (c.in_ok-kept.ensures.noted ∙ ap (λ ds. Some (length ds)) (sym c.ready.ensures.items));
            room = c.in_ok-kept.ensures.room;
          };
    }
