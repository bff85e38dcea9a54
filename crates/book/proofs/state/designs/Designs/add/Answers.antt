use Rattle.std.proofs.Common.{◌≡◌, ◌∷◌, ◌++◌, ◌∙◌, [], ap, sym, subst, refl, Some, None}
use Rattle.std.specs.List.{position}
use Rattle.std.specs.Str.{bytes_eq}
use Rattle.std.specs.Arc.{arc_value}
use Rattle.std.proofs.lemmas.List.{length-map}
use Rattle.die_entries.specs.Entries.{arc_values}
use Rattle.book.specs.Places.{DesignsFacts, AreNoted}
use Rattle.book.proofs.Noted.{AreNoted-push, arc_push}
use Rattle.book.proofs.state.designs.Designs.add.Goals as goal

pub push_reserved-requires : goal.push_reserved-requires
push_reserved-requires c = (c.self.invariant.next (arc_value c.args.design) (ap (λ (v : DesignsFacts). v.next) c.self.view_is ∙ c.requires.next)).room

pub invariant_of-self : goal.invariant_of-self
invariant_of-self c =
    let next = c.self.invariant.next (arc_value c.args.design) (ap (λ (v : DesignsFacts). v.next) c.self.view_is ∙ c.requires.next) in
    let items : arc_values c.push_reserved.new.self.items ≡ arc_values c.self.inside.list.items ++ arc_value c.args.design ∷ [] =
    ap (λ xs. arc_values xs) c.push_reserved.ensures.items ∙ arc_push c.self.inside.list.items c.args.design in
    record {
      noted =
          subst (λ ds. AreNoted c.self.inside.places ds) (sym items)
          (AreNoted-push c.self.inside.places c.self.inside.places (arc_values c.self.inside.list.items) (arc_value c.args.design) c.self.invariant.noted
          (subst (λ (v : DesignsFacts). position (λ e. bytes_eq e.name (arc_value c.args.design).name) v.list ≡ None) (sym c.self.view_is) c.requires.new) (λ name e. refl)
          (next.noted ∙ ap (λ n. Some n) (sym (length-map c.self.inside.list.items (λ x. arc_value x)))));
      next = λ d e. absurd cc;
    }
