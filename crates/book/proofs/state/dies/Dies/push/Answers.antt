use Rattle.std.proofs.Common.{◌≡◌, ◌∷◌, ◌++◌, ◌∙◌, [], sym, ap, subst, ℕ, List, Some, None, length, arith}
use Rattle.std.specs.Prelude.{if◌then◌else◌, slice_get}
use Rattle.std.specs.List.{position}
use Rattle.std.specs.Str.{bytes_eq}
use Rattle.book.specs.Places.{place_of}
use Rattle.book.specs.Dies.{AreNotedDies, bare_die, die_key, is_die}
use Rattle.book.proofs.NotedDies.{AreNotedDies-push}
use Rattle.book.proofs.state.dies.Dies.push.Goals as goal

pub invariant_of-self : goal.invariant_of-self
invariant_of-self c i k at = c.self.invariant i k (subst (λ xs. slice_get xs i ≡ Some k) c.reserve.ensures.items at)

pub invariant_of-self-in_err-note : goal.invariant_of-self-in_err-note
invariant_of-self-in_err-note c i k at =
    let was = c.self.invariant i k (subst (λ xs. slice_get xs i ≡ Some k) c.reserve.ensures.items at) in
    record { noted = c.in_err-note.ensures.err (die_key k.design k.die) ∙ was.noted; tag = was.tag }

pub invariant_of-self-2 : goal.invariant_of-self-2
invariant_of-self-2 c =
    let items : c.push_reserved.new.self.items ≡ c.self.inside.list.items ++ bare_die c.args.design.now c.args.die.now ∷ [] =
    c.push_reserved.ensures.items ∙ ap (λ xs. xs ++ c.in_ok-bare.bare ∷ []) c.reserve.ensures.items ∙ ap (λ k. c.self.inside.list.items ++ k ∷ []) c.in_ok-bare.ensures in
    let place : c.len.result ≡ length c.self.inside.list.items = omega (arith, ap length c.reserve.ensures.items) in
    let noting : (q : List ℕ) → place_of c.note.new.places q ≡ (if bytes_eq (die_key c.args.design.now c.args.die.now) q then Some (length c.self.inside.list.items) else place_of c.self.inside.places q) =
    λ q. c.in_ok-note.ensures.ok q ∙ ap (λ key. if bytes_eq key q then Some c.len.result else place_of c.self.inside.places q) c.requires.key
    ∙ ap (λ n. if bytes_eq (die_key c.args.design.now c.args.die.now) q then Some n else place_of c.self.inside.places q) place in
    let absent : position (is_die c.args.design.now c.args.die.now) c.self.inside.list.items ≡ None =
    subst (λ xs. position (is_die c.args.design.now c.args.die.now) xs ≡ None) (sym c.self.view_is) c.requires.fresh in
    subst (λ xs. AreNotedDies c.note.new.places xs) (sym items)
    (AreNotedDies-push c.self.inside.places c.note.new.places c.self.inside.list.items c.args.design.now c.args.die.now c.self.invariant c.requires.tag absent noting)
