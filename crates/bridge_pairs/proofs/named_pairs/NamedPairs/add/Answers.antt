use Rattle.std.proofs.Common.{◌≡◌, ◌∷◌, [], ◌++◌, ap, ◌∙◌}
use Rattle.bridge_pairs.proofs.SetSteps.{HasPairs-push}
use Rattle.bridge_pairs.proofs.named_pairs.NamedPairs.add.Goals as goal

pub invariant_of-self-2 : goal.invariant_of-self-2
invariant_of-self-2 c =
    let items : c.push_reserved.new.self.items ≡ c.self.inside.list.items ++ c.args.pair ∷ [] = c.push_reserved.ensures.items ∙ ap (λ xs. xs ++ c.args.pair ∷ []) c.reserve.ensures.items in
    λ q. rw items (HasPairs-push c.self.inside.list.items c.args.pair c.self.inside.keys c.insert.new.self c.self.invariant (rw c.key_of.ensures at c.in_ok-insert.ensures.updates) q)
