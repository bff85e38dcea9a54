use Rattle.std.proofs.Common.{◌≡◌, ◌∙◌, ℕ, List, [], ◌∷◌, ◌++◌, length, replicate, ap, arith}
use Rattle.std.proofs.lemmas.List.{length-replicate}
use Rattle.explained_lanes.proofs.Slots.{blank_lanes}
use Rattle.explained_lanes.proofs.net_rows.NetRows.make.Goals as goal

pub returns-clause-none : goal.returns-clause-none
returns-clause-none c = λ j n lj ln.
    let slots = c.in_ok-slots.slots.items in
    let is : slots ≡ replicate {A = ℕ} c.args.nets 0 = c.in_ok-slots.ensures.items_if_clones_equal (λ y e. e) in
    let one : c.push.new.self.items ≡ c.none.result ∷ [] = c.in_ok-push.ensures.items ∙ ap (λ (rows : List (List ℕ)). rows ++ c.none.result ∷ []) c.new-rows.ensures.items in
    blank_lanes slots c.push.new.self.items c.args.nets is c.none.result one c.none.ensures j n lj (omega (arith, ln, ap length is, length-replicate {A = ℕ} c.args.nets 0))
