-- No more pass two tests than pass one of them.
use Rattle.std.proofs.Common.{◌≤◌, ℕ, List, [], ◌∷◌, length, Bool, false, ◌&&◌, ◌||◌, arith}
use Rattle.std.specs.List.{filter}
use Rattle.std.proofs.lemmas.Grind.{common_steps}

pub fewer_pass_both : (p q : ℕ → Bool) (xs : List ℕ) → length (filter (λ x. p x && (q x || false)) xs) ≤ length (filter q xs)
fewer_pass_both p q [] = omega arith
fewer_pass_both p q (x ∷ xs) = let ih = fewer_pass_both p q xs in grind (arith, common_steps, ih)
