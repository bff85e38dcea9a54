-- Lists of deeds that grow by one.
use Rattle.std.proofs.Common.{◌≡◌, ℕ, ◌<◌, ◌≤◌, true, List, [], ◌∷◌, ◌++◌, length, append_assoc, arith}
use Rattle.std.proofs.lemmas.Grind.{common_steps}
use Rattle.desk_outside.specs.declared.deed.Deed.{Deed}
use Rattle.book.specs.Deeds.{designs}
use Rattle.book.specs.LegalDeeds.{fits, each_fits, is_legal}

-- one more deed that fits
pub each_fits-push : (before deeds : List Deed) (deed : Deed) → each_fits before deeds ≡ true → fits (before ++ deeds) deed.what ≡ true → each_fits before (deeds ++ deed ∷ []) ≡ true
each_fits-push before [] deed legal one = grind (arith, common_steps)
each_fits-push before (d ∷ ds) deed legal one =
    let rest : each_fits (before ++ d ∷ []) (ds ++ deed ∷ []) ≡ true =
    each_fits-push (before ++ d ∷ []) ds deed (grind (arith, common_steps)) (rw append_assoc one) in
    grind (arith, common_steps, rest)

pub legal-push : (limit : ℕ) (deeds : List Deed) (deed : Deed) → is_legal limit deeds ≡ true → length deeds < limit → fits deeds deed.what ≡ true → is_legal limit (deeds ++ deed ∷ []) ≡ true
legal-push limit deeds deed legal room one =
    let rest : each_fits [] (deeds ++ deed ∷ []) ≡ true = each_fits-push [] deeds deed (grind (arith, common_steps)) one in
    grind (arith, common_steps, rest)

-- there are at most as many designs as deeds
pub few_designs : (deeds : List Deed) → length (designs deeds) ≤ length deeds
few_designs [] = omega arith
few_designs (d ∷ ds) = let less = few_designs ds in grind (arith, less)
