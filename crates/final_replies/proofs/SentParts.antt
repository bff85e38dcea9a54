-- What was sent, one part after another.
use Rattle.std.proofs.Common.{◌≡◌, ℕ, List, [], ◌++◌, Option, Some, None, refl, sym, ap, ◌∙◌, append_assoc, append-nil}
use Rattle.std.specs.Io.KnownBytes.{append_known}
use Rattle.desk_outside.specs.Bytes.{AddsPart}

pub sent_on : (a : Option (List ℕ)) (xs ys : List ℕ) → append_known (append_known a xs) ys ≡ append_known a (xs ++ ys)
sent_on None xs ys = refl
sent_on (Some zs) xs ys = ap Some (append_assoc zs xs ys)

pub sent_none : (a : Option (List ℕ)) → append_known a [] ≡ a
sent_none None = refl
sent_none (Some zs) = ap Some (append-nil zs)

-- a part of the first is a part of both
pub part_of_first : (a b : Option (List ℕ)) (first second : List ℕ) → AddsPart a b first → AddsPart a b (first ++ second)
part_of_first a b first second (left, adds) =
    (left ++ second, record { part = adds.part; cut = ap (λ l. l ++ second) adds.cut ∙ append_assoc adds.part left second; added = adds.added })

-- the first, and a part of the second
pub part_of_second : (a b c : Option (List ℕ)) (first second : List ℕ) → b ≡ append_known a first → AddsPart b c second → AddsPart a c (first ++ second)
part_of_second a b c first second sent (left, adds) = (
  left,
  record {
    part = first ++ adds.part;
    cut = ap (λ l. first ++ l) adds.cut ∙ sym (append_assoc first adds.part left);
    added = adds.added ∙ ap (λ s. append_known s adds.part) sent ∙ sent_on a first adds.part;
  },
)
