-- How bytes that were added go on, and how bytes that are left are read.
use Rattle.std.proofs.lemmas.List.{take-append-drop, drop-drop}
use Rattle.std.proofs.Common.{◌≡◌, ℕ, ◌+◌, List, ◌++◌, take, drop, Option, Some, None, refl, sym, ap, ◌∙◌, append_assoc}
use Rattle.std.specs.Io.KnownBytes.{append_known}
use Rattle.desk_outside.specs.Bytes.{AddsBefore}

-- bytes that are added twice
pub append_known_twice : (known : Option (List ℕ)) (xs ys : List ℕ) → append_known (append_known known xs) ys ≡ append_known known (xs ++ ys)
append_known_twice None xs ys = refl
append_known_twice (Some zs) xs ys = ap Some (append_assoc zs xs ys)

-- some bytes more from the front of what was left
pub goes_on : (old mid new : Option (List ℕ)) (bytes rest more left : List ℕ) → AddsBefore old mid bytes rest → rest ≡ more ++ left → new ≡ append_known mid more → AddsBefore old new bytes left
goes_on old mid new bytes rest more left so_far cut added = record {
  part = so_far.part ++ more;
  cut = so_far.cut ∙ ap (λ l. so_far.part ++ l) cut ∙ sym (append_assoc so_far.part more left);
  added = added ∙ ap (λ known. append_known known more) so_far.added ∙ append_known_twice old so_far.part more;
}

-- the first bytes that are left, and those left after them
pub cut_left : (bytes taken : List ℕ) (at n : ℕ) → taken ≡ take n (drop at bytes) → drop at bytes ≡ taken ++ drop (at + n) bytes
cut_left bytes taken at n is =
    sym (take-append-drop n (drop at bytes)) ∙ ap (λ l. take n (drop at bytes) ++ l) (drop-drop n at bytes) ∙ ap (λ t. t ++ drop (at + n) bytes) (sym is)
