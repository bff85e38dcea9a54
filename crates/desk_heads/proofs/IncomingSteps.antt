-- While a head isn't whole, few bytes wait, and no shorter front of them has one.
use Rattle.std.proofs.Common.{◌≡◌, ℕ, ◌<◌, ◌≤◌, arith, Bool, true, false, if◌then◌else◌, nat_le, List, ◌++◌, length, take, Option, Some, None, Err, refl, sym, ap, subst, ◌∙◌, append_assoc}
use Rattle.std.specs.Io.KnownBytes.{prepend_known}
use Rattle.std.proofs.lemmas.Bool.{leb-false}
use Rattle.std.proofs.lemmas.List.{length-take}
use Rattle.desk_heads.specs.declared.head.HeadFault.TheVariants as fault
use Rattle.desk_heads.specs.Heads.{head_length, head_limit, HeadFound, IsHeadOf}
use Rattle.desk_heads.specs.InboxReads.{Grows, Loses, IsUnended, HasHead}
use Rattle.desk_heads.proofs.HeadLaws.{Found, one_head, stays}

-- fewer bytes than the longest head has
pub unended_short : (bytes : List ℕ) → IsUnended bytes → length bytes < head_limit
unended_short bytes is = by (head_length (take head_limit bytes)) is
  where
    by_limit : (head : Option Found) (long : Bool) → head ≡ None → nat_le head_limit (length bytes) ≡ long → head ≡ (if long then Some (Err fault.HeadTooLarge) else None) → length bytes < head_limit
    by_limit head true none e is = absurd (cc)
    by_limit head false none e is = leb-false _ _ e

    by : (end : Option ℕ) → HeadFound bytes end None → length bytes < head_limit
    by None is = by_limit None (nat_le head_limit (length bytes)) refl refl is
    by (Some n) (read, reads, is) = absurd (cc)

-- where more bytes still are no whole head, there was none before them
pub no_head_before : (old new : List ℕ) → Grows old new → IsUnended new → HasHead old → ⊥
no_head_before old new (more, cut) unended (found, is) =
    let same : None ≡ Some found = one_head new None (Some found) unended (subst (λ bytes. IsHeadOf bytes (Some found)) (sym cut) (stays old more found is)) in
    cc

-- more bytes behind those that came already
pub grows_on : (old mid new more : List ℕ) → Grows old mid → new ≡ mid ++ more → Grows old new
grows_on old mid new more so_far cut = (so_far.0 ++ more, cut ∙ ap (λ bytes. bytes ++ more) so_far.1 ∙ append_assoc old so_far.0 more)

-- bytes before others that are known
pub prepend_on : (xs ys : List ℕ) (known : Option (List ℕ)) → prepend_known xs (prepend_known ys known) ≡ prepend_known (xs ++ ys) known
prepend_on xs ys None = refl
prepend_on xs ys (Some zs) = ap Some (sym (append_assoc xs ys zs))

-- the bytes of a read were lost
pub loses : (old new piece : List ℕ) (left rest : Option (List ℕ)) (count : ℕ) → left ≡ prepend_known (take count piece) rest → count ≤ length piece → 0 < count → new ≡ old → Loses old left new rest
loses old new piece left rest count takes fits some same = (
  take count piece,
  omega (arith, length-take count piece, fits, some),
  ap (prepend_known old) takes ∙ prepend_on old (take count piece) rest ∙ ap (λ (l : List ℕ). prepend_known (l ++ take count piece) rest) (sym same),
)
