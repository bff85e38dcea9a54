-- Bytes have one head, and it stays where more bytes come.
use Rattle.std.proofs.Common.{◌≡◌, ℕ, zero, suc, ◌≤◌, Bool, true, false, if◌then◌else◌, nat_le, List, [], ◌∷◌, ◌++◌, length, take, Option, Some, None, Result, Err, refl, sym, ap, subst, ◌∙◌, arith, length-append}
use Rattle.std.proofs.lemmas.Bool.{leb-true, le-leb}
use Rattle.std.proofs.lemmas.List.{take-append-le, length-take}
use Rattle.httparse.specs.Grammar.{RequestHead}
use Rattle.httparse.proofs.GrammarLemmas.{request_unique}
use Rattle.desk_heads.specs.declared.head.HeadFault.{HeadFault}
use Rattle.desk_heads.specs.declared.head.HeadFault.TheVariants as fault
use Rattle.desk_heads.specs.Heads.{HeadFacts, Reads, head_length, head_limit, HeadFound, IsHeadOf}
use Rattle.desk_heads.proofs.HeadStays.{end_stays, end_within}

abbrev pub Found : Type 0
Found = Result (ℕ × HeadFacts) HeadFault

one_reading : (text : List ℕ) (a b : Option RequestHead) → Reads text a → Reads text b → a ≡ b
one_reading text None None p q = refl
one_reading text None (Some k) p q = absurd (p k q)
one_reading text (Some h) None p q = absurd (q h p)
one_reading text (Some h) (Some k) p q = let same = request_unique text h k [] [] p q in ap Some same.0

one_found : (bytes : List ℕ) (end : Option ℕ) (a b : Option Found) → HeadFound bytes end a → HeadFound bytes end b → a ≡ b
one_found bytes None a b p q = p ∙ sym q
one_found bytes (Some n) a b p q = let same = one_reading (take n bytes) p.0 q.0 p.1 q.1 in let e = p.2 in let f = q.2 in cc

-- bytes have one head
pub one_head : (bytes : List ℕ) (a b : Option Found) → IsHeadOf bytes a → IsHeadOf bytes b → a ≡ b
one_head bytes a b p q = one_found bytes (head_length (take head_limit bytes)) a b p q

take_append : (n : ℕ) (xs ys : List ℕ) → (zs : List ℕ) × (take n (xs ++ ys) ≡ take n xs ++ zs)
take_append zero xs ys = ([], refl)
take_append (suc n) [] ys = (take (suc n) ys, refl)
take_append (suc n) (x ∷ xs) ys = let rest = take_append n xs ys in (rest.0, ap (λ t. x ∷ t) rest.1)

end_is : (bytes more : List ℕ) (limit : ℕ) (n : ℕ) → head_length (take limit bytes) ≡ Some n → head_length (take limit (bytes ++ more)) ≡ Some n
end_is bytes more limit n e = let front = take_append limit bytes more in rw front.1 (end_stays (take limit bytes) front.0 n e)

-- a head stays where more bytes come
pub stays : (bytes more : List ℕ) (found : Found) → IsHeadOf bytes (Some found) → IsHeadOf (bytes ++ more) (Some found)
stays bytes more found is = by (head_length (take head_limit bytes)) refl is
  where
    to : (end : Option ℕ) → head_length (take head_limit (bytes ++ more)) ≡ end → HeadFound (bytes ++ more) end (Some found) → IsHeadOf (bytes ++ more) (Some found)
    to end e is = subst (λ o. HeadFound (bytes ++ more) o (Some found)) (sym e) is

    by : (end : Option ℕ) → head_length (take head_limit bytes) ≡ end → HeadFound bytes end (Some found) → IsHeadOf (bytes ++ more) (Some found)
    by None e is = by_limit (nat_le head_limit (length bytes)) refl is
      where
        by_limit : (long : Bool) → nat_le head_limit (length bytes) ≡ long → Some found ≡ (if long then Some (Err fault.HeadTooLarge) else None) → IsHeadOf (bytes ++ more) (Some found)
        by_limit false long is = absurd (cc)
        by_limit true long is =
            let enough : head_limit ≤ length bytes = leb-true _ _ long in
            let still : nat_le head_limit (length (bytes ++ more)) ≡ true = le-leb _ _ (omega (arith, length-append bytes more)) in
            to None (ap head_length (take-append-le head_limit bytes more enough) ∙ e) (rw still is)
    by (Some n) e (read, reads, is) =
        let within : n ≤ length bytes = omega (arith, end_within (take head_limit bytes) n e, length-take head_limit bytes) in
        to (Some n) (end_is bytes more head_limit n e) (read, subst (λ text. Reads text read) (sym (take-append-le n bytes more within)) reads, is)
