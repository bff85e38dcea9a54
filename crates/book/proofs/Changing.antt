-- A change of a book, by its case.
use Rattle.std.proofs.Common.{◌≡◌, ℕ, ◌<◌, ◌≤◌, Bool, true, false, List, [], ◌∷◌, ◌++◌, length, Result, Ok, Err, Option, Some, None, option_map, refl, sym, ap, ◌∙◌, subst, arith}
use Rattle.desk_outside.specs.declared.deed.Deed.{Deed}
use Rattle.desk_outside.specs.declared.keeper.KeepFault.{KeepFault}
use Rattle.desk_outside.specs.declared.keeper.KeepFault.TheVariants as keep_fault
use Rattle.desk_outside.specs.Faults.{Rose}
use Rattle.diagnosis.specs.declared.put.Put.{Put}
use Rattle.diagnosis.specs.declared.put.Put.TheVariants.{Created}
use Rattle.book.specs.declared.answers.PutFault.{PutFault}
use Rattle.std.specs.Prelude.{if◌then◌else◌}
use Rattle.std.specs.Str.{bytes_eq}
use Rattle.book.specs.declared.answers.PutFault.TheVariants.{DigestDiffers}
use Rattle.book.specs.ChangeParts.{put_fault_of}
use Rattle.book.specs.Deeds.{die_signs}
use Rattle.book.specs.Answers.{sign_answer, sign_among}
use Rattle.book.specs.LegalDeeds.{fits, is_legal}
use Rattle.book.specs.Kinds.{appended}
use Rattle.book.specs.Changes.{BookFacts, IsBook, Changed, Answered, after}
use Rattle.book.proofs.OneMore.{legal-push}

-- the book after a deed that fits went to its keeper, or didn't
pub book_after : (result : Result (Unit {0}) KeepFault) (deed : Deed) (old new : BookFacts) → IsBook old → length old.deeds < old.limit → fits old.deeds deed.what ≡ true
    → new.deeds ≡ appended result old.deeds deed → new.limit ≡ old.limit → new.rows ≡ option_map (λ rows. appended result rows deed) old.rows → IsBook new
book_after result deed old new book room one deeds limit rows = record {
  legal = rw (deeds, limit) (legal_then result);
  rows = rw (rows, deeds) (rows_then old.rows book.rows);
}
  where
    legal_then : (r : Result (Unit {0}) KeepFault) → is_legal old.limit (appended r old.deeds deed) ≡ true
    legal_then (Ok done) = legal-push old.limit old.deeds deed book.legal room one
    legal_then (Err fault) = book.legal

    rows_then : (known : Option (List Deed)) → known ≡ option_map (λ rows. old.deeds) known
        → option_map (λ rows. appended result rows deed) known ≡ option_map (λ rows. appended result old.deeds deed) (option_map (λ rows. appended result rows deed) known)
    rows_then None same = refl
    rows_then (Some kept) same = ap (option_map (λ rows. appended result rows deed)) same

-- an entry was there, or the change was refused
pub unchanged : (answer result : Result Put PutFault) (deed : Deed) (b : BookFacts) → IsBook b → Answered answer (Rose b.faults b.faults) result → after result b.deeds deed ≡ b.deeds → Changed answer deed result b b
unchanged answer result deed b book answered same = record {
  answered = answered;
  deeds = sym same;
  limit = refl;
  rows = book.rows;
  faults = omega arith;
}

rows_of_added : (deed : Deed) (deeds : List Deed) (known : Option (List Deed)) → known ≡ option_map (λ rows. deeds) known
    → option_map (λ rows. rows ++ deed ∷ []) known ≡ option_map (λ rows. deeds ++ deed ∷ []) known
rows_of_added deed deeds None same = refl
rows_of_added deed deeds (Some kept) same = ap (option_map (λ rows. rows ++ deed ∷ [])) same

-- an entry was created
pub added : (answer : Result Put PutFault) (number : ℕ) (deed : Deed) (old new : BookFacts) → IsBook old → answer ≡ Ok (Created number)
    → new.deeds ≡ old.deeds ++ deed ∷ [] → new.limit ≡ old.limit → new.rows ≡ option_map (λ rows. rows ++ deed ∷ []) old.rows → old.faults ≤ new.faults
    → Changed answer deed (Ok (Created number)) old new
added answer number deed old new book is deeds limit rows faults = record {
  answered = is;
  deeds = deeds;
  limit = limit;
  rows = rw (deeds) (rows ∙ rows_of_added deed old.deeds old.rows book.rows);
  faults = faults;
}

-- a sign-off with another digest
pub digest_differs : (limit : ℕ) (deeds : List Deed) (design die : List ℕ) (revision : ℕ) (right given signer digest : List ℕ) → given ≡ right → bytes_eq digest given ≡ false
    → sign_answer limit deeds design die revision right signer digest ≡ Err (DigestDiffers given)
digest_differs limit deeds design die revision right given signer digest same apart =
    let differs : bytes_eq digest right ≡ false = subst (λ (r : List ℕ). bytes_eq digest r ≡ false) same apart in
    ap (λ (b : Bool). if b then sign_among limit deeds (die_signs deeds design die) revision signer else Err (DigestDiffers right)) differs
    ∙ ap (λ (r : List ℕ). Err (DigestDiffers r)) (sym same)
