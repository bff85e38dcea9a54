-- A seat of a shared desk as a seat that sessions ask.
use Rattle.std.proofs.Common.{◌≡◌, ℕ, ◌+◌, ◌≤◌, ◌==◌, List, [], ◌++◌, length, filter, Some, Result, Ok, Err, refl, sym, ap, subst, ◌∙◌, arith, append-nil}
use Rattle.std.specs.Prelude.{drop}
use Rattle.std.proofs.lemmas.List.{drop-append-le, append_cancel_left}
use Rattle.std.proofs.Math.Seq.{drop-append_seam}
use Rattle.std.proofs.lemmas.List.Sums.{length-filter}
use Rattle.std.proofs.lemmas.List.Elements.{filter-append}
use mathlib.Core.List.{IsPrefix as Begins}
use Rattle.scan_model.specs.ScanTest.{ScanTest}
use Rattle.desk_outside.specs.declared.deed.Deed.{Deed}
use Rattle.diagnosis.specs.declared.put.Put.{Put}
use Rattle.diagnosis.specs.declared.put.Put.TheVariants.{Created, Same}
use Rattle.diagnosis.specs.Designs.{ReadLogFacts, StandsOver}
use Rattle.book.specs.declared.answers.PutFault.{PutFault}
use Rattle.book.specs.declared.answers.PutFault.TheVariants.{NameTaken, UnknownDesign, DigestDiffers, Full, Failed, NoMemory}
use Rattle.book.specs.Changes.{after, StandsIn}
use Rattle.shared_desk.specs.Entries.{mine_of, failed_of}
use Rattle.shared_desk.specs.OpenBooks.{faults_after}
use Rattle.shared_desk.specs.Seats.{DeskFacts, SeatFacts as DeskSeatFacts, mine, failed}
use Rattle.shared_desk.specs.Calls.{SawMore, Changes, Looks}
use Rattle.desk_answers.specs.Seats.{IsPrefix, GrewBy, of_number, gained, added, failed_in, Did, SeatChanged, IsLogIn}
use Rattle.desk_answers.specs.DeskSeats.{of_desk, IsSeatOf}

-- ---- two ways to say it

front_of : {X : Type 0} (xs ys : List X) → Begins xs ys → IsPrefix xs ys
front_of xs ys p = (p.0, sym p.1)

after_adds : (result : Result Put PutFault) (deeds : List Deed) (deed : Deed) → after result deeds deed ≡ deeds ++ added result deed
after_adds (Ok (Created n)) deeds deed = refl
after_adds (Ok (Same n)) deeds deed = sym (append-nil deeds)
after_adds (Err fault) deeds deed = sym (append-nil deeds)

failed_adds : (result : Result Put PutFault) (number : ℕ) → length (faults_after result [] number) ≡ failed_in result
failed_adds (Ok (Created n)) number = refl
failed_adds (Ok (Same n)) number = refl
failed_adds (Err (NameTaken kept)) number = refl
failed_adds (Err UnknownDesign) number = refl
failed_adds (Err (DigestDiffers right)) number = refl
failed_adds (Err (Full limit)) number = refl
failed_adds (Err Failed) number = refl
failed_adds (Err NoMemory) number = refl

-- ---- what a seat gained

-- a seat's own deeds since the opening are those that it had and those that it gained
mine_grows : (base number : ℕ) (old new : List Deed) → base ≤ length old → Begins old new → mine_of base number new ≡ mine_of base number old ++ gained number old new
mine_grows base number old new le (more, is) =
    let p = λ (deed : Deed). deed.by == number in
    let whole : mine_of base number (old ++ more) ≡ mine_of base number old ++ filter p more = ap (filter p) (drop-append-le base old more le) ∙ filter-append p (drop base old) more in
    let behind : gained number old (old ++ more) ≡ filter p more = ap (filter p) (drop-append_seam old more) in
    subst (λ (ds : List Deed). mine_of base number ds ≡ mine_of base number old ++ gained number old ds) is (whole ∙ ap (λ l. mine_of base number old ++ l) (sym behind))

gained_so : (base number : ℕ) (old new own : List Deed) → base ≤ length old → Begins old new → mine_of base number new ≡ mine_of base number old ++ own → gained number old new ≡ own
gained_so base number old new own le p is = append_cancel_left (mine_of base number old) (gained number old new) own (sym (mine_grows base number old new le p) ∙ is)

counts : (number : ℕ) (faults : List ℕ) → failed_of number faults ≡ of_number number faults
counts number faults = length-filter (λ k. k == number) faults

grew_so : (number count : ℕ) (old new : List ℕ) → Begins old new → failed_of number new ≡ failed_of number old + count → GrewBy number count old new
grew_so number count old new p is = record { prefix = front_of old new p; told = omega (arith, is, counts number old, counts number new) }

-- ---- calls

did_so : (own : List Deed) (count : ℕ) (old new : DeskSeatFacts) → old.desk.base ≤ length old.seen → SawMore old new → mine new ≡ mine old ++ own → failed new ≡ failed old + count → Did own count (of_desk old) (of_desk new)
did_so own count old new le more owns fails =
    let same_mine : mine new ≡ mine_of old.desk.base old.number new.seen = ap (λ (d : DeskFacts). mine_of d.base new.number new.seen) more.desk ∙ ap (λ (n : ℕ). mine_of old.desk.base n new.seen) more.number in
    let same_failed : failed new ≡ failed_of old.number new.faults = ap (λ (n : ℕ). failed_of n new.faults) more.number in
    record {
      number = more.number;
      limit = ap (λ (d : DeskFacts). d.limit) more.desk;
      seen = front_of old.seen new.seen more.seen;
      gained = gained_so old.desk.base old.number old.seen new.seen own le more.seen (sym same_mine ∙ owns);
      faults = grew_so old.number count old.faults new.faults more.faults (sym same_failed ∙ fails);
      legal = λ is. more.legal;
    }

-- a change of the desk is one of the seat
pub changes_so : (answer : ℕ → List Deed → Result Put PutFault) (deed : Deed) (desk : DeskFacts) (old new : DeskSeatFacts) (mark : ℕ) (result : Result Put PutFault)
    → IsSeatOf old desk → old.desk.base ≤ length old.seen → Changes (answer desk.limit) deed old new mark result → SeatChanged (answer old.desk.limit) deed result (of_desk old) (of_desk new)
changes_so answer deed desk old new mark result same base changes =
    let c : Changes (answer old.desk.limit) deed old new mark result = subst (λ (d : DeskFacts). Changes (answer d.limit) deed old new mark result) (sym same) changes in
    record {
      at = c.found;
      begins = front_of old.seen c.found c.found_after;
      answered = c.answered;
      seen = c.seen;
      did = did_so (added result deed) (failed_in result) old new base c.more (c.own ∙ after_adds result (mine old) deed) (c.own_faults ∙ ap (λ n. failed old + n) (failed_adds result old.number));
    }

-- a look does nothing
pub looks_so : (old new : DeskSeatFacts) (mark : ℕ) → old.desk.base ≤ length old.seen → Looks old new mark → Did [] 0 (of_desk old) (of_desk new)
looks_so old new mark base looks = did_so [] 0 old new base looks.more (looks.own ∙ sym (append-nil (mine old))) (looks.own_faults ∙ omega arith)

-- ---- logs

some_same : (a b : ScanTest) → Some a ≡ Some b → a ≡ b
some_same a b e = cc

-- a log that stands for its facts at its design stands in the book
pub log_stands : (deeds : List Deed) (log : ReadLogFacts) → IsLogIn deeds log → StandsIn deeds log
log_stands deeds log (t, found, stands) u is = subst (λ test. StandsOver test log) (some_same t u (sym found ∙ is)) stands
