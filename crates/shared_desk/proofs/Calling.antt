-- What a call does, from the steps of its turn.
use Rattle.std.proofs.Common.{◌≡◌, ◌+◌, ◌≤◌, ℕ, List, [], ◌∷◌, length, true, false, true≢false, Result, Ok, Err, refl, sym, ap, ◌∙◌, subst, arith, length-append}
use mathlib.Core.List.{IsPrefix}
use Rattle.std.specs.Prelude.{⊤, IsSome, Option, Some, None}
use Rattle.atomic_table.specs.Table.{Me}
use Rattle.atomic_table.specs.Seated.{TableId}
use Rattle.desk_outside.specs.declared.deed.Deed.{Deed}
use Rattle.desk_outside.specs.Faults.{Rose}
use Rattle.diagnosis.specs.declared.put.Put.{Put}
use Rattle.diagnosis.specs.declared.put.Put.TheVariants.{Created, Same}
use Rattle.book.specs.declared.answers.PutFault.{PutFault}
use Rattle.book.specs.declared.answers.PutFault.TheVariants.{NameTaken, UnknownDesign, DigestDiffers, Full, Failed, NoMemory}
use Rattle.book.specs.LegalDeeds.{is_legal}
use Rattle.diagnosis.specs.Designs.{ReadLogFacts, ViewFacts}
use Rattle.book.specs.Deeds.{design_text}
use Rattle.book.specs.Changes.{BookFacts, IsBook, Answered, Changed, after, StandsIn, IsViewIn}
use Rattle.shared_desk.specs.declared.turns.DeskTerms.{DeskTerms}
use Rattle.shared_desk.specs.declared.turns.SeatView.{SeatView}
use Rattle.shared_desk.specs.Entries.{mine_of, failed_of}
use Rattle.shared_desk.specs.OpenBooks.{OpenBookFacts, faults_after}
use Rattle.shared_desk.specs.Turns.{Slot, at_turn, with_lists}
use Rattle.shared_desk.specs.Stages.{HasTurn, Took}
use Rattle.shared_desk.specs.Seats.{DeskFacts, SeatFacts, seat_of, seat_facts, desk_facts, IsDeskSeat, IsSeatView}
use Rattle.shared_desk.specs.Calls.{Changes}
use Rattle.shared_desk.proofs.Lists.{longer_prefix}
use Rattle.shared_desk.proofs.EntryLists.{mine_own, failed_own}
use Rattle.shared_desk.proofs.StandsLonger.{stands_after, view_after}

-- ---- lists after an answer

prefix_after : (result : Result Put PutFault) (xs ys : List Deed) (deed : Deed) → IsPrefix xs ys → IsPrefix xs (after result ys deed)
prefix_after (Ok (Created number)) xs ys deed p = longer_prefix xs ys deed p
prefix_after (Ok (Same number)) xs ys deed p = p
prefix_after (Err fault) xs ys deed p = p

faults_prefix_after : (result : Result Put PutFault) (xs ys : List ℕ) (n : ℕ) → IsPrefix xs ys → IsPrefix xs (faults_after result ys n)
faults_prefix_after (Ok put) xs ys n p = p
faults_prefix_after (Err (NameTaken kept)) xs ys n p = p
faults_prefix_after (Err UnknownDesign) xs ys n p = p
faults_prefix_after (Err (DigestDiffers right)) xs ys n p = p
faults_prefix_after (Err (Full limit)) xs ys n p = p
faults_prefix_after (Err Failed) xs ys n p = longer_prefix xs ys n p
faults_prefix_after (Err NoMemory) xs ys n p = p

mine_after : (result : Result Put PutFault) (base n : ℕ) (deeds : List Deed) (deed : Deed) → base ≤ length deeds → deed.by ≡ n → mine_of base n (after result deeds deed) ≡ after result (mine_of base n deeds) deed
mine_after (Ok (Created number)) base n deeds deed le by = mine_own base n deeds deed le by
mine_after (Ok (Same number)) base n deeds deed le by = refl
mine_after (Err fault) base n deeds deed le by = refl

failed_after : (result : Result Put PutFault) (n : ℕ) (faults : List ℕ) → failed_of n (faults_after result faults n) ≡ failed_of n faults + length (faults_after result [] n)
failed_after (Ok put) n faults = omega arith
failed_after (Err (NameTaken kept)) n faults = omega arith
failed_after (Err UnknownDesign) n faults = omega arith
failed_after (Err (DigestDiffers right)) n faults = omega arith
failed_after (Err (Full limit)) n faults = omega arith
failed_after (Err Failed) n faults = failed_own n faults
failed_after (Err NoMemory) n faults = omega arith

answered_anyway : (result answer : Result Put PutFault) (rose : Type 0) → Answered answer rose result → Answered answer ⊤ result
answered_anyway (Ok put) answer rose a = a
answered_anyway (Err (NameTaken kept)) answer rose a = a
answered_anyway (Err UnknownDesign) answer rose a = a
answered_anyway (Err (DigestDiffers right)) answer rose a = a
answered_anyway (Err (Full limit)) answer rose a = a
answered_anyway (Err Failed) answer rose a = (a.0, tt)
answered_anyway (Err NoMemory) answer rose a = tt

-- ---- changes

same_head : (v w : SeatView) (vs ws : List SeatView) → v ∷ vs ≡ w ∷ ws → v ≡ w
same_head v w vs ws e = cc

pub sits_of : (number kept : ℕ) (views : List SeatView) (old : SeatView) → IsDeskSeat number kept views → views ≡ old ∷ [] → IsSeatView number old
sits_of number kept views old sits one = subst (IsSeatView number) (same_head sits.0 old [] [] (sym sits.1 ∙ one)) sits.2

module _ (answer : ℕ → List Deed → Result Put PutFault) (deed : ℕ → Deed) (by : (n : ℕ) → (deed n).by ≡ n) where
  of_views : (place : TableId) (old turn : SeatView) (b0 b1 : OpenBookFacts) (mark : ℕ) (result : Result Put PutFault) → Took old turn b0
      → Changed (answer b0.book.limit b0.book.deeds) (deed old.number) result b0.book b1.book → b1.faults ≡ faults_after result b0.faults old.number → mark ≡ length b1.book.deeds → IsBook b1.book
      → Changes (answer old.about.limit) (deed old.number) (seat_of place old) (seat_of place (at_turn (with_lists turn b1.book.deeds b1.faults) false 0 false)) mark result
  of_views place old turn b0 b1 mark result took changed faulted marked book =
      let n = old.number in
      let d = deed n in
      let deeds : b1.book.deeds ≡ after result turn.seen d = changed.deeds ∙ ap (λ ds. after result ds d) took.lists.deeds in
      let faults : b1.faults ≡ faults_after result turn.faults n = faulted ∙ ap (λ fs. faults_after result fs n) took.lists.faults in
      let limit : b1.book.limit ≡ turn.about.limit = changed.limit ∙ (took.lists.limit ∙ sym (ap (λ (a : DeskTerms). a.limit) took.about)) in
      let mine_same : mine_of turn.about.base turn.number b1.book.deeds ≡ mine_of old.about.base n b1.book.deeds =
      ap (λ (a : DeskTerms). mine_of a.base turn.number b1.book.deeds) took.about ∙ ap (λ k. mine_of old.about.base k b1.book.deeds) took.number in
      record {
        more = record {
          desk = ap (desk_facts place) took.about;
          number = took.number;
          seen = subst (IsPrefix old.seen) (sym deeds) (prefix_after result old.seen turn.seen d took.seen);
          faults = subst (IsPrefix old.faults) (sym faults) (faults_prefix_after result old.faults turn.faults n took.faults);
          legal = subst (λ (k : ℕ). is_legal k b1.book.deeds ≡ true) limit book.legal;
        };
        marked = marked;
        found = turn.seen;
        found_after = took.seen;
        answered = subst (λ (k : ℕ). Answered (answer k turn.seen) ⊤ result) took.lists.limit
            (subst (λ (ds : List Deed). Answered (answer b0.book.limit ds) ⊤ result) took.lists.deeds (answered_anyway result (answer b0.book.limit b0.book.deeds) (Rose b0.book.faults b1.book.faults) changed.answered));
        seen = deeds;
        own = mine_same ∙ (ap (mine_of old.about.base n) deeds ∙ (mine_after result old.about.base n turn.seen d took.base (by n) ∙ ap (λ ds. after result ds d) took.mine));
        found_faults = turn.faults;
        faults_after_old = took.faults;
        faults = faults;
        own_faults = ap (λ k. failed_of k b1.faults) took.number ∙ (ap (failed_of n) faults ∙ (failed_after result n turn.faults ∙ ap (λ k. k + length (faults_after result [] n)) took.failed));
      }

  pub changes_seat : (desk : DeskFacts) (seat : SeatFacts) (number kept : ℕ) (place : TableId) (views : List SeatView) (old turn : SeatView) (b0 b1 : OpenBookFacts) (mark : ℕ) (result : Result Put PutFault) (place' : TableId) (views' : List SeatView)
      → seat ≡ seat_facts place views → seat.desk ≡ desk → IsDeskSeat number kept views → views ≡ old ∷ [] → Took old turn b0
      → Changed (answer b0.book.limit b0.book.deeds) (deed number) result b0.book b1.book → b1.faults ≡ faults_after result b0.faults number → mark ≡ length b1.book.deeds → IsBook b1.book
      → place' ≡ place → views' ≡ at_turn (with_lists turn b1.book.deeds b1.faults) false 0 false ∷ []
      → Changes (answer desk.limit) (deed seat.number) seat (seat_facts place' views') mark result
  changes_seat desk seat number kept place views old turn b0 b1 mark result place' views' seat_is of_desk sits one took changed faulted marked book same_place new_one =
      let numbered = (sits_of number kept views old sits one).number in
      let was : seat ≡ seat_of place old = seat_is ∙ ap (seat_facts place) one in
      let now : seat_facts place' views' ≡ seat_of place (at_turn (with_lists turn b1.book.deeds b1.faults) false 0 false) = ap (λ p. seat_facts p views') same_place ∙ ap (seat_facts place) new_one in
      let limit : desk.limit ≡ old.about.limit = ap (λ (d : DeskFacts). d.limit) (sym of_desk) ∙ ap (λ (s : SeatFacts). s.desk.limit) was in
      let body = of_views place old turn b0 b1 mark result took
      (subst (λ (k : ℕ). Changed (answer b0.book.limit b0.book.deeds) (deed k) result b0.book b1.book) (sym numbered) changed)
      (subst (λ (k : ℕ). b1.faults ≡ faults_after result b0.faults k) (sym numbered) faulted) marked book in
      subst (λ (k : ℕ). Changes (answer k) (deed seat.number) seat (seat_facts place' views') mark result) (sym limit)
      (subst (λ (new : SeatFacts). Changes (answer old.about.limit) (deed seat.number) seat new mark result) (sym now)
      (subst (λ (s : SeatFacts). Changes (answer old.about.limit) (deed s.number) s (seat_of place (at_turn (with_lists turn b1.book.deeds b1.faults) false 0 false)) mark result) (sym was) body))

-- ---- what the seat has seen holds at its turn

seen_first : (seat : SeatFacts) (place : TableId) (views : List SeatView) (old turn : SeatView) (b : OpenBookFacts) → seat ≡ seat_facts place views → views ≡ old ∷ [] → Took old turn b → IsPrefix seat.seen b.book.deeds
seen_first seat place views old turn b seat_is one took =
    let was : seat.seen ≡ old.seen = ap (λ (s : SeatFacts). s.seen) (seat_is ∙ ap (seat_facts place) one) in
    subst (λ (ds : List Deed). IsPrefix ds b.book.deeds) (sym was) (subst (IsPrefix old.seen) (sym took.lists.deeds) took.seen)

the_text : (o : Option (List ℕ)) → IsSome o → (text : List ℕ) × (o ≡ Some text)
the_text (Some text) is = (text, refl)
the_text None is = absurd (true≢false (sym is))

pub stands_at_turn : (seat : SeatFacts) (place : TableId) (views : List SeatView) (old turn : SeatView) (b : OpenBookFacts) (log : ReadLogFacts) → seat ≡ seat_facts place views → views ≡ old ∷ [] → Took old turn b
    → IsSome (design_text seat.seen log.design) → StandsIn seat.seen log → StandsIn b.book.deeds log
stands_at_turn seat place views old turn b log seat_is one took there stands =
    let text = the_text (design_text seat.seen log.design) there in
    stands_after seat.seen b.book.deeds log text.0 (seen_first seat place views old turn b seat_is one took) text.1 stands

pub view_at_turn : (seat : SeatFacts) (place : TableId) (views : List SeatView) (old turn : SeatView) (b : OpenBookFacts) (v : ViewFacts) → seat ≡ seat_facts place views → views ≡ old ∷ [] → Took old turn b
    → IsViewIn seat.seen v → IsViewIn b.book.deeds v
view_at_turn seat place views old turn b v seat_is one took view = view_after seat.seen b.book.deeds v (seen_first seat place views old turn b seat_is one took) view

-- ---- after a look

-- what the seat has seen is the book that was looked into
pub seen_after : (place : TableId) (views : List SeatView) (turn : SeatView) (b : OpenBookFacts) (book : BookFacts) → book ≡ b.book → views ≡ at_turn (with_lists turn b.book.deeds b.faults) false 0 false ∷ [] → book.deeds ≡ (seat_facts place views).seen
seen_after place views turn b book same one = ap (λ (k : BookFacts). k.deeds) same ∙ ap (λ (vs : List SeatView). (seat_facts place vs).seen) (sym one)

-- ---- a seat at rest again

after_longer : (result : Result Put PutFault) (deeds : List Deed) (deed : Deed) → length deeds ≤ length (after result deeds deed)
after_longer (Ok (Created number)) deeds deed = let e = length-append deeds (deed ∷ []) in omega arith
after_longer (Ok (Same number)) deeds deed = omega arith
after_longer (Err fault) deeds deed = omega arith

-- it has seen the deeds of its turn, and no deed was lost since
sits_again : (number kept mark : ℕ) (views views' : List SeatView) (old : SeatView) (me : Me Slot SeatView) (b0 b1 : OpenBookFacts) → IsDeskSeat number kept views → views ≡ old ∷ [] → HasTurn me → Took old me.0 b0
    → length b0.book.deeds ≤ length b1.book.deeds → b1.book.limit ≡ b0.book.limit → IsBook b1.book → mark ≡ length b1.book.deeds
    → views' ≡ at_turn (with_lists me.0 b1.book.deeds b1.faults) false 0 false ∷ [] → IsDeskSeat number mark views'
sits_again number kept mark views views' old me b0 b1 sits one turn took longer limit book marked now =
    let v = me.0 in
    let was = sits_of number kept views old sits one in
    let about = took.about in
    let base : old.about.base ≤ length b1.book.deeds = (let e = took.base in let f : length b0.book.deeds ≡ length v.seen = ap length took.lists.deeds in omega arith) in
    let limit_is : b1.book.limit ≡ v.about.limit = limit ∙ (took.lists.limit ∙ sym (ap (λ (a : DeskTerms). a.limit) about)) in (
      at_turn (with_lists v b1.book.deeds b1.faults) false 0 false,
      now,
      record {
        resting = record { spent = turn.spent; waits = refl; holds = refl };
        own = record { mine = refl; failed = refl };
        base = subst (λ (a : DeskTerms). a.base ≤ length b1.book.deeds) (sym about) base;
        legal = subst (λ (k : ℕ). is_legal k b1.book.deeds ≡ true) limit_is book.legal;
        number = took.number ∙ was.number;
        given = λ first. took.given ∙ (was.given (sym took.number ∙ first) ∙ ap (λ (a : DeskTerms). a.seats) (sym about));
        joined = took.joined ∙ was.joined;
      },
      marked,
    )

-- after a change
pub sits_changed : (answer : Result Put PutFault) (deed : Deed) (result : Result Put PutFault) (number kept mark : ℕ) (views views' : List SeatView) (old : SeatView) (me : Me Slot SeatView) (b0 b1 : OpenBookFacts) → IsDeskSeat number kept views → views ≡ old ∷ []
    → HasTurn me → Took old me.0 b0 → Changed answer deed result b0.book b1.book → IsBook b1.book → mark ≡ length b1.book.deeds
    → views' ≡ at_turn (with_lists me.0 b1.book.deeds b1.faults) false 0 false ∷ [] → IsDeskSeat number mark views'
sits_changed answer deed result number kept mark views views' old me b0 b1 sits one turn took changed book marked now =
    let longer : length b0.book.deeds ≤ length b1.book.deeds = subst (λ (ds : List Deed). length b0.book.deeds ≤ length ds) (sym changed.deeds) (after_longer result b0.book.deeds deed) in
    sits_again number kept mark views views' old me b0 b1 sits one turn took longer changed.limit book marked now

-- after a look
pub sits_looked : (number kept mark : ℕ) (views views' : List SeatView) (old : SeatView) (me : Me Slot SeatView) (b : OpenBookFacts) → IsDeskSeat number kept views → views ≡ old ∷ [] → HasTurn me → Took old me.0 b
    → IsBook b.book → mark ≡ length b.book.deeds → views' ≡ at_turn (with_lists me.0 b.book.deeds b.faults) false 0 false ∷ [] → IsDeskSeat number mark views'
sits_looked number kept mark views views' old me b sits one turn took book marked now = sits_again number kept mark views views' old me b b sits one turn took (omega arith) refl book marked now
