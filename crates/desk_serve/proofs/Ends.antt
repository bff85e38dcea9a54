-- What the sessions over a street come to, with the book at the end.
use Rattle.std.proofs.Common.{◌≡◌, ◌≤◌, ◌<◌, ◌+◌, ◌-◌, ◌^◌, ℕ, Bool, true, false, List, length, map, drop, Option, Some, refl, sym, ap, subst, ◌∙◌, inl, inr}
use Rattle.std.proofs.lemmas.List.{length-map}
use Rattle.std.specs.Prelude.{All, ◌⊎◌, min, sum_by, slice_get}
use Rattle.std.specs.List.{list_any}
use Rattle.desk_outside.specs.declared.deed.Deed.{Deed}
use Rattle.desk_outside.specs.declared.street.DoorHome.{DoorHome}
use Rattle.desk_outside.specs.Streets.{StreetTold}
use Rattle.book.specs.Changes.{BookFacts, IsBook}
use Rattle.shared_desk.specs.Seats.{DeskFacts, SeatFacts, failed}
use Rattle.shared_desk.specs.StartAndEnd.{AreAllSeats, IsFinished}
use Rattle.std.proofs.Math.Seq.{drop-length}
use Rattle.std.proofs.lemmas.List.Elements.{All-nil}
use Rattle.book.specs.LegalDeeds.{is_legal}
use Rattle.desk_answers.specs.Seats.{IsPrefix}
use Rattle.desk_answers.proofs.SeatSteps.{prefix_same}
use Rattle.run_ends.specs.declared.ending.Ending.{Ending}
use Rattle.desk_serve.specs.Doors.{DoorFacts, IsFreshDoor, Tells, has_failed, home_of, with_doors_out, with_doors_home}
use Rattle.desk_serve.specs.Work.{Work, AllWorked, any_failed, any_unserved, instead_of}
use Rattle.desk_serve.specs.StreetEnd.{AreFresh, StreetServed, IsOpened, opened_deeds, OverBook, IsOver}
use Rattle.desk_serve.specs.Runs.{RunOrder, AreHome, HasAll, HasAllUnlessFailed, HasNone, max_deeds}
use Rattle.desk_serve.proofs.HomeServed.{lacked}
use Rattle.desk_serve.proofs.Homes.{home_served, home_unserved, all_done, all_unless_failed, some_failed, none_lacked, some_lacked}
use Rattle.desk_serve.proofs.Seats.{still_all, tells_after, based, legal_after, same_deeds, prefix_after}

-- all seats are there at the end
pub all_seats : (asked : RunOrder) (tells street_rose sink_rose : Type 0) (desk : DeskFacts) (seats after : List SeatFacts) (old new : Option (List ℕ)) (doors : List DoorFacts) (instead : Option Ending) → AreAllSeats desk seats
    → StreetServed asked tells street_rose sink_rose desk seats old new after doors instead → AreAllSeats desk after
all_seats asked tells street_rose sink_rose desk seats after old new doors instead all (inl lacks) = subst (AreAllSeats desk) (sym lacks.same) all
all_seats asked tells street_rose sink_rose desk seats after old new doors instead all (inr (inl lacks)) = subst (AreAllSeats desk) (sym lacks.same) all
all_seats asked tells street_rose sink_rose desk seats after old new doors instead all (inr (inr ok)) =
    still_all desk asked.sessions ok.served.works seats after all ok.served.worked ok.served.seats_were ok.served.seats_are

-- the doors tell where the street does
pub all_tell : (asked : RunOrder) (tells street_rose sink_rose : Type 0) (desk : DeskFacts) (seats after : List SeatFacts) (old new : Option (List ℕ)) (doors : List DoorFacts) (instead : Option Ending) → StreetServed asked tells street_rose sink_rose desk seats old new after doors instead
    → tells → All Tells doors
all_tell asked tells street_rose sink_rose desk seats after old new doors instead (inl lacks) told = lacks.fresh.telling told
all_tell asked tells street_rose sink_rose desk seats after old new doors instead (inr (inl lacks)) told = lacks.fresh.telling told
all_tell asked tells street_rose sink_rose desk seats after old new doors instead (inr (inr ok)) told =
    subst (All Tells) ok.served.doors_are (tells_after desk asked.sessions ok.served.works ok.served.worked (subst (All Tells) (sym ok.served.doors_were) (ok.fresh.telling told)))

-- ---- a street at which nothing was served

module _ (asked : RunOrder) (street_before street_after : Option StreetTold) (desk : DeskFacts) (seats : List SeatFacts) (book : BookFacts) (some : 0 < asked.workers) (opened : IsOpened asked.workers desk seats) (is_book : IsBook book) where
  -- so many doors came home as they were
  pub rest_over : (tells : Type 0) (doors : List DoorFacts) (n : ℕ) → ((told : StreetTold) → street_before ≡ Some told → tells) → AreFresh tells doors → length doors ≡ n
      → ((told : StreetTold) → street_before ≡ Some told → street_after ≡ Some (with_doors_home (with_doors_out told asked.port (length doors)) doors)) → book.deeds ≡ opened_deeds seats → OverBook asked street_before street_after n 0 HasNone (opened_deeds seats) book
  rest_over tells doors n tell fresh many now same = record {
    grown = record {
      prefix = subst (λ ds. IsPrefix (opened_deeds seats) ds) (sym same) (prefix_same (opened_deeds seats));
      legal_before = opened.legal;
      legal_after = subst (λ ds. is_legal max_deeds ds ≡ true) (sym same) opened.legal;
      by_seats = subst (λ ds. All (λ (d : Deed). d.by < n) (drop (length (opened_deeds seats)) ds)) (sym same) (subst (All (λ (d : Deed). d.by < n)) (sym (drop-length (opened_deeds seats))) (All-nil (λ (d : Deed). d.by < n)));
    };
    street = λ told is. subst (λ ds. AreHome asked told street_after n 0 HasNone (opened_deeds seats) ds book.faults) (sym same)
        (home_unserved asked told street_after (opened_deeds seats) book.faults n doors fresh.fresh (fresh.telling (tell told is)) (now told is) many);
  }

  -- all doors came home after they were served
  pub served_over : (tells : Type 0) (links : DoorHome → Type 0) (after : List SeatFacts) (doors doors_after : List DoorFacts) (ws : List Work) → ((told : StreetTold) → street_before ≡ Some told → tells) → AreFresh tells doors → length doors ≡ asked.workers
      → ((told : StreetTold) → street_before ≡ Some told → street_after ≡ Some (with_doors_home (with_doors_out told asked.port (length doors_after)) doors_after))
      → map (λ (w : Work). w.seat_before) ws ≡ seats → map (λ (w : Work). w.seat) ws ≡ after → map (λ (w : Work). w.door_before) ws ≡ doors → map (λ (w : Work). w.door) ws ≡ doors_after → AllWorked desk asked.sessions ws
      → (All IsFreshDoor (map (λ (w : Work). w.door_before) ws) → All Tells (map (λ (w : Work). w.door_before) ws) → All links (map home_of (map (λ (w : Work). w.door) ws)))
      → IsFinished desk after book → OverBook asked street_before street_after asked.workers (lacked ws) links (opened_deeds seats) book
  served_over tells links after doors doors_after ws tell fresh many now seats_were seats_are doors_were doors_are worked all finished =
      let fresh_doors = subst (All IsFreshDoor) (sym doors_were) fresh.fresh in
      let as_many : length (map (λ (w : Work). w.door) ws) ≡ asked.workers = length-map ws (λ (w : Work). w.door) ∙ sym (length-map ws (λ (w : Work). w.door_before)) ∙ ap length doors_were ∙ many in
      record {
        grown = record {
          prefix = prefix_after asked.workers desk asked.sessions seats after ws book some opened worked seats_were seats_are finished;
          legal_before = opened.legal;
          legal_after = legal_after asked.workers desk seats book opened after finished is_book;
          by_seats = based asked.workers desk seats book opened after finished;
        };
        street = λ told is.
            let telling = subst (All Tells) (sym doors_were) (fresh.telling (tell told is)) in
            home_served desk asked told street_after (opened_deeds seats) book.deeds desk.opened book.faults links ws opened.limited opened.base
            (λ k seat at. opened.each k seat (subst (λ l. slice_get l k ≡ Some seat) seats_were at)) fresh_doors telling worked
            (λ k seat at. finished.each k seat (subst (λ l. slice_get l k ≡ Some seat) seats_are at))
            (subst (λ l. street_after ≡ Some (with_doors_home (with_doors_out told asked.port (length l)) l)) (sym doors_are) (now told is)) as_many (all fresh_doors telling)
            (subst (λ l. min (desk.opened + sum_by failed l) (2 ^ 64 - 1) ≤ book.faults) (sym seats_are) finished.counted);
      }

-- ---- the whole

bool_cases : (b : Bool) → (b ≡ true) ⊎ (b ≡ false)
bool_cases true = inl refl
bool_cases false = inr refl

pub over : (asked : RunOrder) (untouched tells rose_before rose sink_rose : Type 0) (street_before street_after : Option StreetTold) (old new : Option (List ℕ)) (desk : DeskFacts) (seats after : List SeatFacts) (doors : List DoorFacts) (instead : Option Ending) (book : BookFacts)
    → 0 < asked.workers → IsOpened asked.workers desk seats → IsBook book → ((told : StreetTold) → street_before ≡ Some told → tells) → StreetServed asked tells rose_before sink_rose desk seats old new after doors instead → IsFinished desk after book
    → ((told : StreetTold) → street_before ≡ Some told → street_after ≡ Some (with_doors_home (with_doors_out told asked.port (length doors)) doors)) → (rose_before → rose) → (list_any has_failed doors ≡ true → rose)
    → IsOver asked untouched rose sink_rose street_before street_after old new (opened_deeds seats) instead book
over asked untouched tells rose_before rose sink_rose street_before street_after old new desk seats after doors instead book some opened is_book tell (inl lacks) finished now on any =
    let same = same_deeds asked.workers desk seats book some opened (subst (λ l. IsFinished desk l book) lacks.same finished) in
    subst (λ i. IsOver asked untouched rose sink_rose street_before street_after old new (opened_deeds seats) i book) (sym lacks.instead_is)
    (on lacks.cause, inl (length doors, lacks.few, same, rest_over asked street_before street_after desk seats book some opened is_book tells doors (length doors) tell lacks.fresh refl now same, lacks.unwritten))
over asked untouched tells rose_before rose sink_rose street_before street_after old new desk seats after doors instead book some opened is_book tell (inr (inl lacks)) finished now on any =
    let same = same_deeds asked.workers desk seats book some opened (subst (λ l. IsFinished desk l book) lacks.same finished) in
    subst (λ i. IsOver asked untouched rose sink_rose street_before street_after old new (opened_deeds seats) i book) (sym lacks.instead_is)
    (lacks.cause, same, rest_over asked street_before street_after desk seats book some opened is_book tells doors asked.workers tell lacks.fresh lacks.all now same, lacks.part)
over asked untouched tells rose_before rose sink_rose street_before street_after old new desk seats after doors instead book some opened is_book tell (inr (inr ok)) finished now on any =
    let s = ok.served in
    let fresh_doors = subst (All IsFreshDoor) (sym s.doors_were) ok.fresh.fresh in
    let with_links = λ (links : DoorHome → Type 0) (all : All IsFreshDoor (map (λ (w : Work). w.door_before) s.works) → All Tells (map (λ (w : Work). w.door_before) s.works) → All links (map home_of (map (λ (w : Work). w.door) s.works))).
    served_over asked street_before street_after desk seats book some opened is_book tells links after ok.doors doors s.works tell ok.fresh ok.all now s.seats_were s.seats_are s.doors_were s.doors_are s.worked all finished in
    elim (bool_cases (any_failed s.works)) [
      | inl bad ↦
          subst (λ i. IsOver asked untouched rose sink_rose street_before street_after old new (opened_deeds seats) i book) (sym (s.instead_is ∙ ap (λ b. instead_of b (any_unserved s.works)) bad)) (
            any (subst (λ l. list_any has_failed l ≡ true) s.doors_are (some_failed desk asked.sessions s.works fresh_doors s.worked bad)),
            inr (lacked s.works, with_links (HasAllUnlessFailed asked) (λ f t. all_unless_failed desk asked s.works f t s.worked), ok.wrote),
          )
      | inr good ↦ elim (bool_cases (any_unserved s.works)) [
        | inl lack ↦
            subst (λ i. IsOver asked untouched rose sink_rose street_before street_after old new (opened_deeds seats) i book) (sym (s.instead_is ∙ ap (λ b. instead_of b (any_unserved s.works)) good ∙ ap (λ b. instead_of false b) lack))
            (inr (lacked s.works, some_lacked s.works lack, with_links (HasAll asked) (λ f t. all_done desk asked s.works f t s.worked good), ok.wrote))
        | inr full ↦
            subst (λ i. IsOver asked untouched rose sink_rose street_before street_after old new (opened_deeds seats) i book) (sym (s.instead_is ∙ ap (λ b. instead_of b (any_unserved s.works)) good ∙ ap (λ b. instead_of false b) full)) (
              subst (λ n. OverBook asked street_before street_after asked.workers n (HasAll asked) (opened_deeds seats) book) (none_lacked s.works full) (with_links (HasAll asked) (λ f t. all_done desk asked s.works f t s.worked good)),
              ok.wrote,
            )
      ]
    ]
