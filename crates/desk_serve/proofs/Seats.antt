-- The seats when the sessions are over.
use Rattle.std.proofs.Common.{◌≡◌, ◌<◌, ℕ, zero, suc, true, List, [], ◌∷◌, length, map, drop, Option, Some, refl, sym, ap, subst, ◌∙◌, arith}
use Rattle.std.proofs.lemmas.List.{length-map}
use Rattle.std.specs.Prelude.{All, None, option_map, slice_get}
use Rattle.std.proofs.lemmas.List.Elements.{All-head, All-tail, All-cons, All-nil}
use Rattle.desk_outside.specs.declared.deed.Deed.{Deed}
use Rattle.book.specs.LegalDeeds.{is_legal}
use Rattle.book.specs.Changes.{BookFacts, IsBook}
use Rattle.shared_desk.specs.Seats.{DeskFacts, SeatFacts}
use Rattle.shared_desk.specs.StartAndEnd.{AreAllSeats, fresh_seat, HasOwn, IsFinished, IsStarted}
use Rattle.desk_answers.specs.Seats.{IsPrefix}
use Rattle.desk_answers.proofs.SeatSteps.{prefix_on}
use Rattle.desk_serve.specs.Doors.{DoorFacts, Tells}
use Rattle.run_ends.specs.declared.ending.Ending.{Ending}
use Rattle.desk_serve.specs.Work.{Work, AllWorked, HasServed}
use Rattle.desk_serve.specs.StreetEnd.{IsOpened, opened_deeds}
use Rattle.desk_serve.specs.Runs.{max_deeds}
use Rattle.desk_serve.proofs.NothingNew.{nothing_new}

-- ---- all seats

some_is : (a b : SeatFacts) → Some a ≡ Some b → a ≡ b
some_is a b e = cc

numbered_after : (desk : DeskFacts) (sessions : ℕ) (ws : List Work) (number : ℕ → ℕ) → AllWorked desk sessions ws → ((k : ℕ) (s : SeatFacts) → slice_get (map (λ (w : Work). w.seat_before) ws) k ≡ Some s → s.number ≡ number k)
    → (k : ℕ) (s : SeatFacts) → slice_get (map (λ (w : Work). w.seat) ws) k ≡ Some s → s.number ≡ number k
numbered_after desk sessions [] number worked was zero s at = absurd (cc)
numbered_after desk sessions [] number worked was (suc k) s at = absurd (cc)
numbered_after desk sessions (w ∷ ws) number (worked, rest) was zero s at =
    ap (λ (x : SeatFacts). x.number) (sym (some_is w.seat s at)) ∙ worked.did.2.number ∙ was 0 w.seat_before refl
numbered_after desk sessions (w ∷ ws) number (worked, rest) was (suc k) s at = numbered_after desk sessions ws (λ n. number (suc n)) rest (λ n x e. was (suc n) x e) k s at

of_desk_after : (desk : DeskFacts) (sessions : ℕ) (ws : List Work) → AllWorked desk sessions ws → (k : ℕ) (s : SeatFacts) → slice_get (map (λ (w : Work). w.seat) ws) k ≡ Some s → s.desk ≡ desk
of_desk_after desk sessions [] worked zero s at = absurd (cc)
of_desk_after desk sessions [] worked (suc k) s at = absurd (cc)
of_desk_after desk sessions (w ∷ ws) (worked, rest) zero s at = ap (λ (x : SeatFacts). x.desk) (sym (some_is w.seat s at)) ∙ worked.stays
of_desk_after desk sessions (w ∷ ws) (worked, rest) (suc k) s at = of_desk_after desk sessions ws rest k s at

-- the seats of workers are still all seats of the desk
pub still_all : (desk : DeskFacts) (sessions : ℕ) (ws : List Work) (before after : List SeatFacts) → AreAllSeats desk before → AllWorked desk sessions ws → map (λ (w : Work). w.seat_before) ws ≡ before → map (λ (w : Work). w.seat) ws ≡ after → AreAllSeats desk after
still_all desk sessions ws before after all worked were are =
    let count : length after ≡ length before = ap length (sym are) ∙ length-map ws (λ (w : Work). w.seat) ∙ sym (length-map ws (λ (w : Work). w.seat_before)) ∙ ap length were in
    record {
      count = count ∙ all.count;
      of_desk = λ i seat at. of_desk_after desk sessions ws worked i seat (subst (λ l. slice_get l i ≡ Some seat) (sym are) at);
      numbered = λ i seat at.
          numbered_after desk sessions ws (λ n. n) worked (λ k s e. all.numbered k s (subst (λ l. slice_get l k ≡ Some s) were e)) i seat (subst (λ l. slice_get l i ≡ Some seat) (sym are) at);
    }

-- a door that told tells
pub tells_after : (desk : DeskFacts) (sessions : ℕ) (ws : List Work) → AllWorked desk sessions ws → All Tells (map (λ (w : Work). w.door_before) ws) → All Tells (map (λ (w : Work). w.door) ws)
tells_after desk sessions [] worked tell = All-nil Tells
tells_after desk sessions (w ∷ ws) (worked, rest) tell =
    let first = All-head Tells _ _ tell in
    let serves = worked.serves first.0 first.1 in
    All-cons Tells w.door (map (λ (x : Work). x.door) ws) (_, serves.told_is) (tells_after desk sessions ws rest (All-tail Tells _ _ tell))

all_by_place : {X : Type 0} (P : X → Type 0) (xs : List X) → ((i : ℕ) (x : X) → slice_get xs i ≡ Some x → P x) → All P xs
all_by_place P [] each = All-nil P
all_by_place P (x ∷ xs) each = All-cons P x xs (each 0 x refl) (all_by_place P xs (λ i y e. each (suc i) y e))

pub seats_of_desk : (desk : DeskFacts) (seats : List SeatFacts) → AreAllSeats desk seats → All (λ (s : SeatFacts). s.desk ≡ desk) seats
seats_of_desk desk seats all = all_by_place (λ (s : SeatFacts). s.desk ≡ desk) seats all.of_desk

-- as many doors are there as before
pub as_many_doors : (desk : DeskFacts) (sessions : ℕ) (seats : List SeatFacts) (doors : List DoorFacts) (seats_after : List SeatFacts) (doors_after : List DoorFacts) (instead : Option Ending) → HasServed desk sessions seats doors seats_after doors_after instead → length doors_after ≡ length doors
as_many_doors desk sessions seats doors seats_after doors_after instead s =
    ap length (sym s.doors_are) ∙ length-map s.works (λ (w : Work). w.door) ∙ sym (length-map s.works (λ (w : Work). w.door_before)) ∙ ap length s.doors_were

-- ---- the deeds

get_there : {X : Type 0} (xs : List X) (i : ℕ) → i < length xs → (x : X) × (slice_get xs i ≡ Some x)
get_there [] i h = absurd (omega (arith, h))
get_there (x ∷ xs) zero h = (x, refl)
get_there (x ∷ xs) (suc i) h = get_there xs i (omega (arith, h))

-- the seat at a place of the opening
pub opened_at : (workers : ℕ) (desk : DeskFacts) (seats : List SeatFacts) → IsOpened workers desk seats → (i : ℕ) → i < workers → slice_get seats i ≡ Some (fresh_seat desk (opened_deeds seats) i)
opened_at workers desk seats opened i some =
    let within : i < length seats = omega (arith, some, opened.count, opened.all.count) in
    let there = get_there seats i within in
    there.1 ∙ ap Some (opened.each i there.0 there.1)

pub based : (workers : ℕ) (desk : DeskFacts) (seats : List SeatFacts) (book : BookFacts) → IsOpened workers desk seats → (list : List SeatFacts) → IsFinished desk list book
    → All (λ (d : Deed). d.by < workers) (drop (length (opened_deeds seats)) book.deeds)
based workers desk seats book opened list finished =
    subst (λ n. All (λ (d : Deed). d.by < n) (drop (length (opened_deeds seats)) book.deeds)) opened.count
    (subst (λ n. All (λ (d : Deed). d.by < desk.seats) (drop n book.deeds)) opened.base finished.by_seats)

pub legal_after : (workers : ℕ) (desk : DeskFacts) (seats : List SeatFacts) (book : BookFacts) → IsOpened workers desk seats → (list : List SeatFacts) → IsFinished desk list book → IsBook book → is_legal max_deeds book.deeds ≡ true
legal_after workers desk seats book opened list finished is = subst (λ n. is_legal n book.deeds ≡ true) (finished.limit ∙ opened.limited) is.legal

-- where the seats stand as at the opening, the book has the deeds of the opening
pub same_deeds : (workers : ℕ) (desk : DeskFacts) (seats : List SeatFacts) (book : BookFacts) → 0 < workers → IsOpened workers desk seats → IsFinished desk seats book → book.deeds ≡ opened_deeds seats
same_deeds workers desk seats book some opened finished =
    let own = λ (i : ℕ) (h : i < workers). finished.each i (fresh_seat desk (opened_deeds seats) i) (opened_at workers desk seats opened i h) in
    let first = (own 0 some).seen in
    nothing_new desk (opened_deeds seats) book.deeds workers opened.base (first.0, sym first.1) (based workers desk seats book opened seats finished) own

first_prefix : (desk : DeskFacts) (sessions : ℕ) (ws : List Work) (before after : List Deed) → 0 < length ws → AllWorked desk sessions ws → ((s : SeatFacts) → slice_get (map (λ (w : Work). w.seat_before) ws) 0 ≡ Some s → s.seen ≡ before)
    → ((s : SeatFacts) → slice_get (map (λ (w : Work). w.seat) ws) 0 ≡ Some s → HasOwn after s) → IsPrefix before after
first_prefix desk sessions [] before after some worked first own = absurd (omega (arith, some))
first_prefix desk sessions (w ∷ ws) before after some (worked, rest) first own =
    let seen = (own w.seat refl).seen in
    prefix_on before w.seat.seen after (subst (λ b. IsPrefix b w.seat.seen) (first w.seat_before refl) worked.did.2.seen) (seen.0, sym seen.1)

-- the deeds of the opening lead those of the book at the end
pub prefix_after : (workers : ℕ) (desk : DeskFacts) (sessions : ℕ) (seats after : List SeatFacts) (ws : List Work) (book : BookFacts) → 0 < workers → IsOpened workers desk seats → AllWorked desk sessions ws → map (λ (w : Work). w.seat_before) ws ≡ seats → map (λ (w : Work). w.seat) ws ≡ after
    → IsFinished desk after book → IsPrefix (opened_deeds seats) book.deeds
prefix_after workers desk sessions seats after ws book some opened worked were are finished =
    let many : length ws ≡ length seats = sym (length-map ws (λ (w : Work). w.seat_before)) ∙ ap length were in
    first_prefix desk sessions ws (opened_deeds seats) book.deeds (omega (arith, many, opened.all.count, opened.count, some)) worked
    (λ s at. ap (λ (x : SeatFacts). x.seen) (opened.each 0 s (subst (λ l. slice_get l 0 ≡ Some s) were at)))
    (λ s at. finished.each 0 s (subst (λ l. slice_get l 0 ≡ Some s) are at))

-- the deeds of a book whose keeper tells its rows are these
told_deeds : (known : Option (List Deed)) (deeds rows : List Deed) → known ≡ option_map (λ (ds : List Deed). deeds) known → known ≡ Some rows → deeds ≡ rows
told_deeds None deeds rows are is = absurd (cc)
told_deeds (Some ds) deeds rows are is = cc

-- a desk that was started was opened
pub opened_of : (told : Option (List Deed)) (workers faults : ℕ) (desk : DeskFacts) (seats : List SeatFacts) → 0 < workers → IsStarted told max_deeds workers faults desk seats → (IsOpened workers desk seats) × ((rows : List Deed) → told ≡ Some rows → opened_deeds seats ≡ rows)
opened_of told workers faults desk [] some started = absurd (omega (arith, some, started.seats, started.all.count))
opened_of told workers faults desk (seat ∷ seats) some started =
    let legal : is_legal max_deeds started.book.deeds ≡ true = subst (λ n. is_legal n started.book.deeds ≡ true) started.within started.is_book.legal in
    let seen : seat.seen ≡ started.book.deeds = ap (λ (x : SeatFacts). x.seen) (started.each 0 seat refl) in (
      record {
        count = started.seats;
        limited = started.limit_is ∙ started.within;
        base = started.base ∙ ap length (sym seen);
        legal = subst (λ ds. is_legal max_deeds ds ≡ true) (sym seen) legal;
        all = started.all;
        each = λ i s at. started.each i s at ∙ ap (λ ds. fresh_seat desk ds i) (sym seen);
      },
      λ rows e. seen ∙ told_deeds started.book.rows started.book.deeds rows started.is_book.rows (started.rows ∙ e),
    )
