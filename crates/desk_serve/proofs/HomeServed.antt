-- The doors that came home were served, from what each worker did.
use Rattle.std.proofs.Common.{◌≡◌, ◌≤◌, ◌+◌, ◌==◌, ℕ, suc, List, [], ◌∷◌, length, map, Option, Some, refl, sym, ap, subst, ◌∙◌, arith}
use Rattle.std.specs.Prelude.{All, slice_get, sum_by}
use Rattle.std.proofs.lemmas.List.Elements.{All-head, All-tail}
use Rattle.std.proofs.lemmas.List.Sums.{sum_by-cons, length-filter}
use Rattle.desk_outside.specs.declared.deed.Deed.{Deed}
use Rattle.desk_outside.specs.declared.door.LinkHome.{LinkHome}
use Rattle.desk_outside.specs.Doors.{DoorTold, fresh_door}
use Rattle.shared_desk.specs.Entries.{mine_of}
use Rattle.shared_desk.specs.Seats.{DeskFacts, SeatFacts as DeskSeatFacts, failed}
use Rattle.shared_desk.specs.StartAndEnd.{fresh_seat, HasOwn}
use Rattle.desk_answers.specs.Seats.{SeatFacts, Did}
use Rattle.desk_answers.specs.DeskSeats.{of_desk}
use Rattle.desk_http.specs.ServedConnections.{AreServed, Serves}
use Rattle.desk_answers.proofs.SeatSteps.{did_nothing, did_on}
use Rattle.desk_serve.specs.HomeDoors.{replied_deeds, replied_faults, IsServedBy, AreServedBy}
use Rattle.desk_serve.specs.Doors.{IsFreshDoor, Tells, has_failed, told_or_fresh, home_of}
use Rattle.desk_serve.specs.Work.{Work, HasWorked, AllWorked}
use Rattle.desk_serve.specs.Runs.{max_deeds}

-- ---- a door

-- what a seat did over the connections of a door
pub did_over : (old : SeatFacts) (given : List (List ℕ)) (done : List LinkHome) (unserved : ℕ) (new : SeatFacts) (are : AreServed old given done unserved new)
    → Did (replied_deeds old given done unserved new are) (replied_faults old given done unserved new are) old new
did_over old [] [] unserved new (same, none) = subst (λ s. Did [] 0 old s) (sym same) (did_nothing old)
did_over old (left ∷ lefts) (home ∷ homes) unserved new (mid, end, others, served, count, rest) =
    did_on _ _ _ _ old mid new served.session.did (did_over mid lefts homes others new rest)
did_over old [] (home ∷ homes) unserved new are = absurd are
did_over old (left ∷ lefts) [] unserved new are = absurd are

pub as_many_home : (old : SeatFacts) (given : List (List ℕ)) (done : List LinkHome) (unserved : ℕ) (new : SeatFacts) → AreServed old given done unserved new → length done ≡ length given
as_many_home old [] [] unserved new are = refl
as_many_home old (left ∷ lefts) (home ∷ homes) unserved new (mid, end, others, served, count, rest) = omega (arith, as_many_home mid lefts homes others new rest)
as_many_home old [] (home ∷ homes) unserved new are = absurd are
as_many_home old (left ∷ lefts) [] unserved new are = absurd are

-- a door that was just handed out was served
pub serves_fresh : (desk : DeskFacts) (sessions : ℕ) (w : Work) → IsFreshDoor w.door_before → Tells w.door_before → HasWorked desk sessions w → Serves fresh_door w.door.told (of_desk w.seat_before) (of_desk w.seat) w.served.ended w.served.unserved
serves_fresh desk sessions w fresh (told, tells) worked =
    subst (λ (t : DoorTold). Serves t w.door.told (of_desk w.seat_before) (of_desk w.seat) w.served.ended w.served.unserved) (fresh.unused told tells) (worked.serves told tells)

door_served : (desk : DeskFacts) (sessions i : ℕ) (before after : List Deed) (w : Work) → desk.limit ≡ max_deeds → desk.base ≡ length before → w.seat_before ≡ fresh_seat desk before i → IsFreshDoor w.door_before → Tells w.door_before
    → HasWorked desk sessions w → HasOwn after w.seat → (faults : ℕ) × IsServedBy max_deeds i before after (home_of w.door) faults w.served.unserved × (faults ≤ failed w.seat)
door_served desk sessions i before after w limited base is fresh tells worked own =
    let serves = serves_fresh desk sessions w fresh tells worked in
    let old = of_desk w.seat_before in
    let new = of_desk w.seat in
    let did = did_over old serves.given serves.done w.served.unserved new serves.are in
    let deeds = replied_deeds old serves.given serves.done w.served.unserved new serves.are in
    let faults = replied_faults old serves.given serves.done w.served.unserved new serves.are in
    let numbered : w.seat_before.number ≡ i = ap (λ (s : DeskSeatFacts). s.number) is in
    let first : w.seat_before.seen ≡ before = ap (λ (s : DeskSeatFacts). s.seen) is in
    let number : w.seat.number ≡ i = did.number ∙ numbered in
    let based : w.seat.desk.base ≡ length before = ap (λ (d : DeskFacts). d.base) worked.stays ∙ base in
    let own_at : mine_of (length before) i after ≡ mine_of (length before) i w.seat.seen =
    subst (λ n. mine_of (length before) n after ≡ mine_of (length before) n w.seat.seen) number
    (subst (λ b. mine_of b w.seat.number after ≡ mine_of b w.seat.number w.seat.seen) based own.own) in
    let gained : mine_of (length before) i w.seat.seen ≡ deeds =
    subst (λ n. mine_of (length before) n w.seat.seen ≡ deeds) numbered
    (subst (λ (b : List Deed). mine_of (length b) w.seat_before.number w.seat.seen ≡ deeds) first did.gained) in
    let at : Option DoorTold → Type 0 = λ t. IsServedBy max_deeds i before after (record { given = (told_or_fresh t).given; done = (told_or_fresh t).done; failed = has_failed w.door }) faults w.served.unserved in
    let noted : failed w.seat ≡ _ = length-filter (λ k. k == w.seat.number) w.seat.faults in (
      faults,
      subst at (sym serves.told_is) record {
        old = old;
        new = new;
        limited = ap (λ (s : DeskSeatFacts). s.desk.limit) is ∙ limited;
        numbered = numbered;
        first = first;
        last = (own.seen.0, sym own.seen.1);
        are = serves.are;
        deeds = own_at ∙ gained;
        faults_are = refl;
      },
      subst (λ n. faults ≤ failed (record { desk = w.seat.desk; number = n; seen = w.seat.seen; faults = w.seat.faults })) (sym did.number)
          (let grew = did.faults.told in omega (arith, grew, length-filter (λ k. k == w.seat_before.number) w.seat.faults)),
    )

-- ---- all doors

-- how many sessions had no memory to begin with
abbrev pub lacked : List Work → ℕ
lacked [] = 0
lacked (w ∷ ws) = w.served.unserved + lacked ws

pub doors_served : (desk : DeskFacts) (sessions i : ℕ) (before after : List Deed) (ws : List Work) → desk.limit ≡ max_deeds → desk.base ≡ length before
    → ((k : ℕ) (seat : DeskSeatFacts) → slice_get (map (λ (w : Work). w.seat_before) ws) k ≡ Some seat → seat ≡ fresh_seat desk before (i + k)) → All IsFreshDoor (map (λ (w : Work). w.door_before) ws) → All Tells (map (λ (w : Work). w.door_before) ws)
    → AllWorked desk sessions ws → ((k : ℕ) (seat : DeskSeatFacts) → slice_get (map (λ (w : Work). w.seat) ws) k ≡ Some seat → HasOwn after seat)
    → (faults : ℕ) × AreServedBy max_deeds i before after (map home_of (map (λ (w : Work). w.door) ws)) faults (lacked ws) × (faults ≤ sum_by failed (map (λ (w : Work). w.seat) ws))
doors_served desk sessions i before after [] limited base each fresh tell worked own = (0, (refl, refl), omega arith)
doors_served desk sessions i before after (w ∷ ws) limited base each fresh tell (worked, rest) own =
    let none : i + 0 ≡ i = omega arith in
    let is : w.seat_before ≡ fresh_seat desk before i = each 0 w.seat_before refl ∙ ap (λ n. fresh_seat desk before n) none in
    let one = door_served desk sessions i before after w limited base is (All-head IsFreshDoor _ _ fresh) (All-head Tells _ _ tell) worked (own 0 w.seat refl) in
    let next : (k : ℕ) → i + suc k ≡ (i + 1) + k = λ k. omega arith in
    let others = doors_served desk sessions (i + 1) before after ws limited base (λ k seat at. each (suc k) seat at ∙ ap (λ n. fresh_seat desk before n) (next k)) (All-tail IsFreshDoor _ _ fresh) (All-tail Tells _ _ tell) rest (λ k seat at. own (suc k) seat at) in (
      one.0 + others.0,
      (one.0, others.0, w.served.unserved, lacked ws, one.1, refl, refl, others.1),
      omega (arith, one.2, others.2, sum_by-cons failed w.seat (map (λ (x : Work). x.seat) ws)),
    )
