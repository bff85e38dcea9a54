-- The doors that a street tells to be home, and what they mean for its count.
use Rattle.std.proofs.Common.{◌≡◌, ◌≢◌, ◌≤◌, ◌<◌, ◌+◌, ◌-◌, ◌==◌, ℕ, zero, suc, Bool, true, false, List, [], ◌∷◌, ◌++◌, length, map, Option, Some, refl, sym, ap, subst, ◌∙◌, inl, inr, ne_eqb, lt-ltb, arith}
use Rattle.std.proofs.lemmas.List.{length-map}
use Rattle.std.specs.Prelude.{All, slice_get, nat_lt, ◌||◌, replicate, min, ◌^◌, filter, sum_by}
use Rattle.std.specs.List.{list_any}
use Rattle.std.proofs.lemmas.List.Elements.{All-head, All-tail, All-cons, All-nil}
use Rattle.std.proofs.Math.Seq.{drop-length}
use Rattle.desk_outside.specs.declared.deed.Deed.{Deed}
use Rattle.desk_outside.specs.declared.street.DoorHome.{DoorHome}
use Rattle.desk_outside.specs.Doors.{fresh_door}
use Rattle.desk_outside.specs.Streets.{StreetTold}
use Rattle.shared_desk.specs.Seats.{DeskFacts, SeatFacts as DeskSeatFacts, failed}
use Rattle.shared_desk.specs.StartAndEnd.{fresh_seat, HasOwn}
use Rattle.desk_answers.proofs.SeatSteps.{prefix_same}
use Rattle.desk_serve.specs.HomeDoors.{IsServedBy, AreServedBy}
use Rattle.desk_serve.specs.Doors.{DoorFacts, IsFreshDoor, Tells, has_failed, told_or_fresh, home_of, with_doors_out, with_doors_home}
use Rattle.desk_serve.specs.Work.{Work, HasWorked, AllWorked, any_failed, any_unserved}
use Rattle.desk_serve.specs.Runs.{RunOrder, AreHome, HasAll, HasAllUnlessFailed, HasNone, doors_home, max_deeds}
use Rattle.desk_serve.proofs.HomeServed.{lacked, serves_fresh, as_many_home, doors_served}
use Rattle.desk_serve.proofs.Lists.{or_some, or_right}

-- ---- what the street tells

-- doors of a port that were handed out came home
pub all_home : (told : StreetTold) (port : ℕ) (doors : List DoorFacts) → with_doors_home (with_doors_out told port (length doors)) doors ≡ doors_home told port (map home_of doors)
all_home told port doors =
    let many : length (map home_of doors) ≡ length doors = length-map doors home_of in
    let none : (told.out + length doors) - length doors ≡ told.out = omega arith in
    ap (λ n. record { ports = told.ports ++ replicate (length doors) port; home = told.home ++ map home_of doors; out = n }) none
    ∙ ap (λ n. record { ports = told.ports ++ replicate n port; home = told.home ++ map home_of doors; out = told.out }) (sym many)

-- ---- doors at which nothing was served

home_of_fresh : (d : DoorFacts) → IsFreshDoor d → Tells d → (home_of d).given ≡ [] × ((home_of d).done ≡ [])
home_of_fresh d fresh (told, tells) =
    let is : d.told ≡ Some fresh_door = tells ∙ ap Some (fresh.unused told tells) in
    (ap (λ t. (told_or_fresh t).given) is, ap (λ t. (told_or_fresh t).done) is)

pub none_done : (doors : List DoorFacts) → All IsFreshDoor doors → All Tells doors → All HasNone (map home_of doors)
none_done [] fresh tell = All-nil HasNone
none_done (d ∷ ds) fresh tell =
    All-cons HasNone (home_of d) (map home_of ds) (home_of_fresh d (All-head IsFreshDoor _ _ fresh) (All-head Tells _ _ tell)).1 (none_done ds (All-tail IsFreshDoor _ _ fresh) (All-tail Tells _ _ tell))

served_nothing : (i : ℕ) (deeds : List Deed) (given : List (List ℕ)) (done : List _) (failed : Bool) → given ≡ [] → done ≡ [] → IsServedBy max_deeds i deeds deeds (record { given = given; done = done; failed = failed }) 0 0
served_nothing i deeds given done failed no_given no_done =
    subst (λ g. IsServedBy max_deeds i deeds deeds (record { given = g; done = done; failed = failed }) 0 0) (sym no_given)
    (subst (λ d. IsServedBy max_deeds i deeds deeds (record { given = []; done = d; failed = failed }) 0 0) (sym no_done) record {
      old = record { seen = deeds; limit = max_deeds; number = i; faults = [] };
      new = record { seen = deeds; limit = max_deeds; number = i; faults = [] };
      limited = refl;
      numbered = refl;
      first = refl;
      last = prefix_same deeds;
      are = (refl, refl);
      deeds = ap (filter (λ (d : Deed). d.by == i)) (drop-length deeds);
      faults_are = refl;
    })

pub nothing_served : (i : ℕ) (deeds : List Deed) (doors : List DoorFacts) → All IsFreshDoor doors → All Tells doors → AreServedBy max_deeds i deeds deeds (map home_of doors) 0 0
nothing_served i deeds [] fresh tell = (refl, refl)
nothing_served i deeds (d ∷ ds) fresh tell =
    let none = home_of_fresh d (All-head IsFreshDoor _ _ fresh) (All-head Tells _ _ tell) in
    let first = served_nothing i deeds (home_of d).given (home_of d).done (home_of d).failed none.0 none.1 in
    (0, 0, 0, 0, first, refl, refl, nothing_served (i + 1) deeds ds (All-tail IsFreshDoor _ _ fresh) (All-tail Tells _ _ tell))

-- ---- how many connections were served

-- a door that didn't fail has served all
served_all : (desk : DeskFacts) (sessions : ℕ) (w : Work) → IsFreshDoor w.door_before → Tells w.door_before → HasWorked desk sessions w → w.served.door_failed ≢ true → length (home_of w.door).done ≡ sessions
served_all desk sessions w fresh tells worked good =
    let serves = serves_fresh desk sessions w fresh tells worked in
    let done : (home_of w.door).done ≡ serves.done = ap (λ t. (told_or_fresh t).done) serves.told_is in
    let ended : w.served.ended ≡ sessions = elim worked.ended [ inl failed ↦ absurd (good failed) | inr all ↦ all ] in
    ap length done ∙ as_many_home _ _ _ _ _ serves.are ∙ serves.many ∙ ended

fails : (desk : DeskFacts) (sessions : ℕ) (w : Work) → IsFreshDoor w.door_before → HasWorked desk sessions w → w.served.door_failed ≡ true → has_failed w.door ≡ true
fails desk sessions w fresh worked failed =
    let e : (w.door.faults == 0) ≡ false = ne_eqb _ _ (λ zero. omega (arith, zero, fresh.unfailed, worked.rose failed)) in rw e refl

pub all_unless_failed : (desk : DeskFacts) (asked : RunOrder) (ws : List Work) → All IsFreshDoor (map (λ (w : Work). w.door_before) ws) → All Tells (map (λ (w : Work). w.door_before) ws) → AllWorked desk asked.sessions ws
    → All (HasAllUnlessFailed asked) (map home_of (map (λ (w : Work). w.door) ws))
all_unless_failed desk asked [] fresh tell worked = All-nil (HasAllUnlessFailed asked)
all_unless_failed desk asked (w ∷ ws) fresh tell (worked, rest) =
    let first = All-head IsFreshDoor _ _ fresh in
    let unless : HasAllUnlessFailed asked (home_of w.door) = λ good. served_all desk asked.sessions w first (All-head Tells _ _ tell) worked (λ failed. let e = sym (fails desk asked.sessions w first worked failed) ∙ good in absurd (cc)) in
    All-cons (HasAllUnlessFailed asked) _ _ unless (all_unless_failed desk asked ws (All-tail IsFreshDoor _ _ fresh) (All-tail Tells _ _ tell) rest)

or_none : (a b : Bool) → (a || b) ≡ false → (a ≡ false) × (b ≡ false)
or_none true b e = absurd (cc)
or_none false b e = (refl, e)

pub all_done : (desk : DeskFacts) (asked : RunOrder) (ws : List Work) → All IsFreshDoor (map (λ (w : Work). w.door_before) ws) → All Tells (map (λ (w : Work). w.door_before) ws) → AllWorked desk asked.sessions ws → any_failed ws ≡ false
    → All (HasAll asked) (map home_of (map (λ (w : Work). w.door) ws))
all_done desk asked [] fresh tell worked good = All-nil (HasAll asked)
all_done desk asked (w ∷ ws) fresh tell (worked, rest) good =
    let both = or_none w.served.door_failed (any_failed ws) good in
    let all : HasAll asked (home_of w.door) = served_all desk asked.sessions w (All-head IsFreshDoor _ _ fresh) (All-head Tells _ _ tell) worked (λ failed. let e = sym failed ∙ both.0 in absurd (cc)) in
    All-cons (HasAll asked) _ _ all (all_done desk asked ws (All-tail IsFreshDoor _ _ fresh) (All-tail Tells _ _ tell) rest both.1)

-- ---- failures

pub some_failed : (desk : DeskFacts) (sessions : ℕ) (ws : List Work) → All IsFreshDoor (map (λ (w : Work). w.door_before) ws) → AllWorked desk sessions ws → any_failed ws ≡ true → list_any has_failed (map (λ (w : Work). w.door) ws) ≡ true
some_failed desk sessions [] fresh worked failed = absurd (cc)
some_failed desk sessions (w ∷ ws) fresh (worked, rest) failed =
    elim (or_some w.served.door_failed (any_failed ws) failed) [
      | inl this ↦ rw (fails desk sessions w (All-head IsFreshDoor _ _ fresh) worked this) refl
      | inr other ↦ or_right (has_failed w.door) _ (some_failed desk sessions ws (All-tail IsFreshDoor _ _ fresh) rest other)
    ]

-- ---- sessions without memory

not_above : (n : ℕ) → nat_lt 0 n ≡ false → n ≡ 0
not_above zero e = refl
not_above (suc n) e = let t : nat_lt 0 (suc n) ≡ true = lt-ltb 0 (suc n) (omega arith) in absurd (cc)

above : (n : ℕ) → nat_lt 0 n ≡ true → 0 < n
above zero e = absurd (cc)
above (suc n) e = omega arith

pub none_lacked : (ws : List Work) → any_unserved ws ≡ false → lacked ws ≡ 0
none_lacked [] e = refl
none_lacked (w ∷ ws) e =
    let both = or_none (nat_lt 0 w.served.unserved) (any_unserved ws) e in
    omega (arith, not_above w.served.unserved both.0, none_lacked ws both.1)

pub some_lacked : (ws : List Work) → any_unserved ws ≡ true → 0 < lacked ws
some_lacked [] e = absurd (cc)
some_lacked (w ∷ ws) e =
    elim (or_some (nat_lt 0 w.served.unserved) (any_unserved ws) e) [
      | inl this ↦ (let k = above w.served.unserved this in omega (arith, k))
      | inr other ↦ (let k = some_lacked ws other in omega (arith, k))
    ]

-- ---- the doors that are home

pub home_served : (desk : DeskFacts) (asked : RunOrder) (told : StreetTold) (now : Option StreetTold) (before after : List Deed) (opened count : ℕ) (links : DoorHome → Type 0) (ws : List Work) → desk.limit ≡ max_deeds → desk.base ≡ length before
    → ((k : ℕ) (seat : DeskSeatFacts) → slice_get (map (λ (w : Work). w.seat_before) ws) k ≡ Some seat → seat ≡ fresh_seat desk before k) → All IsFreshDoor (map (λ (w : Work). w.door_before) ws) → All Tells (map (λ (w : Work). w.door_before) ws)
    → AllWorked desk asked.sessions ws → ((k : ℕ) (seat : DeskSeatFacts) → slice_get (map (λ (w : Work). w.seat) ws) k ≡ Some seat → HasOwn after seat)
    → now ≡ Some (with_doors_home (with_doors_out told asked.port (length (map (λ (w : Work). w.door) ws))) (map (λ (w : Work). w.door) ws)) → length (map (λ (w : Work). w.door) ws) ≡ asked.workers → All links (map home_of (map (λ (w : Work). w.door) ws))
    → min (opened + sum_by failed (map (λ (w : Work). w.seat) ws)) (2 ^ 64 - 1) ≤ count → AreHome asked told now asked.workers (lacked ws) links before after count
home_served desk asked told now before after opened count links ws limited base each fresh tell worked own now_is many all counted =
    let zero_more : (k : ℕ) → k ≡ 0 + k = λ k. omega arith in
    let served = doors_served desk asked.sessions 0 before after ws limited base (λ k seat at. each k seat at ∙ ap (λ n. fresh_seat desk before n) (zero_more k)) fresh tell worked own in
    let doors = map (λ (w : Work). w.door) ws in
    record {
      homes = map home_of doors;
      told_is = now_is ∙ ap Some (all_home told asked.port doors);
      many = length-map doors home_of ∙ many;
      each = all;
      replied = served.0;
      served = served.1;
      few = omega (arith, counted, served.2);
    }

pub home_unserved : (asked : RunOrder) (told : StreetTold) (now : Option StreetTold) (deeds : List Deed) (count n : ℕ) (doors : List DoorFacts) → All IsFreshDoor doors → All Tells doors → now ≡ Some (with_doors_home (with_doors_out told asked.port (length doors)) doors)
    → length doors ≡ n → AreHome asked told now n 0 HasNone deeds deeds count
home_unserved asked told now deeds count n doors fresh tell now_is many = record {
  homes = map home_of doors;
  told_is = now_is ∙ ap Some (all_home told asked.port doors);
  many = length-map doors home_of ∙ many;
  each = none_done doors fresh tell;
  replied = 0;
  served = nothing_served 0 deeds doors fresh tell;
  few = omega arith;
}
