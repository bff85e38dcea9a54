-- Doors come home, one after another.
use Rattle.std.proofs.Common.{◌≡◌, ◌≤◌, ◌<◌, ◌+◌, ◌-◌, ◌==◌, not, ℕ, zero, suc, Bool, true, false, List, [], ◌∷◌, ◌++◌, length, map, Option, None, Some, refl, sym, ap, ◌∙◌, arith, append_assoc, length-append}
use Rattle.std.specs.Prelude.{if◌then◌else◌, replicate}
use Rattle.std.proofs.lemmas.List.{map-append}
use Rattle.desk_outside.specs.Doors.{DoorTold}
use Rattle.desk_outside.specs.Faults.{Rose, raised}
use Rattle.desk_outside.specs.Streets.{StreetTold, door_handed, door_home}
use Rattle.desk_serve.specs.Doors.{DoorFacts, has_failed, told_or_fresh, home_of, with_doors_out, with_doors_home}

replicate_push : (n port : ℕ) → replicate n port ++ port ∷ [] ≡ replicate (suc n) port
replicate_push zero port = refl
replicate_push (suc n) port = ap (λ l. port ∷ l) (replicate_push n port)

-- one more is out
pub one_more_out : (told : StreetTold) (port n m : ℕ) → m ≡ n + 1 → door_handed (with_doors_out told port n) port ≡ with_doors_out told port m
one_more_out told port n m is =
    let next : suc n ≡ m = omega (arith, is) in
    let ports : (told.ports ++ replicate n port) ++ port ∷ [] ≡ told.ports ++ replicate m port = append_assoc told.ports (replicate n port) (port ∷ []) ∙ ap (λ l. told.ports ++ l) (replicate_push n port) ∙ ap (λ k. told.ports ++ replicate k port) next in
    let out : (told.out + n) + 1 ≡ told.out + m = omega (arith, is) in
    ap (λ (ps : List ℕ). record { ports = ps; home = told.home; out = (told.out + n) + 1 }) ports ∙ ap (λ (k : ℕ). record { ports = told.ports ++ replicate m port; home = told.home; out = k }) out

-- a door of those that are out is out
pub still_out : (told : StreetTold) (doors : List DoorFacts) (all : ℕ) → length doors < all → all ≤ told.out → 0 < (with_doors_home told doors).out
still_out told doors all some out = omega (arith, some, out)

home_is : (d : DoorFacts) (told : DoorTold) → d.told ≡ Some told → record { given = told.given; done = told.done; failed = not (d.faults == 0) } ≡ home_of d
home_is d told tells = ap (λ t. record { given = (told_or_fresh t).given; done = (told_or_fresh t).done; failed = not (d.faults == 0) }) (sym tells)

-- one more is home
pub one_more_home : (told : StreetTold) (doors : List DoorFacts) (d : DoorFacts) (told_door : DoorTold) → d.told ≡ Some told_door → door_home (with_doors_home told doors) told_door d.faults ≡ with_doors_home told (doors ++ d ∷ [])
one_more_home told doors d told_door tells =
    let homes : (told.home ++ map home_of doors) ++ record { given = told_door.given; done = told_door.done; failed = not (d.faults == 0) } ∷ [] ≡ told.home ++ map home_of (doors ++ d ∷ []) =
    ap (λ h. (told.home ++ map home_of doors) ++ h ∷ []) (home_is d told_door tells) ∙ append_assoc told.home (map home_of doors) (home_of d ∷ []) ∙ ap (λ l. told.home ++ l) (sym (map-append home_of doors (d ∷ []))) in
    let out : (told.out - length doors) - 1 ≡ told.out - length (doors ++ d ∷ []) = omega (arith, length-append doors (d ∷ [])) in
    ap (λ h. record { ports = told.ports; home = h; out = (told.out - length doors) - 1 }) homes ∙ ap (λ n. record { ports = told.ports; home = told.home ++ map home_of (doors ++ d ∷ []); out = n }) out

-- the street's count rises where a door's isn't 0
pub rose_at : (first before after : ℕ) (d : DoorFacts) → first ≤ before → after ≡ (if d.faults == 0 then before else raised before) → has_failed d ≡ true → Rose first after
rose_at first before after d later count failed = above (d.faults == 0) failed count
  where
    above : (b : Bool) → not b ≡ true → after ≡ (if b then before else raised before) → Rose first after
    above true e c = absurd (cc)
    above false e c = omega (arith, later, c)

pub rose_still : (first before after : ℕ) → Rose first before → before ≤ after → Rose first after
rose_still first before after rose later = omega (arith, rose, later)

-- doors that were handed out are out, where the street told before
pub are_out : (port n : ℕ) (old mid : Option StreetTold) → (old ≡ None → mid ≡ None) → ((t : StreetTold) → old ≡ Some t → mid ≡ Some (with_doors_out t port n)) → (t : StreetTold) → mid ≡ Some t → (u : StreetTold) × (old ≡ Some u) × (n ≤ t.out)
are_out port n None mid silent out t e = let none : mid ≡ None = silent refl in absurd (cc)
are_out port n (Some u) mid silent out t e =
    let same : Some (with_doors_out u port n) ≡ Some t = sym (out u refl) ∙ e in
    let is : with_doors_out u port n ≡ t = cc in
    let many : u.out + n ≡ t.out = ap (λ (s : StreetTold). s.out) is in
    (u, refl, omega (arith, many))

pub rose_later : (first before after : ℕ) → first ≤ before → Rose before after → Rose first after
rose_later first before after later rose = omega (arith, later, rose)
