-- One more connection that was served.
use Rattle.std.proofs.Common.{◌≡◌, ℕ, ◌+◌, ◌-◌, ◌≤◌, ◌==◌, not, Bool, true, false, List, [], ◌∷◌, ◌++◌, Option, Some, refl, sym, ap, subst, ◌∙◌, arith, append-nil, append_assoc, length-append}
use Rattle.std.specs.Prelude.{if◌then◌else◌, flat_map}
use Rattle.std.specs.Io.KnownBytes.{append_known}
use Rattle.std.proofs.lemmas.Bool.{ne_eqb}
use Rattle.desk_outside.specs.Faults.{Rose}
use Rattle.desk_outside.specs.Doors.{DoorTold, handed, came_home}
use Rattle.desk_outside.specs.declared.door.LinkHome.{LinkHome}
use Rattle.final_replies.specs.declared.ends.SessionEnd.{SessionEnd}
use Rattle.desk_answers.specs.Seats.{SeatFacts}
use Rattle.desk_http.specs.Sessions.{text, IsSession}
use Rattle.desk_answers.proofs.SeatSteps.{did_on}
use Rattle.desk_http.specs.ServedConnections.{DidSome, is_unserved, IsServed, AreServed, with_served, Serves}

-- ---- a door

pub rose_above : (old new : ℕ) → old ≡ 0 → Rose old new → not (new == 0) ≡ true
rose_above old new none rose = let e : (new == 0) ≡ false = ne_eqb _ _ (λ zero. omega (arith, none, rose, zero)) in rw e refl

-- ---- one more

unserved_on : (others n : ℕ) (b c : Bool) → n ≡ others + (if b then 1 else 0) → n + (if c then 1 else 0) ≡ (others + (if c then 1 else 0)) + (if b then 1 else 0)
unserved_on others n b c e = omega (arith, e)

pub are_on : (old : SeatFacts) (lefts : List (List ℕ)) (homes : List LinkHome) (n : ℕ) (mid : SeatFacts) (left : List ℕ) (home : LinkHome) (end : SessionEnd) (new : SeatFacts) → AreServed old lefts homes n mid → IsServed mid new left home end
    → AreServed old (lefts ++ left ∷ []) (homes ++ home ∷ []) (n + (if is_unserved end then 1 else 0)) new
are_on old [] [] n mid left home end new (same, none) one =
    (new, end, 0, subst (λ s. IsServed s new left home end) same one, ap (λ k. k + (if is_unserved end then 1 else 0)) none, (refl, refl))
are_on old (l ∷ lefts) (h ∷ homes) n mid left home end new (next, first, others, served, count, rest) one =
    (next, first, others + (if is_unserved end then 1 else 0), served, unserved_on others n (is_unserved first) (is_unserved end) count, are_on next lefts homes others mid left home end new rest one)
are_on old [] (h ∷ homes) n mid left home end new are one = absurd are
are_on old (l ∷ lefts) [] n mid left home end new are one = absurd are

abbrev told_with : ℕ → List (List ℕ) → List LinkHome → DoorTold
told_with out given done = record { given = given; done = done; out = out }

pub count_few : (b : Bool) → (if b then 1 else 0) ≤ 1
count_few true = omega arith
count_few false = omega arith

pub none_served : (before : DoorTold) (told : Option DoorTold) (s : SeatFacts) → told ≡ Some before → Serves before told s s 0 0
none_served before told s is = record {
  given = [];
  done = [];
  told_is = is ∙ ap Some (ap (λ gs. told_with before.out gs before.done) (sym (append-nil before.given)) ∙ ap (λ ds. told_with before.out (before.given ++ []) ds) (sym (append-nil before.done)));
  many = refl;
  are = (refl, refl);
}

pub one_more_served : (before : DoorTold) (told later : Option DoorTold) (old mid new : SeatFacts) (ended unserved : ℕ) (end : SessionEnd) → Serves before told old mid ended unserved
    → ((t : DoorTold) → told ≡ Some t → (left : List ℕ) × (home : LinkHome) × (later ≡ Some (with_served t (left ∷ []) (home ∷ []))) × IsServed mid new left home end)
    → Serves before later old new (ended + 1) (unserved + (if is_unserved end then 1 else 0))
one_more_served before told later old mid new ended unserved end so_far next =
    let one = next (with_served before so_far.given so_far.done) so_far.told_is in
    record {
      given = so_far.given ++ one.0 ∷ [];
      done = so_far.done ++ one.1 ∷ [];
      told_is = one.2
          ∙ ap Some (ap (λ gs. told_with before.out gs ((before.done ++ so_far.done) ++ one.1 ∷ [])) (append_assoc before.given so_far.given (one.0 ∷ []))
          ∙ ap (λ ds. told_with before.out (before.given ++ (so_far.given ++ one.0 ∷ [])) ds) (append_assoc before.done so_far.done (one.1 ∷ [])));
      many = length-append so_far.given (one.0 ∷ []) ∙ ap (λ n. n + 1) so_far.many;
      are = are_on old so_far.given so_far.done unserved mid one.0 one.1 end new so_far.are one.3;
    }

-- the bytes that a session sent are told where those before it were
pub told_after : (end : SessionEnd) (marks : List ℕ) (old new : SeatFacts) (left before after : Option (List ℕ)) → IsSession end marks old new left before after → before ≡ Some [] → (sent : List ℕ) × (after ≡ Some sent)
told_after end marks old new left before after is told = (flat_map (text false) is.exchanges ++ is.part, is.sent ∙ ap (λ s. append_known s (flat_map (text false) is.exchanges ++ is.part)) told)

-- a connection that was handed out and came home was served
pub home_is : (told : DoorTold) (left sent : List ℕ) (faults : ℕ) → came_home (handed told left) sent faults ≡ with_served told (left ∷ []) (record { sent = sent; failed = not (faults == 0) } ∷ [])
home_is told left sent faults =
    let same : (told.out + 1) - 1 ≡ told.out = omega arith in
    let at : ℕ → DoorTold = λ n. record { given = told.given ++ left ∷ []; done = told.done ++ record { sent = sent; failed = not (faults == 0) } ∷ []; out = n } in
    ap at same

-- what a seat did, and then did
pub did_some_on : (a b c : SeatFacts) → DidSome a b → DidSome b c → DidSome a c
did_some_on a b c (xs, j, first) (ys, k, second) = (xs ++ ys, j + k, did_on xs ys j k a b c first second)
