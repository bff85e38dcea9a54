-- What looks answer.
use Rattle.std.proofs.Common.{◌≡◌, ℕ, zero, suc, ◌+◌, ◌-◌, ◌<◌, ◌≤◌, ◌==◌, Bool, true, false, ◌||◌, nat_lt, List, [], ◌∷◌, ◌++◌, length, take, All, Option, Some, None, IfOk, Result, Ok, Err, refl, sym, ap, ◌∙◌, subst, arith}
use Rattle.std.specs.Prelude.{if◌then◌else◌, slice_get}
use Rattle.std.specs.Arc.{arc_value}
use Rattle.std.specs.declared.alloc.Global.{Global}
use Rattle.std.specs.declared.sync.Arc.{Arc}
use Rattle.std.specs.List.{take-map}
use Rattle.std.proofs.lemmas.List.{length-append, length-map, take-append-le}
use Rattle.std.proofs.lemmas.Grind.{common_steps}
use Rattle.std.proofs.lemmas.List.Elements.{All-get_or}
use Rattle.std.proofs.lemmas.Option.{slice_get_within, get_or_from_slice_get}
use Rattle.sha2.specs.Sha256.{sha256}
use Rattle.desk_outside.specs.declared.deed.Deed.{Deed}
use Rattle.book.specs.declared.answers.LookFault.{LookFault}
use Rattle.book.specs.declared.answers.LookFault.TheVariants as look_fault
use Rattle.die_entries.specs.declared.sign.Sign.{Sign as SignOff}
use Rattle.diagnosis.specs.Designs.{DesignFacts, ReadLogFacts, texts_of}
use Rattle.book.specs.Deeds.{design_text, die_logs, die_signs, report_at}
use Rattle.book.specs.Answers.{known_design, design_look, and_look, up_to, known_die, die_look, sign_numbered, sign_look}
use Rattle.book.specs.Changes.{Looked, IsViewIn}
use Rattle.die_entries.specs.Entries.{arc_values}
use Rattle.book.specs.LegalDeeds.{each_fits}
use Rattle.book.specs.Lookups.{IsDieIn}
use Rattle.book.proofs.Longer.{text_stays, logs-append, signs-append, report_stays}
use Rattle.book.proofs.Sound.{IsRight, sound}

-- ---- answers in general

-- a fault that is the answer
pub fault_is : {X Y : Type 0} (shown : X → Y) (answer : Result Y LookFault) (fault : LookFault) → answer ≡ Err fault → Looked shown answer (Err fault)
fault_is shown answer look_fault.UnknownDesign is = is
fault_is shown answer look_fault.UnknownDie is = is
fault_is shown answer (look_fault.UnknownRevision have) is = is
fault_is shown answer (look_fault.UnknownSign have) is = is
fault_is shown answer look_fault.NoMemory is = tt

-- what was answered, where it holds of each answer
pub if_looked : {X Y : Type 0} (shown : X → Y) (answer : Result Y LookFault) (P : X → Type 0) → ((x : X) → answer ≡ Ok (shown x) → P x) → (result : Result X LookFault) → Looked shown answer result → IfOk result P
if_looked shown answer P holds (Ok x) is = holds x is
if_looked shown answer P holds (Err fault) is = tt

pub and_ok : {X Y : Type 0} (answer : Result X LookFault) (next : X → Result Y LookFault) (y : Y) → and_look answer next ≡ Ok y → (x : X) × (answer ≡ Ok x) × (next x ≡ Ok y)
and_ok (Ok x) next y is = (x, refl, is)
and_ok (Err fault) next y is = absurd cc

if_ok : {X : Type 0} (b : Bool) (fault : LookFault) (x y : X) → (if b then Err fault else Ok x) ≡ Ok y → (b ≡ false) × (x ≡ y)
if_ok true fault x y is = absurd cc
if_ok false fault x y is = (refl, cc)

-- ---- a die

known_ok : (known : Option (List ℕ)) (text : List ℕ) → known_design known ≡ Ok text → known ≡ Some text
known_ok (Some t) text is = cc
known_ok None text is = absurd cc

pub design_there : (deeds : List Deed) (d text : List ℕ) → design_look deeds d ≡ Ok text → design_text deeds d ≡ Some text
design_there deeds d text is = known_ok (design_text deeds d) text is

-- a die of a design that is there, with logs
pub record HasDie (deeds : List Deed) (d x : List ℕ) : Type 0 where
  pub text : List ℕ
  pub named : design_text deeds d ≡ Some text
  pub some : 0 < length (die_logs deeds d x)

none_empty : (logs : List (List ℕ)) → 0 < length logs → known_die logs ≡ Ok logs
none_empty [] some = absurd (omega arith)
none_empty (l ∷ ls) some = grind arith

from_known : (logs same : List (List ℕ)) → known_die logs ≡ Ok same → (0 < length logs) × (logs ≡ same)
from_known [] same is = absurd (grind arith)
from_known (l ∷ ls) same is = (grind arith, (if_ok (length (l ∷ ls) == 0) look_fault.UnknownDie (l ∷ ls) same is).1)

-- what is looked up of a die that is there
pub die_is : {Y : Type 0} (deeds : List Deed) (d x text : List ℕ) (next : List (List ℕ) → Result Y LookFault) → design_text deeds d ≡ Some text → 0 < length (die_logs deeds d x)
    → and_look (design_look deeds d) (λ text. and_look (known_die (die_logs deeds d x)) next) ≡ next (die_logs deeds d x)
die_is deeds d x text next named some =
    ap (λ o. and_look (known_design o) (λ t. and_look (known_die (die_logs deeds d x)) next)) named
    ∙ ap (λ r. and_look r next) (none_empty (die_logs deeds d x) some)

pub no_die : {Y : Type 0} (deeds : List Deed) (d x text : List ℕ) (next : List (List ℕ) → Result Y LookFault) → design_text deeds d ≡ Some text → die_logs deeds d x ≡ []
    → and_look (design_look deeds d) (λ text. and_look (known_die (die_logs deeds d x)) next) ≡ Err look_fault.UnknownDie
no_die deeds d x text next named none =
    ap (λ o. and_look (known_design o) (λ t. and_look (known_die (die_logs deeds d x)) next)) named
    ∙ ap (λ logs. and_look (known_die logs) next) none

pub has_die : {Y : Type 0} (deeds : List Deed) (d x : List ℕ) (next : List (List ℕ) → Result Y LookFault) (y : Y) → and_look (design_look deeds d) (λ text. and_look (known_die (die_logs deeds d x)) next) ≡ Ok y
    → HasDie deeds d x × (next (die_logs deeds d x) ≡ Ok y)
has_die deeds d x next y is =
    let first = and_ok (design_look deeds d) (λ text. and_look (known_die (die_logs deeds d x)) next) y is in
    let second = and_ok (known_die (die_logs deeds d x)) next y first.2 in
    let logs = from_known (die_logs deeds d x) second.0 second.1 in (
      record { text = first.0; named = design_there deeds d first.0 first.1; some = logs.0 },
      ap next logs.1 ∙ second.2,
    )

stays_some : (deeds more : List Deed) (d x : List ℕ) → 0 < length (die_logs deeds d x) → 0 < length (die_logs (deeds ++ more) d x)
stays_some deeds more d x some =
    let long : length (die_logs (deeds ++ more) d x) ≡ length (die_logs deeds d x) + length (die_logs more d x) = ap length (logs-append deeds more d x) ∙ length-append (die_logs deeds d x) (die_logs more d x) in
    omega (arith, long)

-- ---- a revision

from_up_to : (logs ts : List (List ℕ)) (r : ℕ) → up_to logs (Some r) ≡ Ok ts → (0 < r) × (r ≤ length logs) × (take r logs ≡ ts)
from_up_to logs ts r is =
    let h = if_ok ((r == 0) || nat_lt (length logs) r) (look_fault.UnknownRevision (length logs)) (take r logs) ts is in
    let low = h.0 in
    (grind (arith, low), grind (arith, low), h.1)

up_to_within : (logs : List (List ℕ)) (r : ℕ) → 0 < r → r ≤ length logs → up_to logs (Some r) ≡ Ok (take r logs)
up_to_within logs r low high = grind arith

-- a revision stays what it is
die_stays : (deeds more : List Deed) (d x : List ℕ) (r : ℕ) (ts : List (List ℕ)) → die_look deeds d x (Some r) ≡ Ok ts
    → (die_look (deeds ++ more) d x (Some r) ≡ Ok ts) × (report_at (deeds ++ more) d x r ≡ report_at deeds d x r)
die_stays deeds more d x r ts is =
    let found = has_die deeds d x (λ logs. up_to logs (Some r)) ts is in
    let die = found.0 in
    let cut = from_up_to (die_logs deeds d x) ts r found.1 in
    let high = cut.1 in
    let long : length (die_logs (deeds ++ more) d x) ≡ length (die_logs deeds d x) + length (die_logs more d x) = ap length (logs-append deeds more d x) ∙ length-append (die_logs deeds d x) (die_logs more d x) in (
      die_is (deeds ++ more) d x die.text (λ logs. up_to logs (Some r)) (text_stays deeds more d die.text die.named) (stays_some deeds more d x die.some)
          ∙ up_to_within (die_logs (deeds ++ more) d x) r cut.0 (omega (arith, long))
          ∙ ap Ok (ap (take r) (logs-append deeds more d x) ∙ take-append-le r (die_logs deeds d x) (die_logs more d x) high ∙ cut.2),
      report_stays deeds more d x die.text r die.named high,
    )

pub revision_stays : (deeds more : List Deed) (d x : List ℕ) (revision : Option ℕ) (r : ℕ) (ts : List (List ℕ)) → revision ≡ Some r → die_look deeds d x revision ≡ Ok ts
    → (die_look (deeds ++ more) d x revision ≡ Ok ts) × (report_at (deeds ++ more) d x r ≡ report_at deeds d x r)
revision_stays deeds more d x revision r ts at is =
    let stays = die_stays deeds more d x r ts (subst (λ o. die_look deeds d x o ≡ Ok ts) at is) in
    (subst (λ o. die_look (deeds ++ more) d x o ≡ Ok ts) (sym at) stays.0, stays.1)

pub up_to_part : (logs : List (Arc ReadLogFacts Global)) (revision : Option ℕ) (r : ℕ) → revision ≡ Some r → 0 < r → r ≤ length logs → up_to (texts_of (arc_values logs)) revision ≡ Ok (texts_of (arc_values (take r logs)))
up_to_part logs revision r is low high =
    let count : length (texts_of (arc_values logs)) ≡ length logs = length-map (arc_values logs) (λ (log : ReadLogFacts). log.text) ∙ length-map logs (λ (log : Arc ReadLogFacts Global). arc_value log) in
    ap (up_to (texts_of (arc_values logs))) is
    ∙ up_to_within (texts_of (arc_values logs)) r low (omega (arith, count))
    ∙ ap Ok (take-map (λ (log : ReadLogFacts). log.text) r (arc_values logs) ∙ ap texts_of (take-map (λ (log : Arc ReadLogFacts Global). arc_value log) r logs))

-- the view that is shown
pub view_in : (deeds : List Deed) (d : DesignFacts) (die : List ℕ) (part logs : List (Arc ReadLogFacts Global)) → design_text deeds d.name ≡ Some d.text → texts_of (arc_values logs) ≡ die_logs deeds d.name die
    → part ≡ take (length part) logs → IsViewIn deeds (record { design = d; die = die; logs = arc_values part })
view_in deeds d die part logs named texts cut =
    let count : length part ≡ length (arc_values part) = sym (length-map part (λ (log : Arc ReadLogFacts Global). arc_value log)) in
    record {
      design = named;
      logs = ap (λ ls. texts_of (arc_values ls)) cut
          ∙ ap texts_of (sym (take-map (λ (log : Arc ReadLogFacts Global). arc_value log) (length part) logs))
          ∙ sym (take-map (λ (log : ReadLogFacts). log.text) (length part) (arc_values logs))
          ∙ ap (take (length part)) texts
          ∙ ap (λ n. take n (die_logs deeds d.name die)) count;
    }

-- ---- a sign-off

from_numbered : (signs : List SignOff) (number : ℕ) (sign : SignOff) → sign_numbered signs number ≡ Ok sign → (0 < number) × (slice_get signs (number - 1) ≡ Some sign)
from_numbered signs zero sign is = absurd (grind arith)
from_numbered signs (suc n) sign is = go (slice_get signs (suc n - 1)) refl
  where
    go : (o : Option SignOff) → slice_get signs (suc n - 1) ≡ o → (0 < suc n) × (slice_get signs (suc n - 1) ≡ Some sign)
    go o at = grind (arith, common_steps)

to_numbered : (signs : List SignOff) (number : ℕ) (sign : SignOff) → 0 < number → slice_get signs (number - 1) ≡ Some sign → sign_numbered signs number ≡ Ok sign
to_numbered signs zero sign low is = absurd (omega arith)
to_numbered signs (suc n) sign low is = grind (arith, common_steps)

get_stays : {X : Type 0} (xs ys : List X) (i : ℕ) (x : X) → slice_get xs i ≡ Some x → slice_get (xs ++ ys) i ≡ Some x
get_stays [] ys i x is = absurd cc
get_stays (y ∷ xs) ys zero x is = is
get_stays (y ∷ xs) ys (suc i) x is = get_stays xs ys i x is

from_get : {X : Type 0} (P : X → Type 0) (xs : List X) (i : ℕ) (x : X) → All P xs → slice_get xs i ≡ Some x → P x
from_get P xs i x all is = subst P (get_or_from_slice_get xs i x x is) (All-get_or P xs i x (slice_get_within xs i x is) all)

sign_found : (deeds : List Deed) (d x : List ℕ) (number : ℕ) (sign : SignOff) → each_fits [] deeds ≡ true → slice_get (die_signs deeds d x) (number - 1) ≡ Some sign → IsRight deeds d x sign
sign_found deeds d x number sign legal is = from_get (IsRight deeds d x) (die_signs deeds d x) (number - 1) sign (sound d x deeds legal).signs is

-- a sign-off that is shown has the digest of its report
pub sign_is_right : (deeds : List Deed) (d x : List ℕ) (number : ℕ) (sign : SignOff) → each_fits [] deeds ≡ true → sign_look deeds d x number ≡ Ok sign → sign.digest ≡ sha256 (report_at deeds d x sign.revision)
sign_is_right deeds d x number sign legal is =
    let found = has_die deeds d x (λ logs. sign_numbered (die_signs deeds d x) number) sign is in
    (sign_found deeds d x number sign legal (from_numbered (die_signs deeds d x) number sign found.1).1).right

-- and stays what it is
pub sign_stays : (deeds more : List Deed) (d x : List ℕ) (number : ℕ) (sign : SignOff) → each_fits [] deeds ≡ true → sign_look deeds d x number ≡ Ok sign
    → (sign_look (deeds ++ more) d x number ≡ Ok sign) × (report_at (deeds ++ more) d x sign.revision ≡ report_at deeds d x sign.revision)
sign_stays deeds more d x number sign legal is =
    let found = has_die deeds d x (λ logs. sign_numbered (die_signs deeds d x) number) sign is in
    let die = found.0 in
    let at = from_numbered (die_signs deeds d x) number sign found.1 in
    let right = sign_found deeds d x number sign legal at.1 in
    let longer : slice_get (die_signs (deeds ++ more) d x) (number - 1) ≡ Some sign =
    subst (λ ss. slice_get ss (number - 1) ≡ Some sign) (sym (signs-append deeds more d x)) (get_stays (die_signs deeds d x) (die_signs more d x) (number - 1) sign at.1) in (
      die_is (deeds ++ more) d x die.text (λ logs. sign_numbered (die_signs (deeds ++ more) d x) number) (text_stays deeds more d die.text die.named) (stays_some deeds more d x die.some)
          ∙ to_numbered (die_signs (deeds ++ more) d x) number sign at.0 longer,
      report_stays deeds more d x die.text sign.revision die.named right.high,
    )

-- what is looked up of a die that was found
pub die_found : {Y : Type 0} (deeds : List Deed) (d x text : List ℕ) (logs : List ReadLogFacts) (signs : List SignOff) (next : List (List ℕ) → Result Y LookFault) → design_text deeds d ≡ Some text → IsDieIn deeds d x logs signs
    → and_look (design_look deeds d) (λ text. and_look (known_die (die_logs deeds d x)) next) ≡ next (die_logs deeds d x)
die_found deeds d x text logs signs next named found =
    let count : length (texts_of logs) ≡ length logs = length-map logs (λ (l : ReadLogFacts). l.text) in
    let same : length (texts_of logs) ≡ length (die_logs deeds d x) = ap length found.texts in
    let some = found.some in
    die_is deeds d x text next named (omega (arith, count, same))

pub sign_looked : (deeds : List Deed) (d x text : List ℕ) (number : ℕ) (logs : List ReadLogFacts) (signs : List SignOff) → design_text deeds d ≡ Some text → IsDieIn deeds d x logs signs
    → sign_look deeds d x number ≡ sign_numbered signs number
sign_looked deeds d x text number logs signs named found =
    die_found deeds d x text logs signs (λ logs. sign_numbered (die_signs deeds d x) number) named found ∙ ap (λ (ss : List SignOff). sign_numbered ss number) (sym found.sign_offs)

pub die_looked : (deeds : List Deed) (d x text : List ℕ) (revision : Option ℕ) (logs : List ReadLogFacts) (signs : List SignOff) → design_text deeds d ≡ Some text → IsDieIn deeds d x logs signs
    → die_look deeds d x revision ≡ up_to (texts_of logs) revision
die_looked deeds d x text revision logs signs named found =
    die_found deeds d x text logs signs (λ logs. up_to logs revision) named found ∙ ap (λ (ts : List (List ℕ)). up_to ts revision) (sym found.texts)
