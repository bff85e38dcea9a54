-- The dies of a legal list of deeds.
use Rattle.std.proofs.Common.{◌≡◌, ℕ, ◌+◌, ◌<◌, ◌≤◌, Bool, true, false, not, ◌&&◌, List, [], ◌∷◌, ◌++◌, length, All, Option, Some, None, refl, sym, ap, ◌∙◌, subst, arith}
use Rattle.std.specs.Prelude.{if◌then◌else◌, nat_le}
use Rattle.std.specs.Bool.{⊤}
use Rattle.std.specs.List.{cons_option, IsDistinct}
use Rattle.std.specs.Str.{bytes_eq}
use Rattle.std.proofs.lemmas.Cmp.{nat_list_eq_equiv}
use Rattle.std.proofs.lemmas.List.{append-nil, length-append}
use Rattle.std.proofs.lemmas.List.Elements.{All-nil, All-cons, All-append, All-weaker}
use Rattle.std.proofs.lemmas.Map.Keys.{IsDistinct-push}
use Rattle.std.proofs.lemmas.Slice.Eq.{bytes_eq-Decides}
use Rattle.sha2.specs.Sha256.{sha256}
use Rattle.desk_outside.specs.declared.deed.Deed.{Deed}
use Rattle.desk_outside.specs.declared.deed.DeedKind.{DeedKind}
use Rattle.desk_outside.specs.declared.deed.DeedKind.TheVariants.{Design, Log, Sign}
use Rattle.scan_model.specs.ScanTest.{ScanTest}
use Rattle.scan_model.specs.Words.{is_tag, has_word}
use Rattle.die_entries.specs.declared.sign.Sign.{Sign as SignOff}
use Rattle.book.specs.Deeds.{design_text, design_test, test_of_text, die_logs, die_signs, log_in, sign_in, report_at}
use Rattle.book.specs.LegalDeeds.{fits, each_fits, is_log_over}
use Rattle.book.proofs.Longer.{or_else, text-append, logs-append, signs-append, report_stays}
use Rattle.book.proofs.LegalLists.{both, along}

-- a die that has logs has a tag and a design, and its logs differ
pub record IsSound (x : List ℕ) (logs : List (List ℕ)) (known : Option (List ℕ)) : Type 0 where
  pub tagged : 0 < length logs → is_tag x ≡ true
  pub named : 0 < length logs → (text : List ℕ) × (known ≡ Some text)
  pub differ : IsDistinct bytes_eq logs

-- a log that comes to it
record IsNew (x : List ℕ) (logs : List (List ℕ)) (known : Option (List ℕ)) (text : List ℕ) : Type 0 where
  tag : is_tag x ≡ true
  name : (t : List ℕ) × (known ≡ Some t)
  apart : has_word logs text ≡ false

abbrev IfNew : List ℕ → List (List ℕ) → Option (List ℕ) → Option (List ℕ) → Type 0
IfNew x logs known (Some text) = IsNew x logs known text
IfNew x logs known None = ⊤

-- a sign-off of logs that are there, with the digest of their report
pub record IsRight (deeds : List Deed) (d x : List ℕ) (sign : SignOff) : Type 0 where
  pub low : 0 < sign.revision
  pub high : sign.revision ≤ length (die_logs deeds d x)
  pub right : sign.digest ≡ sha256 (report_at deeds d x sign.revision)

abbrev IfRight : List Deed → List ℕ → List ℕ → Option SignOff → Type 0
IfRight deeds d x (Some sign) = IsRight deeds d x sign
IfRight deeds d x None = ⊤

-- ---- one deed

not_true : (b : Bool) → not b ≡ true → b ≡ false
not_true false h = refl
not_true true h = absurd (grind arith)

known_over : (known : Option ScanTest) (d x text : List ℕ) → is_log_over known d x text ≡ true → (t : ScanTest) × (known ≡ Some t)
known_over (Some t) d x text over = (t, refl)
known_over None d x text over = absurd (grind arith)

known_text : (known : Option (List ℕ)) (t : ScanTest) → test_of_text known ≡ Some t → (text : List ℕ) × (known ≡ Some text)
known_text (Some text) t is = (text, refl)
known_text None t is = absurd (grind arith)

new_log : (before : List Deed) (design die text d x : List ℕ) → fits before (Log design die text) ≡ true → design ≡ d → die ≡ x → IsNew x (die_logs before d x) (design_text before d) text
new_log before design die text d x one of_design of_die =
    let parts = both (is_tag die) _ one in
    let rest = both (is_log_over (design_test before design) design die text) _ parts.1 in
    let test = known_over (design_test before design) design die text rest.0 in
    let named = known_text (design_text before design) test.0 test.1 in
    let apart : has_word (die_logs before design die) text ≡ false = not_true _ rest.1 in
    record {
      tag = subst (λ n. is_tag n ≡ true) of_die parts.0;
      name = (named.0, subst (λ n. design_text before n ≡ Some named.0) of_design named.1);
      apart = subst (λ n. has_word (die_logs before d n) text ≡ false) of_die (subst (λ n. has_word (die_logs before n die) text ≡ false) of_design apart);
    }

one_log : (before : List Deed) (what : DeedKind) (d x : List ℕ) → fits before what ≡ true → IfNew x (die_logs before d x) (design_text before d) (log_in d x what)
one_log before (Design n t) d x one = tt
one_log before (Sign n m r s g) d x one = tt
one_log before (Log design die text) d x one = go (bytes_eq design d) refl (bytes_eq die x) refl
  where
    go : (a : Bool) → bytes_eq design d ≡ a → (b : Bool) → bytes_eq die x ≡ b → IfNew x (die_logs before d x) (design_text before d) (if a && b then Some text else None)
    go true e true h = new_log before design die text d x one ((bytes_eq-Decides design d).0 e) ((bytes_eq-Decides die x).0 h)
    go true e false h = tt
    go false e b h = tt

new_sign : (before : List Deed) (design die : List ℕ) (revision : ℕ) (signer digest d x : List ℕ) → fits before (Sign design die revision signer digest) ≡ true → design ≡ d → die ≡ x
    → IsRight before d x (record { revision = revision; signer = signer; digest = digest })
new_sign before design die revision signer digest d x one of_design of_die =
    let parts = both (is_tag signer) _ one in
    let rest = both (nat_le 1 revision && nat_le revision (length (die_logs before design die))) _ parts.1 in
    let range = both (nat_le 1 revision) _ rest.0 in
    let last = both (bytes_eq digest (sha256 (report_at before design die revision))) _ rest.1 in
    let right : digest ≡ sha256 (report_at before design die revision) = (bytes_eq-Decides digest (sha256 (report_at before design die revision))).0 last.0 in
    let high : revision ≤ length (die_logs before design die) = from_leb range.1 in
    record {
      low = let one_or_more : 1 ≤ revision = from_leb range.0 in omega arith;
      high = subst (λ n. revision ≤ length (die_logs before d n)) of_die (subst (λ n. revision ≤ length (die_logs before n die)) of_design high);
      right = subst (λ n. digest ≡ sha256 (report_at before d n revision)) of_die (subst (λ n. digest ≡ sha256 (report_at before n die revision)) of_design right);
    }
  where
    from_leb : {a b : ℕ} → nat_le a b ≡ true → a ≤ b
    from_leb h = grind arith

one_sign : (before : List Deed) (what : DeedKind) (d x : List ℕ) → fits before what ≡ true → IfRight before d x (sign_in d x what)
one_sign before (Design n t) d x one = tt
one_sign before (Log n m t) d x one = tt
one_sign before (Sign design die revision signer digest) d x one = go (bytes_eq design d) refl (bytes_eq die x) refl
  where
    go : (a : Bool) → bytes_eq design d ≡ a → (b : Bool) → bytes_eq die x ≡ b → IfRight before d x (if a && b then Some (record { revision = revision; signer = signer; digest = digest }) else None)
    go true e true h = new_sign before design die revision signer digest d x one ((bytes_eq-Decides design d).0 e) ((bytes_eq-Decides die x).0 h)
    go true e false h = tt
    go false e b h = tt

-- ---- one more deed

kept_name : (known more : Option (List ℕ)) → (text : List ℕ) × (known ≡ Some text) → (text : List ℕ) × (or_else known more ≡ Some text)
kept_name known more named = (named.0, ap (λ o. or_else o more) named.1)

sound_more : (x : List ℕ) (logs : List (List ℕ)) (known more : Option (List ℕ)) (new : Option (List ℕ)) → IsSound x logs known → IfNew x logs known new → IsSound x (logs ++ cons_option new []) (or_else known more)
sound_more x logs known more None now new = subst (λ ls. IsSound x ls (or_else known more)) (sym (append-nil logs)) (record {
  tagged = now.tagged;
  named = λ some. kept_name known more (now.named some);
  differ = now.differ;
})
sound_more x logs known more (Some text) now new = record {
  tagged = λ some. new.tag;
  named = λ some. kept_name known more new.name;
  differ = IsDistinct-push nat_list_eq_equiv logs text now.differ new.apart;
}

-- a right sign-off stays right
pub right_stays : (deeds more : List Deed) (d x : List ℕ) → IsSound x (die_logs deeds d x) (design_text deeds d) → (sign : SignOff) → IsRight deeds d x sign → IsRight (deeds ++ more) d x sign
right_stays deeds more d x sound sign is =
    let low = is.low in let high = is.high in
    let named = sound.named (omega arith) in
    let long : length (die_logs (deeds ++ more) d x) ≡ length (die_logs deeds d x) + length (die_logs more d x) = ap length (logs-append deeds more d x) ∙ length-append (die_logs deeds d x) (die_logs more d x) in
    record {
      low = low;
      high = omega (arith, long);
      right = is.right ∙ ap sha256 (sym (report_stays deeds more d x named.0 sign.revision named.1 high));
    }

pub record HasSound (d x : List ℕ) (deeds : List Deed) : Type 0 where
  pub logs : IsSound x (die_logs deeds d x) (design_text deeds d)
  pub signs : All (IsRight deeds d x) (die_signs deeds d x)

all_one : (P : SignOff → Type 0) (new : Option SignOff) (ok : (sign : SignOff) → new ≡ Some sign → P sign) → All P (cons_option new [])
all_one P None ok = All-nil P
all_one P (Some sign) ok = All-cons P sign [] (ok sign refl) (All-nil P)

has_sound_more : (d x : List ℕ) (before : List Deed) (deed : Deed) → HasSound d x before → fits before deed.what ≡ true → HasSound d x (before ++ deed ∷ [])
has_sound_more d x before deed now one = record {
  logs = subst (λ ls. IsSound x ls (design_text (before ++ deed ∷ []) d)) (sym (logs-append before (deed ∷ []) d x))
      (subst (λ o. IsSound x (die_logs before d x ++ cons_option (log_in d x deed.what) []) o) (sym (text-append before (deed ∷ []) d))
      (sound_more x (die_logs before d x) (design_text before d) (design_text (deed ∷ []) d) (log_in d x deed.what) now.logs (one_log before deed.what d x one)));
  signs = subst (λ ss. All (IsRight (before ++ deed ∷ []) d x) ss) (sym (signs-append before (deed ∷ []) d x))
      (All-append (IsRight (before ++ deed ∷ []) d x) (die_signs before d x) (cons_option (sign_in d x deed.what) [])
      (All-weaker (IsRight before d x) (IsRight (before ++ deed ∷ []) d x) (right_stays before (deed ∷ []) d x now.logs) (die_signs before d x) now.signs)
      (all_one (IsRight (before ++ deed ∷ []) d x) (sign_in d x deed.what)
      (λ sign is. right_stays before (deed ∷ []) d x now.logs sign (subst (λ o. IfRight before d x o) is (one_sign before deed.what d x one)))));
}

nothing_yet : (d x : List ℕ) → HasSound d x []
unfolding IsDistinct
nothing_yet d x = record {
  logs = record { tagged = λ some. absurd (omega arith); named = λ some. absurd (omega arith); differ = tt };
  signs = All-nil (IsRight [] d x);
}

pub sound : (d x : List ℕ) (deeds : List Deed) → each_fits [] deeds ≡ true → HasSound d x deeds
sound d x deeds legal = along (HasSound d x) (has_sound_more d x) [] deeds (nothing_yet d x) legal
