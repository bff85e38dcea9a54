-- Each `%` of a list of records stands in a field.
use Rattle.std.proofs.Common.{◌≡◌, ◌⊎◌, ℕ, zero, suc, ◌+◌, ◌<◌, Bool, true, false, not, ◌&&◌, ◌||◌, List, [], ◌∷◌, ◌++◌, length, Option, Some, None, refl, sym, ap, ◌∙◌, inl, inr, arith}
use Rattle.std.specs.Prelude.{◌==◌, if◌then◌else◌}
use Rattle.std.proofs.lemmas.Bool.{ne_eqb, and_parts, not-true, both_ways, cond_both}
use Rattle.std.proofs.lemmas.List.Folds.{list_any-append}
use Rattle.csv.specs.Machine.{Read, next_record, step, in_field, start_field, start_record, ends_at_end, is_end, fields_after, field_after}
use Rattle.csv.specs.Reading.{default_config, records_next, records_from, records}
use Rattle.csv.specs.declared.parser.State.{State}
use Rattle.csv.specs.declared.parser.State.TheVariants as st
use Rattle.csv.specs.declared.parser.Action.{Action}
use Rattle.csv.specs.declared.parser.Action.TheVariants as act
use Rattle.diagnosis.proofs.Percents.{has_percent, some_field, some_record}

-- ---- one byte

-- inside a comment, of which a list of neighbours has none
is_comment : State → Bool
is_comment st.StartRecord = false
is_comment st.StartField = false
is_comment st.InField = false
is_comment st.InQuoted = false
is_comment st.AfterQuote = false
is_comment st.InEscape = false
is_comment st.InComment = true
is_comment st.AfterCr = false

-- What a byte does from a state with a record at hand (begun), or between records: none begins a comment, a record at
-- hand goes on until it ends, and between records a byte is skipped or begins one.
is_sound : Bool → State × Action → Bool
is_sound begun (s, act.Skip) = not (is_comment s) && (ends_at_end s || not begun)
is_sound begun (s, act.Copy) = ends_at_end s && not (is_comment s)
is_sound begun (s, act.EndField) = ends_at_end s && not (is_comment s)
is_sound begun (s, act.EndRecord) = not (ends_at_end s) && not (is_comment s)

module _ (begun : Bool) (c : ℕ) where
  in_field_is_sound : is_sound begun (in_field default_config c) ≡ true
  unfolding is_sound is_comment
  in_field_is_sound = go (c == 44) refl (c == 13) refl (c == 10) refl
    where
      go : (a : Bool) → (c == 44) ≡ a → (b : Bool) → (c == 13) ≡ b → (d : Bool) → (c == 10) ≡ d → is_sound begun (in_field default_config c) ≡ true
      go true e b f d g = rw e refl
      go false e true f d g = rw (e, f) refl
      go false e false f true g = rw (e, f, g) refl
      go false e false f false g = rw (e, f, g) refl

  start_field_is_sound : is_sound begun (start_field default_config c) ≡ true
  unfolding is_sound is_comment
  start_field_is_sound = cond_both (c == 34) (st.InQuoted, act.Skip) (in_field default_config c) (λ p. is_sound begun p ≡ true) (λ e. refl) (λ e. in_field_is_sound)

start_record_is_sound : (c : ℕ) → is_sound false (start_record default_config c) ≡ true
unfolding is_sound is_comment
start_record_is_sound c = cond_both (c == 13 || c == 10) (st.StartRecord, act.Skip) (start_field default_config c) (λ p. is_sound false p ≡ true) (λ e. refl) (λ e. start_field_is_sound false c)

step_is_sound : (s : State) (c : ℕ) → is_comment s ≡ false → is_sound (ends_at_end s) (step default_config s c) ≡ true
unfolding is_sound is_comment
step_is_sound st.StartRecord c plain = start_record_is_sound c
step_is_sound st.StartField c plain = start_field_is_sound true c
step_is_sound st.InField c plain = in_field_is_sound true c
step_is_sound st.InQuoted c plain = cond_both (c == 34) (st.AfterQuote, act.Skip) (st.InQuoted, act.Copy) (λ p. is_sound true p ≡ true) (λ e. refl) (λ e. refl)
step_is_sound st.AfterQuote c plain = cond_both (c == 34) (st.InQuoted, act.Copy) (in_field default_config c) (λ p. is_sound true p ≡ true) (λ e. refl) (λ e. in_field_is_sound true c)
step_is_sound st.InEscape c plain = refl
step_is_sound st.InComment c plain = absurd cc
step_is_sound st.AfterCr c plain = cond_both (c == 10) (st.StartRecord, act.Skip) (start_record default_config c) (λ p. is_sound false p ≡ true) (λ e. refl) (λ e. start_record_is_sound c)

-- `%` joins the field at hand in each state
copies_percent : (s : State) → is_comment s ≡ false → (step default_config s 37).1 ≡ act.Copy
unfolding is_comment
copies_percent st.StartRecord plain = refl
copies_percent st.StartField plain = refl
copies_percent st.InField plain = refl
copies_percent st.InQuoted plain = refl
copies_percent st.AfterQuote plain = refl
copies_percent st.InEscape plain = refl
copies_percent st.InComment plain = absurd cc
copies_percent st.AfterCr plain = refl

-- ---- one record

-- a `%` stands in the fields before the field at hand, or in that field
at_hand : List (List ℕ) → List ℕ → Bool
at_hand fields field = some_field fields || has_percent field

-- What reading a record gives: there is a `%` in its fields or after it exactly if there was one, it stops between
-- records, and it takes a byte or comes to the end of the text.
Keeps : Bool → List ℕ → Option Read → Type 0
Keeps percent xs None = percent ≡ false
Keeps percent xs (Some r) = ((some_field r.0 || has_percent r.2) ≡ percent) × (is_comment r.1 ≡ false) × (ends_at_end r.1 ≡ false) × ((length r.2 < length xs) ⊎ (r.2 ≡ []))

keeps_longer : (percent : Bool) (c : ℕ) (xs : List ℕ) (o : Option Read) → Keeps percent xs o → Keeps percent (c ∷ xs) o
unfolding Keeps
keeps_longer percent c xs None kept = kept
keeps_longer percent c xs (Some r) kept = (kept.0, kept.1, kept.2, elim kept.3 [ inl lt ↦ inl (omega (arith, lt)) | inr e ↦ inr e ])

or_false : (a : Bool) → (a || false) ≡ a
or_false true = refl
or_false false = refl

or_assoc : (a b c : Bool) → (a || (b || c)) ≡ ((a || b) || c)
or_assoc true b c = refl
or_assoc false true c = refl
or_assoc false false c = refl

pushed : (fields : List (List ℕ)) (field : List ℕ) → some_field (fields ++ field ∷ []) ≡ at_hand fields field
unfolding at_hand
pushed fields field = list_any-append has_percent fields (field ∷ []) ∙ ap (λ p. some_field fields || p) (or_false (has_percent field))

copied : (fields : List (List ℕ)) (field : List ℕ) (c : ℕ) → at_hand fields (field ++ c ∷ []) ≡ (at_hand fields field || (c == 37))
unfolding at_hand
copied fields field c =
    ap (λ p. some_field fields || p) (list_any-append (λ b. b == 37) field (c ∷ []) ∙ ap (λ p. has_percent field || p) (or_false (c == 37)))
    ∙ or_assoc (some_field fields) (has_percent field) (c == 37)

-- reading these bytes from any state, with any record at hand
Goes : List ℕ → Type 0
Goes xs = (s : State) (fields : List (List ℕ)) (field : List ℕ) → is_comment s ≡ false → (ends_at_end s ≡ false → at_hand fields field ≡ false)
    → Keeps (at_hand fields field || has_percent xs) xs (next_record default_config s fields field xs)

module _ (c : ℕ) (rest : List ℕ) (fields : List (List ℕ)) (field : List ℕ) (begun : Bool) (goes : Goes rest) (empty : begun ≡ false → at_hand fields field ≡ false) where
  step_keeps : (p : State × Action) → is_sound begun p ≡ true → (c ≡ 37 → p.1 ≡ act.Copy)
      → Keeps (at_hand fields field || has_percent (c ∷ rest)) (c ∷ rest) (if is_end p.1 then Some (fields_after p.1 fields field, p.0, rest) else next_record default_config p.0 (fields_after p.1 fields field) (field_after p.1 c field) rest)
  unfolding is_sound Goes Keeps at_hand
  step_keeps (s, act.Skip) sound copies =
      let both = and_parts (not (is_comment s)) (ends_at_end s || not begun) sound in
      let none : (c == 37) ≡ false = ne_eqb c 37 (λ e. let bad = copies e in cc) in
      rw none (keeps_longer (at_hand fields field || has_percent rest) c rest (next_record default_config s fields field rest)
      (goes s fields field (not-true (is_comment s) both.0) (λ e. empty (not-true begun (rw e at both.1)))))
  step_keeps (s, act.Copy) sound copies =
      let both = and_parts (ends_at_end s) (not (is_comment s)) sound in
      rw (or_assoc (at_hand fields field) (c == 37) (has_percent rest), ← copied fields field c)
      (keeps_longer (at_hand fields (field ++ c ∷ []) || has_percent rest) c rest (next_record default_config s fields (field ++ c ∷ []) rest)
      (goes s fields (field ++ c ∷ []) (not-true (is_comment s) both.1) (λ e. absurd (both_ways (ends_at_end s) e both.0))))
  step_keeps (s, act.EndField) sound copies =
      let both = and_parts (ends_at_end s) (not (is_comment s)) sound in
      let none : (c == 37) ≡ false = ne_eqb c 37 (λ e. let bad = copies e in cc) in
      let same : at_hand (fields ++ field ∷ []) [] ≡ at_hand fields field = or_false (some_field (fields ++ field ∷ [])) ∙ pushed fields field in
      rw (none, ← same)
      (keeps_longer (at_hand (fields ++ field ∷ []) [] || has_percent rest) c rest (next_record default_config s (fields ++ field ∷ []) [] rest)
      (goes s (fields ++ field ∷ []) [] (not-true (is_comment s) both.1) (λ e. absurd (both_ways (ends_at_end s) e both.0))))
  step_keeps (s, act.EndRecord) sound copies =
      let both = and_parts (not (ends_at_end s)) (not (is_comment s)) sound in
      let none : (c == 37) ≡ false = ne_eqb c 37 (λ e. let bad = copies e in cc) in
      (rw (none, pushed fields field) refl, not-true (is_comment s) both.1, not-true (ends_at_end s) both.0, inl (omega arith))

read_keeps : (xs : List ℕ) → Goes xs
unfolding next_record Goes Keeps is_comment
read_keeps [] s fields field plain empty = go (ends_at_end s) refl
  where
    go : (b : Bool) → ends_at_end s ≡ b → Keeps (at_hand fields field || false) [] (if ends_at_end s then Some (fields ++ field ∷ [], st.StartRecord, []) else None)
    go true e = rw e (ap (λ p. p || false) (pushed fields field), refl, refl, inr refl)
    go false e = rw e (rw (empty e) refl)
read_keeps (c ∷ rest) s fields field plain empty =
    step_keeps c rest fields field (ends_at_end s) (read_keeps rest) empty (step default_config s c) (step_is_sound s c plain) (λ e. rw e (copies_percent s plain))

-- ---- all records

none_at_end : (n : ℕ) (s : State) → ends_at_end s ≡ false → records_from default_config n s [] ≡ []
unfolding records_from next_record
none_at_end zero s e = refl
none_at_end (suc n) s e = rw e refl

records_keep : (n : ℕ) (s : State) (xs : List ℕ) → length xs < n → is_comment s ≡ false → ends_at_end s ≡ false → some_record (records_from default_config n s xs) ≡ has_percent xs
unfolding records_from Keeps Goes at_hand
records_keep zero s xs lt plain start = absurd (omega arith)
records_keep (suc n) s xs lt plain start =
    go (next_record default_config s [] [] xs) (read_keeps xs s [] [] plain (λ e. refl)) (records_keep n)
  where
    go : (o : Option Read) → Keeps (has_percent xs) xs o
        → ((t : State) (ys : List ℕ) → length ys < n → is_comment t ≡ false → ends_at_end t ≡ false → some_record (records_from default_config n t ys) ≡ has_percent ys)
        → some_record (records_next (records_from default_config n) o) ≡ has_percent xs
    go None keeps more = sym keeps
    go (Some r) keeps more = ap (λ p. some_field r.0 || p) (elim keeps.3 [
      | inl less ↦ more r.1 r.2 (omega arith) keeps.1 keeps.2
      | inr e ↦ rw e (ap some_record (none_at_end n r.1 keeps.2))
    ]) ∙ keeps.0

-- a text has a `%` exactly if a field of its records has one
pub records_percent : (xs : List ℕ) → some_record (records default_config xs) ≡ has_percent xs
unfolding is_comment
records_percent xs = records_keep (length xs + 1) st.StartRecord xs (omega arith) refl refl
