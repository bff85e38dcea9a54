-- A list of neighbours without a fault has no `%`.
use Rattle.std.proofs.Common.{◌≡◌, ℕ, Bool, true, false, not, ◌&&◌, ◌||◌, List, [], ◌∷◌, length, map, None, refl, sym, ap, ◌∙◌, inl, inr, arith}
use Rattle.std.specs.Prelude.{◌==◌, codes, reverse, bytes_eq}
use Rattle.std.proofs.lemmas.Bool.{eqb-true, cond_both, or_cases, or_parts, or_from, and_parts, not-false}
use Rattle.std.proofs.lemmas.Slice.Eq.{bytes_eq-Decides}
use Rattle.std.proofs.lemmas.List.Folds.{list_any_none}
use Rattle.std.proofs.lemmas.List.Elements.{All-from_get_or}
use Rattle.std.proofs.lemmas.List.Sorted.{list_any-IsPermutation, IsPermutation-reverse}
use Rattle.csv.specs.Reading.{default_config, records, strip_bom, is_bom}
use Rattle.scan_model.specs.declared.parts.Pair.{Pair}
use Rattle.scan_model.specs.Lines.{is_blank}
use Rattle.scan_model.specs.Words.{has_word}
use Rattle.scan_model.specs.TextFaults.{lowest}
use Rattle.scan_model.specs.declared.rules.TheConstants.{OTHER_PAIR_FORM, NAMES_NO_NET, NAMES_ONE_NET, TOO_MANY_PAIRS}
use Rattle.scan_model.proofs.FaultSteps.{fault_from-clean}
use Rattle.text_parts.specs.TextEnd.{ended}
use Rattle.bridge_pairs.specs.PairText.{after_blanks, trimmed, records_in, record_at, two_names, is_header, has_other_form, names_no_net, names_one_net, names_too_many, nets_named, pairs_before, pair_rules, pair_rule, pairs_fault}
use Rattle.diagnosis.proofs.Percents.{has_percent, some_field, some_record}
use Rattle.diagnosis.proofs.FieldPercents.{records_percent}

-- ---- blanks and the byte order mark are no `%`

blank_is_plain : (b : ℕ) → is_blank b ≡ true → (b == 37) ≡ false
blank_is_plain b e = elim (or_cases (b == 32) (b == 9) e) [
  | inl space ↦ rw (eqb-true b 32 space) refl
  | inr tab ↦ rw (eqb-true b 9 tab) refl
]

after_blanks_percent : (field : List ℕ) → has_percent (after_blanks field) ≡ has_percent field
after_blanks_percent [] = refl
after_blanks_percent (b ∷ bs) = cond_both (is_blank b) (after_blanks bs) (b ∷ bs) (λ xs. has_percent xs ≡ has_percent (b ∷ bs))
    (λ e. rw (blank_is_plain b e) (after_blanks_percent bs))
    (λ e. refl)

reverse_percent : (xs : List ℕ) → has_percent (reverse xs) ≡ has_percent xs
reverse_percent xs = sym (list_any-IsPermutation (λ b. b == 37) xs (reverse xs) (IsPermutation-reverse xs))

trimmed_percent : (field : List ℕ) → has_percent (trimmed field) ≡ has_percent field
trimmed_percent field =
    let front = after_blanks field in
    reverse_percent (after_blanks (reverse front)) ∙ after_blanks_percent (reverse front) ∙ reverse_percent front ∙ after_blanks_percent field

bom_is_plain : (a b c : ℕ) (rest : List ℕ) → is_bom a b c ≡ true → has_percent rest ≡ has_percent (a ∷ b ∷ c ∷ rest)
bom_is_plain a b c rest e =
    let last = and_parts (a == 239 && b == 187) (c == 191) e in
    let first = and_parts (a == 239) (b == 187) last.0 in
    rw (eqb-true a 239 first.0, eqb-true b 187 first.1, eqb-true c 191 last.1) refl

strip_bom_percent : (xs : List ℕ) → has_percent (strip_bom xs) ≡ has_percent xs
unfolding strip_bom
strip_bom_percent [] = refl
strip_bom_percent (a ∷ []) = refl
strip_bom_percent (a ∷ b ∷ []) = refl
strip_bom_percent (a ∷ b ∷ c ∷ rest) =
    cond_both (is_bom a b c) rest (a ∷ b ∷ c ∷ rest) (λ xs. has_percent xs ≡ has_percent (a ∷ b ∷ c ∷ rest)) (bom_is_plain a b c rest) (λ e. refl)

-- ---- the records of a list

fields_percent : (fields : List (List ℕ)) → some_field (map trimmed fields) ≡ some_field fields
fields_percent [] = refl
fields_percent (f ∷ fs) = rw (trimmed_percent f, fields_percent fs) refl

rows_percent : (rows : List (List (List ℕ))) → some_record (map (map trimmed) rows) ≡ some_record rows
rows_percent [] = refl
rows_percent (r ∷ rs) = rw (fields_percent r, rows_percent rs) refl

-- a list has a `%` exactly if a field has one
pub records_in_percent : (bytes : List ℕ) → some_record (records_in bytes) ≡ has_percent (ended bytes)
records_in_percent bytes =
    rows_percent (records default_config (strip_bom (ended bytes))) ∙ records_percent (strip_bom (ended bytes)) ∙ strip_bom_percent (ended bytes)

-- ---- records without a fault

-- a word that is among these has no `%` if none of them has
plain_word : (names : List (List ℕ)) (w : List ℕ) → some_field names ≡ false → has_word names w ≡ true → has_percent w ≡ false
plain_word [] w plain among = absurd cc
plain_word (n ∷ ns) w plain among =
    let both = or_parts (has_percent n) (some_field ns) plain in
    elim (or_cases (bytes_eq w n) (has_word ns w) among) [
      | inl same ↦ ap has_percent ((bytes_eq-Decides w n).0 same) ∙ both.0
      | inr later ↦ plain_word ns w both.1 later
    ]

plain_header : (a b : List ℕ) → is_header (two_names (a ∷ b ∷ [])) ≡ true → some_field (a ∷ b ∷ []) ≡ false
plain_header a b e =
    let both = and_parts (bytes_eq a (codes "net_a")) (bytes_eq b (codes "net_b")) e in
    rw ((bytes_eq-Decides a (codes "net_a")).0 both.0, (bytes_eq-Decides b (codes "net_b")).0 both.1) refl

none_of_two : (a b : Bool) (more : List (ℕ × Bool)) → lowest ((OTHER_PAIR_FORM, a) ∷ (NAMES_NO_NET, b) ∷ more) ≡ None → (a ≡ false) × (b ≡ false)
none_of_two true b more none = absurd cc
none_of_two false true more none = absurd cc
none_of_two false false more none = (refl, refl)

module _ (names : List (List ℕ)) (plain : some_field names ≡ false) where
  plain_pair : (a b : List ℕ) → names_no_net names (two_names (a ∷ b ∷ [])) ≡ false → some_field (a ∷ b ∷ []) ≡ false
  plain_pair a b e =
      let both = or_parts (not (has_word names a)) (not (has_word names b)) e in
      or_from (has_percent a) (has_percent b || false) (plain_word names a plain (not-false (has_word names a) both.0))
      (or_from (has_percent b) false (plain_word names b plain (not-false (has_word names b) both.1)) refl)

  plain_fields : (i : ℕ) (fields : List (List ℕ)) → has_other_form i fields ≡ false → names_no_net names (nets_named i fields) ≡ false → some_field fields ≡ false
  plain_fields i [] form known = refl
  plain_fields i (a ∷ []) form known = absurd (go (i == 0) refl)
    where
      go : (first : Bool) → (i == 0) ≡ first → ⊥
      go true e = let bad : has_other_form i (a ∷ []) ≡ true = rw e refl in cc
      go false e = let bad : has_other_form i (a ∷ []) ≡ true = rw e refl in cc
  plain_fields i (a ∷ b ∷ []) form known = go (i == 0) refl
    where
      go : (first : Bool) → (i == 0) ≡ first → some_field (a ∷ b ∷ []) ≡ false
      go true e = plain_header a b (not-false (is_header (two_names (a ∷ b ∷ []))) (rw e at form))
      go false e = plain_pair a b (rw e at known)
  plain_fields i (a ∷ b ∷ c ∷ fields) form known = absurd (go (i == 0) refl)
    where
      go : (first : Bool) → (i == 0) ≡ first → ⊥
      go true e = let bad : has_other_form i (a ∷ b ∷ c ∷ fields) ≡ true = rw e refl in cc
      go false e = let bad : has_other_form i (a ∷ b ∷ c ∷ fields) ≡ true = rw e refl in cc

  plain_record : (seen : List Pair) (i : ℕ) (fields : List (List ℕ)) → lowest (pair_rules names seen i fields) ≡ None → some_field fields ≡ false
  plain_record seen i fields none =
      let named = nets_named i fields in
      let both = none_of_two (has_other_form i fields) (names_no_net names named) ((NAMES_ONE_NET, names_one_net names named) ∷ (TOO_MANY_PAIRS, names_too_many names seen i named) ∷ []) none in
      plain_fields i fields both.0 both.1

  pub plain_records : (rows : List (List (List ℕ))) → pairs_fault names rows ≡ None → some_record rows ≡ false
  plain_records rows clean = list_any_none some_field rows (All-from_get_or (λ fields. some_field fields ≡ false) rows [] (λ i lt.
      plain_record (pairs_before names rows i) i (record_at rows i) (fault_from-clean (pair_rule names rows) 0 (length rows) clean i (omega arith) (omega arith))))
