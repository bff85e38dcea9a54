-- Records of two names, as a list of neighbours has them.
use Rattle.std.proofs.Common.{◌≡◌, ℕ, ◌+◌, ◌-◌, ◌<◌, Bool, true, false, cond, eqb, List, [], ◌∷◌, ◌++◌, length, map, reverse, get_or, Some, None, refl, sym, ap, ap₂, ◌∙◌, length-append, append_assoc, append-nil, arith}
use Rattle.std.specs.Prelude.{flat_map}
use Rattle.std.specs.List.{AllByRecursion, list_all}
use Rattle.std.proofs.lemmas.Bool.{and_parts}
use Rattle.std.proofs.lemmas.List.{get_or-append-add, reverse-append, reverse-reverse}
use Rattle.csv.specs.Machine.{next_record, step, in_field, start_record, start_field, is_end, fields_after, field_after}
use Rattle.csv.specs.Reading.{default_config, records, Reached}
use Rattle.csv.specs.declared.parser.State.{State}
use Rattle.csv.specs.declared.parser.State.TheVariants as st
use Rattle.csv.specs.declared.parser.Action.{Action}
use Rattle.csv.specs.declared.parser.Action.TheVariants as act
use Rattle.scan_model.specs.Lines.{is_blank}
use Rattle.scan_model.specs.Words.{is_name_byte}
use Rattle.text_parts.specs.TextEnd.{is_ended, ended}
use Rattle.bridge_pairs.specs.PairText.{TwoNames, after_blanks, trimmed}
use Rattle.bridge_pairs.proofs.Listing.{are_the_records}
use Rattle.diag_report.proofs.PlainWords.{not_byte}
use Rattle.made_laws.proofs.NetForms.{bytes_append}

-- a name: one name byte or more
pub record IsCell (w : List ℕ) : Type 0 where
  pub some : 0 < length w
  pub bytes : list_all is_name_byte w ≡ true

abbrev pub cells_of : TwoNames → List (List ℕ)
cells_of n = n.a ∷ n.b ∷ []

abbrev pub row_text : TwoNames → List ℕ
row_text n = n.a ++ (44 ∷ (n.b ++ 10 ∷ []))

abbrev pub IsRow : TwoNames → Type 0
IsRow n = IsCell n.a × IsCell n.b

-- ---- one record

copies : (c : ℕ) → is_name_byte c ≡ true → in_field default_config c ≡ (st.InField, act.Copy)
copies c e = rw (not_byte 44 refl c e, not_byte 13 refl c e, not_byte 10 refl c e) refl

starts_field : (c : ℕ) → is_name_byte c ≡ true → start_field default_config c ≡ (st.InField, act.Copy)
starts_field c e = rw (not_byte 34 refl c e) (copies c e)

starts_record : (c : ℕ) → is_name_byte c ≡ true → start_record default_config c ≡ (st.InField, act.Copy)
starts_record c e = rw (not_byte 13 refl c e, not_byte 10 refl c e, not_byte 34 refl c e, not_byte 44 refl c e) refl

-- a byte that is copied
one_copied : (s : State) (fields : List (List ℕ)) (field : List ℕ) (c : ℕ) (rest : List ℕ) → step default_config s c ≡ (st.InField, act.Copy)
    → next_record default_config s fields field (c ∷ rest) ≡ next_record default_config st.InField fields (field ++ c ∷ []) rest
unfolding next_record
one_copied s fields field c rest is =
    ap (λ (p : State × Action). cond (is_end p.1) (Some (fields_after p.1 fields field, p.0, rest)) (next_record default_config p.0 (fields_after p.1 fields field) (field_after p.1 c field) rest)) is

copied : (w rest : List ℕ) (fields : List (List ℕ)) (field : List ℕ) → list_all is_name_byte w ≡ true
    → next_record default_config st.InField fields field (w ++ rest) ≡ next_record default_config st.InField fields (field ++ w) rest
copied [] rest fields field e = ap (λ (bs : List ℕ). next_record default_config st.InField fields bs rest) (sym (append-nil field))
copied (c ∷ w) rest fields field e =
    let parts = and_parts (is_name_byte c) (list_all is_name_byte w) e in
    one_copied st.InField fields field c (w ++ rest) (copies c parts.0) ∙ copied w rest fields (field ++ c ∷ []) parts.1
    ∙ ap (λ (bs : List ℕ). next_record default_config st.InField fields bs rest) (append_assoc field (c ∷ []) w)

first_copied : (w rest : List ℕ) → IsCell w → next_record default_config st.StartRecord [] [] (w ++ rest) ≡ next_record default_config st.InField [] w rest
first_copied [] rest is = absurd (omega (arith, is.some))
first_copied (c ∷ w) rest is =
    let parts = and_parts (is_name_byte c) (list_all is_name_byte w) is.bytes in
    one_copied st.StartRecord [] [] c (w ++ rest) (starts_record c parts.0) ∙ copied w rest [] (c ∷ []) parts.1

second_copied : (fields : List (List ℕ)) (w rest : List ℕ) → IsCell w → next_record default_config st.StartField fields [] (w ++ rest) ≡ next_record default_config st.InField fields w rest
second_copied fields [] rest is = absurd (omega (arith, is.some))
second_copied fields (c ∷ w) rest is =
    let parts = and_parts (is_name_byte c) (list_all is_name_byte w) is.bytes in
    one_copied st.StartField fields [] c (w ++ rest) (starts_field c parts.0) ∙ copied w rest fields (c ∷ []) parts.1

parted : (fields : List (List ℕ)) (field rest : List ℕ) → next_record default_config st.InField fields field (44 ∷ rest) ≡ next_record default_config st.StartField (fields ++ field ∷ []) [] rest
unfolding next_record
parted fields field rest = refl

closed : (fields : List (List ℕ)) (field rest : List ℕ) → next_record default_config st.InField fields field (10 ∷ rest) ≡ Some (fields ++ field ∷ [], st.StartRecord, rest)
unfolding next_record
closed fields field rest = refl

row_read : (n : TwoNames) (rest : List ℕ) → IsRow n → next_record default_config st.StartRecord [] [] (row_text n ++ rest) ≡ Some (cells_of n, st.StartRecord, rest)
row_read n rest is =
    ap (λ (bs : List ℕ). next_record default_config st.StartRecord [] [] bs) (append_assoc n.a (44 ∷ (n.b ++ 10 ∷ [])) rest)
    ∙ first_copied n.a (44 ∷ ((n.b ++ 10 ∷ []) ++ rest)) is.0
    ∙ parted [] n.a ((n.b ++ 10 ∷ []) ++ rest)
    ∙ ap (λ (bs : List ℕ). next_record default_config st.StartField (n.a ∷ []) [] bs) (append_assoc n.b (10 ∷ []) rest)
    ∙ second_copied (n.a ∷ []) n.b (10 ∷ rest) is.1
    ∙ closed (n.a ∷ []) n.b rest

-- ---- all records

abbrev pub rows_text : List TwoNames → List ℕ
rows_text ns = flat_map row_text ns

reached : (ns : List TwoNames) → AllByRecursion IsRow ns → Reached default_config st.StartRecord (rows_text ns) (map cells_of ns) st.StartRecord []
unfolding Reached
reached [] are = (refl, refl)
reached (n ∷ ns) are = ((cells_of n, st.StartRecord, rows_text ns), row_read n (rows_text ns) are.0, refl, reached ns are.1)

none_after : next_record default_config st.StartRecord [] [] [] ≡ None
unfolding next_record
none_after = refl

pub rows_read : (ns : List TwoNames) → AllByRecursion IsRow ns → records default_config (rows_text ns) ≡ map cells_of ns
rows_read ns are = sym (are_the_records default_config (rows_text ns) (map cells_of ns) (st.StartRecord, [], reached ns are, none_after))

-- ---- the end of the text

ended_behind : (xs ys : List ℕ) → 0 < length ys → is_ended ys ≡ true → is_ended (xs ++ ys) ≡ true
ended_behind xs ys some e =
    let place : length (xs ++ ys) - 1 ≡ length xs + (length ys - 1) = omega (arith, length-append xs ys) in
    ap (λ (i : ℕ). eqb (get_or (xs ++ ys) i 10) 10) place ∙ ap (λ (b : ℕ). eqb b 10) (get_or-append-add xs ys (length ys - 1) 10) ∙ e

row_ended : (n : TwoNames) → is_ended (row_text n) ≡ true
row_ended n = ended_behind n.a (44 ∷ (n.b ++ 10 ∷ [])) (omega arith) (ended_behind (44 ∷ n.b) (10 ∷ []) (omega arith) refl)

row_filled : (n : TwoNames) (rest : List ℕ) → 0 < length (row_text n ++ rest)
row_filled n rest = omega (arith, length-append (row_text n) rest, length-append n.a (44 ∷ (n.b ++ 10 ∷ [])))

rows_ended : (ns : List TwoNames) → is_ended (rows_text ns) ≡ true
rows_ended [] = refl
rows_ended (n ∷ []) = ap is_ended (append-nil (row_text n)) ∙ row_ended n
rows_ended (n ∷ m ∷ ns) = ended_behind (row_text n) (rows_text (m ∷ ns)) (row_filled m (rows_text ns)) (rows_ended (m ∷ ns))

pub ended_is : (ns : List TwoNames) → ended (rows_text ns) ≡ rows_text ns
ended_is ns = ap (λ (b : Bool). cond b (rows_text ns) (rows_text ns ++ 10 ∷ [])) (rows_ended ns)

-- ---- blanks

no_blank : (b : ℕ) → is_name_byte b ≡ true → is_blank b ≡ false
no_blank b e = rw (not_byte 32 refl b e, not_byte 9 refl b e) refl

not_stripped : (w : List ℕ) → list_all is_name_byte w ≡ true → after_blanks w ≡ w
not_stripped [] e = refl
not_stripped (b ∷ bs) e = rw (no_blank b (and_parts (is_name_byte b) (list_all is_name_byte bs) e).0) refl

all_reversed : (w : List ℕ) → list_all is_name_byte w ≡ true → list_all is_name_byte (reverse w) ≡ true
all_reversed [] e = refl
all_reversed (b ∷ bs) e =
    let parts = and_parts (is_name_byte b) (list_all is_name_byte bs) e in
    ap (list_all is_name_byte) (reverse-append (b ∷ []) bs) ∙ bytes_append is_name_byte (reverse bs) (b ∷ []) (all_reversed bs parts.1) (rw parts.0 refl)

not_trimmed : (w : List ℕ) → list_all is_name_byte w ≡ true → trimmed w ≡ w
not_trimmed w e =
    ap (λ (bs : List ℕ). reverse (after_blanks (reverse bs))) (not_stripped w e) ∙ ap reverse (not_stripped (reverse w) (all_reversed w e)) ∙ reverse-reverse w

pub all_trimmed : (ns : List TwoNames) → AllByRecursion IsRow ns → map (map trimmed) (map cells_of ns) ≡ map cells_of ns
all_trimmed [] are = refl
all_trimmed (n ∷ ns) are = ap₂ (λ (x : List (List ℕ)) (xs : List (List (List ℕ))). x ∷ xs) (ap₂ (λ (x y : List ℕ). x ∷ y ∷ []) (not_trimmed n.a are.0.0.bytes) (not_trimmed n.b are.0.1.bytes)) (all_trimmed ns are.1)
