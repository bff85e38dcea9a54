-- Rows and words of what places show: one more of them, and all words as the expected values.
use Rattle.std.proofs.Common.{◌≡◌, refl, ℕ, ◌+◌, ◌*◌, ◌/◌, ◌%◌, ◌<◌, List, [], ◌∷◌, ◌++◌, length, get_or, sym, ap, ◌∙◌, inl, inr, arith}
use Rattle.std.specs.Prelude.{All, bit_or, if◌then◌else◌, ◌==◌, ◌||◌}
use Rattle.std.specs.Int.{bit_at}
use Rattle.std.proofs.lemmas.Bool.{cases_eq}
use Rattle.std.proofs.lemmas.List.{get_or_push, get_or_append_left, length_push}
use Rattle.std.proofs.lemmas.Nat.{same_from_place}
use Rattle.scan_model.specs.declared.values.Tri.{Tri}
use Rattle.scan_model.specs.declared.values.Tri.TheVariants.{Zero, One, Unknown}
use Rattle.scan_model.specs.Values.{is_zero, is_one}
use Rattle.scan_model.specs.BitTable.{table_rows}
use Rattle.scan_model.specs.ChainShift.{value_at}
use Rattle.scan_model.proofs.BitTables.{place_inside, tables_are, bit_of_or}
use Rattle.lane_rows.specs.Planes.{Planes, held}
use Rattle.lane_rows.specs.Sources.{no_planes}
use Rattle.lane_rows.specs.GoodRows.{pattern_of}
use Rattle.expected_values.specs.declared.expected.ResponseWords.{ResponseWords}
use Rattle.expected_values.specs.ResponseWords.{AreResponseWords, ShowsBlock}

-- a value behind others
module _ {X : Type 0} (values more : List X) (added d : X) (n : ℕ) (len : length values ≡ n) (is : more ≡ values ++ added ∷ []) where
  pub one_longer : length more ≡ n + 1
  one_longer = ap length is ∙ length_push values added ∙ ap (λ (m : ℕ). m + 1) len

  pub last_value : (place : ℕ) → place ≡ n → get_or more place d ≡ added
  last_value place at = ap (λ (xs : List X). get_or xs place d) is ∙ get_or_push values added d place (len ∙ sym at)

  pub earlier_value : (place : ℕ) → place < n → get_or more place d ≡ get_or values place d
  earlier_value place lt = ap (λ (xs : List X). get_or xs place d) is ∙ get_or_append_left values (added ∷ []) d place (omega (arith, len, lt))

-- what one more place shows in a block
pub one_more_row : (table : List (List Tri)) (k b : ℕ) (rows more : List Planes) (row : Planes) → ShowsBlock table k b rows → more ≡ rows ++ row ∷ []
    → ((j : ℕ) → j < 512 → pattern_of b j < length table → held row j ≡ value_at (get_or table (pattern_of b j) []) k) → ShowsBlock table (k + 1) b more
one_more_row table k b rows more row before is shows = record {
  len = one_longer rows more row no_planes k before.len is;
  value = λ j q lane_in in_rows there. elim (cases_eq q k) [
    | inl same ↦ rw (last_value rows more row no_planes k before.len is q same, same) (shows j lane_in there)
    | inr apart ↦
        let lt : q < k = omega (arith, in_rows, apart) in
        rw (earlier_value rows more row no_planes k before.len is q lt) (before.value j q lane_in lt there)
  ];
}

-- the value in pattern i of a word, from what is known and what is 1 in it
abbrev pub value_in : ℕ → ℕ → ℕ → Tri
value_in known ones i = if bit_at known i == 1 then (if bit_at ones i == 1 then One else Zero) else Unknown

-- a value is known where it is 1 or 0
value_of_its_bits : (v : Tri) → (if is_zero v || is_one v then (if is_one v then One else Zero) else Unknown) ≡ v
value_of_its_bits Zero = refl
value_of_its_bits One = refl
value_of_its_bits Unknown = refl

pub word_shows : (ones zeros i : ℕ) (v : Tri) → (bit_at ones i == 1) ≡ is_one v → (bit_at zeros i == 1) ≡ is_zero v → value_in (bit_or ones zeros) ones i ≡ v
word_shows ones zeros i v one zero = rw (bit_of_or ones zeros i, one, zero) (value_of_its_bits v)

-- what a place shows in the 64 patterns of a word, behind what the places before it show
pub one_more : (table : List (List Tri)) (places : ℕ) (words more : ResponseWords) (word k known ones : ℕ) → k < places
    → AreResponseWords table places (word * places + k) words → more.known ≡ words.known ++ known ∷ [] → more.ones ≡ words.ones ++ ones ∷ []
    → ((i : ℕ) → i < 64 → 64 * word + i < length table → value_in known ones i ≡ value_at (get_or table (64 * word + i) []) k)
    → AreResponseWords table places (word * places + (k + 1)) more
one_more table places words more word k known ones in_places before is_known is_ones shows =
    let n = word * places + k in
    record {
      known = omega (arith, one_longer words.known more.known known 0 n before.known is_known);
      ones = omega (arith, one_longer words.ones more.ones ones 0 n before.ones is_ones);
      value = λ w j there in_row inside.
          let place = w / 64 * places + j in
          elim (cases_eq place n) [
            | inl same ↦
                let both = same_from_place (w / 64) j word k places in_row in_places same in
                let pattern : 64 * word + w % 64 ≡ w = omega (arith, both.0) in
                rw (last_value words.known more.known known 0 n before.known is_known place same, last_value words.ones more.ones ones 0 n before.ones is_ones place same)
                (shows (w % 64) (omega arith) (omega (arith, pattern, there))
                ∙ ap (λ (v : ℕ). value_at (get_or table v []) k) pattern ∙ ap (value_at (get_or table w [])) (sym both.1))
            | inr apart ↦
                let lt : place < n = omega (arith, inside, apart) in
                rw (earlier_value words.known more.known known 0 n before.known is_known place lt, earlier_value words.ones more.ones ones 0 n before.ones is_ones place lt)
                (before.value w j there in_row lt)
          ];
    }

-- all words are the expected values
pub words_are : (table : List (List Tri)) (patterns places : ℕ) (words : ResponseWords) → length table ≡ patterns → All (λ row. length row ≡ places) table
    → AreResponseWords table places ((patterns + 63) / 64 * places) words → table_rows words.known words.ones patterns places ≡ table
words_are table patterns places words len whole shown =
    ap (λ (n : ℕ). table_rows words.known words.ones n places) (sym len)
    ∙ tables_are words.known words.ones places table whole
    (λ w k in_rows in_places.
    let there : w < patterns = omega (arith, in_rows, len) in
    shown.value w k in_rows in_places (place_inside patterns places w k there in_places))
