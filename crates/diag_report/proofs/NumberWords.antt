-- Numbers in decimal digits as number words.
use Rattle.std.proofs.Common.{◌≡◌, ℕ, ◌+◌, ◌-◌, ◌*◌, ◌^◌, ◌<◌, Bool, true, not, ◌&&◌, ◌||◌, cond, eqb, ltb, leb, List, [], ◌∷◌, length, get_or, Some, None, refl, ap, ◌∙◌, inl, inr, arith}
use Rattle.std.specs.Prelude.{decimal, fold}
use Rattle.std.specs.Fmt.{digits}
use Rattle.std.specs.List.{list_all}
use Rattle.std.proofs.lemmas.Bool.{cases_Bool, cases_lt, eqb-true, eq-eqb, ne_eqb}
use Rattle.std.proofs.lemmas.Bool.Decides.{nat_tests}
use Rattle.std.proofs.lemmas.Fmt.{digits_decimal, digits_value-decimal, decimal_is_IsNumeral, first_decimal}
use Rattle.std.proofs.lemmas.Str.Parse.{IsDigitsTest, FoldsDigits, IsNumeralModel, numerals_by_fold}
use Rattle.scan_model.specs.Words.{is_digit, is_numeral, digits_number, number_of, is_filled, is_name_byte}
use Rattle.diag_report.specs.PredictedLog.{is_word_name}
use Rattle.diag_report.proofs.Bools.{left_true, right_true, both_true}

abbrev AreDigits : List ℕ → Type 0
AreDigits ds = list_all is_digit ds ≡ true

tells : IsDigitsTest AreDigits
tells = record {
  empty = refl;
  parts = λ c cs e.
      let digit : (leb 48 c && leb c 57) ≡ true = left_true (leb 48 c && leb c 57) (list_all is_digit cs) e in
      ((grind (arith, nat_tests, left_true (leb 48 c) (leb c 57) digit), grind (arith, nat_tests, right_true (leb 48 c) (leb c 57) digit)), right_true (is_digit c) (list_all is_digit cs) e);
  more = λ c cs range e. both_true (is_digit c) (list_all is_digit cs) (both_true (leb 48 c) (leb c 57) (grind (arith, nat_tests, range.0)) (grind (arith, nat_tests, range.1))) e;
}

folds : FoldsDigits (λ n ds. fold (λ m b. m * 10 + (b - 48)) n ds)
folds = record { empty = λ n. refl; more = λ n c cs range. refl }

model : IsNumeralModel AreDigits digits_number
model = numerals_by_fold AreDigits tells (λ n ds. fold (λ m b. m * 10 + (b - 48)) n ds) folds

pub decimal_digits : (n : ℕ) → n < 2 ^ 64 → list_all is_digit (decimal n) ≡ true
decimal_digits n wide = digits_decimal model n wide

decimal_zero : decimal 0 ≡ 48 ∷ []
unfolding digits
decimal_zero = refl

one_zero : (n : ℕ) → n < 2 ^ 64 → get_or (decimal n) 0 0 ≡ 48 → length (decimal n) ≡ 1
one_zero n small e = elim (cases_lt 0 n) [
  | inl some ↦ absurd (omega (arith, first_decimal n some small, e))
  | inr le ↦ let none : n ≡ 0 = omega arith in ap (λ (m : ℕ). length (decimal m)) none ∙ ap length decimal_zero
]

numeral : (ds : List ℕ) → AreDigits ds → 0 < length ds → (get_or ds 0 0 ≡ 48 → length ds ≡ 1) → is_numeral ds ≡ true
numeral [] all some first = absurd (omega arith)
numeral (b ∷ bs) all some first =
    both_true (is_digit b) (list_all is_digit bs && (not (eqb b 48) || eqb (length bs) 0)) (left_true (is_digit b) (list_all is_digit bs) all)
    (both_true (list_all is_digit bs) (not (eqb b 48) || eqb (length bs) 0) (right_true (is_digit b) (list_all is_digit bs) all) (elim (cases_Bool (eqb b 48)) [
      | inl zero_first ↦ rw (zero_first, eq-eqb (length bs) 0 (omega (arith, first (eqb-true b 48 zero_first)))) refl
      | inr other ↦ rw other refl
    ]))

pub number_back : (n : ℕ) → n < 4294967296 → number_of (decimal n) ≡ Some n
number_back n small =
    let wide : n < 2 ^ 64 = omega arith in
    let word : is_numeral (decimal n) ≡ true = numeral (decimal n) (digits_decimal model n wide) (decimal_is_IsNumeral n wide).0.0 (one_zero n wide) in
    let value : digits_number (decimal n) ≡ n = digits_value-decimal model n wide in
    let below : ltb n 4294967296 ≡ true = grind (arith, nat_tests, small) in
    ap (λ (b : Bool). cond (b && ltb (digits_number (decimal n)) 4294967296) (Some (digits_number (decimal n))) None) word
    ∙ ap (λ (m : ℕ). cond (ltb m 4294967296) (Some m) None) value ∙ ap (λ (b : Bool). cond b (Some n) None) below

digit_byte : (b : ℕ) → is_digit b ≡ true → is_name_byte b ≡ true
digit_byte b e = grind (arith, nat_tests, e)

digit_bytes : (ds : List ℕ) → AreDigits ds → list_all is_name_byte ds ≡ true
digit_bytes [] e = refl
digit_bytes (b ∷ bs) e = both_true (is_name_byte b) (list_all is_name_byte bs) (digit_byte b (left_true (is_digit b) (list_all is_digit bs) e)) (digit_bytes bs (right_true (is_digit b) (list_all is_digit bs) e))

pub decimal_is_name : (n : ℕ) → n < 2 ^ 64 → is_word_name (decimal n) ≡ true
decimal_is_name n wide =
    let some : 0 < length (decimal n) = (decimal_is_IsNumeral n wide).0.0 in
    both_true (is_filled (decimal n)) (list_all is_name_byte (decimal n)) (ap not (ne_eqb (length (decimal n)) 0 (λ none. absurd (omega (arith, some, none))))) (digit_bytes (decimal n) (digits_decimal model n wide))
