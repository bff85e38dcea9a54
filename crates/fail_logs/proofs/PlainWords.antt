-- Plain words at the front of a line, and the fail lines that they make.
use Rattle.std.proofs.Common.{◌≡◌, ℕ, ◌+◌, ◌<◌, ◌≤◌, ◌^◌, ◌||◌, suc, true, false, not, List, [], ◌∷◌, ◌++◌, length, take, drop, Some, None, refl, sym, ap, ◌∙◌, arith, length-take}
use Rattle.std.specs.Prelude.{nat_lt, if◌then◌else◌, codes, bytes_eq}
use Rattle.std.specs.List.{list_all}
use Rattle.std.proofs.lemmas.Bool.{and_parts, and_from}
use Rattle.std.proofs.lemmas.Bool.Decides.{nat_tests}
use Rattle.std.proofs.lemmas.List.{take-append-drop}
use Rattle.std.proofs.lemmas.List.Folds.{list_any-append}
use Rattle.scan_model.specs.Lines.{is_accepted, has_refused_byte}
use Rattle.scan_model.specs.declared.logs.LogForm.{LogForm}
use Rattle.scan_model.specs.declared.logs.LogForm.TheVariants.{FailLog, CompactLog}
use Rattle.scan_model.specs.LogText.{out_line, cell_line, other_line, cell_word, log_line}
use Rattle.scan_model.specs.Words.{words, has_words, is_digit, is_numeral, digits_number, number_of}
use Rattle.text_parts.specs.FirstWord.{is_word_end}
use Rattle.text_parts.proofs.FirstWord.{word_len, first_word_is}
use Rattle.fail_logs.specs.PlainLines.{is_plain, EndsWord, BeginsWith, IsPlainFail}

plain_accepted : (b : ℕ) → is_plain b ≡ true → is_accepted b ≡ true
plain_accepted b e = grind (arith, nat_tests, e)

plain_no_end : (b : ℕ) → is_plain b ≡ true → is_word_end b ≡ false
plain_no_end b e = grind (arith, nat_tests, e)

digit_plain : (b : ℕ) → is_digit b ≡ true → is_plain b ≡ true
digit_plain b e = grind (arith, nat_tests, e)

pub digits_plain : (w : List ℕ) → list_all is_digit w ≡ true → list_all is_plain w ≡ true
digits_plain [] e = refl
digits_plain (b ∷ bs) e =
    let parts = and_parts (is_digit b) (list_all is_digit bs) e in
    and_from (is_plain b) (list_all is_plain bs) (digit_plain b parts.0) (digits_plain bs parts.1)

none_refused : (w : List ℕ) → list_all is_plain w ≡ true → has_refused_byte w ≡ false
none_refused [] e = refl
none_refused (b ∷ bs) e =
    let parts = and_parts (is_plain b) (list_all is_plain bs) e in
    rw (plain_accepted b parts.0) (none_refused bs parts.1)

len_is : (w rest : List ℕ) → list_all is_plain w ≡ true → word_len rest ≡ 0 → word_len (w ++ rest) ≡ length w
len_is [] rest e ends = ends
len_is (b ∷ bs) rest e ends =
    let parts = and_parts (is_plain b) (list_all is_plain bs) e in
    let next : 1 + word_len (bs ++ rest) ≡ suc (length bs) = omega (arith, len_is bs rest parts.1 ends) in
    rw (plain_no_end b parts.0) next

-- plain bytes that end where a space or nothing follows are the first word
pub begins : (line after : List ℕ) (n : ℕ) → 0 < n → n ≤ length line → list_all is_plain (take n line) ≡ true → EndsWord (drop n line) after → BeginsWith line (take n line) after
begins line after n some within plain end =
    let whole : take n line ++ drop n line ≡ line = take-append-drop n line in
    let long : length (take n line) ≡ n = omega (arith, within, length-take n line) in
    let len : word_len line ≡ n = ap word_len (sym whole) ∙ len_is (take n line) (drop n line) plain end.ends ∙ long in
    let first = first_word_is line (omega (arith, len, some)) in
    let none = none_refused (take n line) plain in
    record {
      words = first.words ∙ ap (λ k. take k line ∷ words (drop k line)) len ∙ ap (λ ws. take n line ∷ ws) end.words;
      refused = ap has_refused_byte (sym whole) ∙ list_any-append (λ b. not (is_accepted b)) (take n line) (drop n line) ∙ ap (λ c. c || has_refused_byte (drop n line)) none ∙ end.refused;
    }

pub filled_numeral : (w : List ℕ) → is_numeral w ≡ true → 0 < length w
filled_numeral [] e = absurd cc
filled_numeral (b ∷ bs) e = omega arith

pub number_is : (w : List ℕ) → is_numeral w ≡ true → digits_number w < 2 ^ 32 → number_of w ≡ Some (digits_number w)
number_is w e small =
    let least : nat_lt (digits_number w) (2 ^ 32) ≡ true = grind (arith, nat_tests, small) in
    ap (λ c. if c then Some (digits_number w) else None) (and_from (is_numeral w) (nat_lt (digits_number w) (2 ^ 32)) e least)

pub empty_is : (r : List ℕ) → length r ≡ 0 → r ≡ []
empty_is [] e = refl
empty_is (b ∷ bs) e = absurd (omega (arith, e))

pub fail_of_output : (form : LogForm) (line r1 r2 r3 r4 p n : List ℕ) → BeginsWith line (codes "fail") r1 → BeginsWith r1 p r2 → BeginsWith r2 (codes "out") r3 → BeginsWith r3 n r4 → r4 ≡ [] → IsPlainFail form line (out_line p n)
fail_of_output form line r1 r2 r3 r4 p n a b c d empty =
    let ws : words line ≡ codes "fail" ∷ p ∷ codes "out" ∷ n ∷ [] =
    a.words ∙ ap (λ ws. codes "fail" ∷ ws) (b.words ∙ ap (λ ws. p ∷ ws) (c.words ∙ ap (λ ws. codes "out" ∷ ws) (d.words ∙ ap (λ r. n ∷ words r) empty))) in
    record {
      accepted = a.refused ∙ b.refused ∙ c.refused ∙ d.refused ∙ ap has_refused_byte empty;
      filled = ap has_words ws;
      read = λ version. ap (log_line form version) ws;
    }

same_word : (form : LogForm) → bytes_eq (cell_word form) (cell_word form) ≡ true
same_word FailLog = refl
same_word CompactLog = refl

pub fail_of_cell : (form : LogForm) (line r1 r2 r3 r4 r5 p h w : List ℕ) → BeginsWith line (codes "fail") r1 → BeginsWith r1 p r2 → BeginsWith r2 (cell_word form) r3 → BeginsWith r3 h r4 → BeginsWith r4 w r5 → r5 ≡ [] → IsPlainFail form line (cell_line p h w)
fail_of_cell form line r1 r2 r3 r4 r5 p h w a b c d e empty =
    let ws : words line ≡ codes "fail" ∷ p ∷ cell_word form ∷ h ∷ w ∷ [] =
    a.words ∙ ap (λ ws. codes "fail" ∷ ws) (b.words ∙ ap (λ ws. p ∷ ws) (c.words ∙ ap (λ ws. cell_word form ∷ ws) (d.words ∙ ap (λ ws. h ∷ ws) (e.words ∙ ap (λ r. w ∷ words r) empty)))) in
    record {
      accepted = a.refused ∙ b.refused ∙ c.refused ∙ d.refused ∙ e.refused ∙ ap has_refused_byte empty;
      filled = ap has_words ws;
      read = λ version. ap (log_line form version) ws ∙ ap (λ b. if b then cell_line p h w else other_line) (same_word form);
    }
