-- The words of the patterns that the generator makes.
use Rattle.std.proofs.Common.{◌≡◌, ℕ, zero, suc, ◌+◌, ◌*◌, ◌<◌, ◌≤◌, Bool, true, false, not, ◌&&◌, cond, ltb, List, [], ◌∷◌, ◌++◌, length, map, refl, ap, ◌∙◌, append_assoc, arith}
use Rattle.std.specs.Prelude.{flat_map, codes}
use Rattle.std.specs.List.{list_any, list_all, range_with_len}
use Rattle.std.proofs.lemmas.Bool.{eq-eqb}
use Rattle.std.proofs.lemmas.Bool.Decides.{nat_tests}
use Rattle.std.proofs.lemmas.List.{length-map}
use Rattle.std.proofs.lemmas.List.FromFn.{length-range_with_len}
use Rattle.scan_model.specs.Words.{is_name_byte, is_filled}
use Rattle.scan_model.specs.ReportText.{line}
use Rattle.scan_model.specs.PatternText.{is_value, have_lengths}
use Rattle.diag_report.proofs.PlainWords.{IsLine, AreNames}
use Rattle.made_laws.specs.Draws.{draw}
use Rattle.made_laws.specs.MadeScan.{chain_count, chain_blocks}
use Rattle.made_laws.specs.MadePatterns.{is_shift, drawn_digits, load_words, shift_line, capture_line, first_draw, pattern_line}
use Rattle.made_laws.proofs.MadePlans.{drawn_below}
use Rattle.made_laws.proofs.MadeChains.{some_blocks}
use Rattle.made_laws.proofs.WordTexts.{spaced_is, all_map_range, flat_map_range}

-- ---- digits

name_digit : (d : ℕ) → d < 2 → is_name_byte (48 + d) ≡ true
name_digit zero lt = refl
name_digit (suc zero) lt = refl
name_digit (suc (suc d)) lt = absurd (omega arith)

value_digit : (d : ℕ) → d < 2 → is_value (48 + d) ≡ true
value_digit zero lt = refl
value_digit (suc zero) lt = refl
value_digit (suc (suc d)) lt = absurd (omega arith)

all_digits : (test : ℕ → Bool) → ((d : ℕ) → d < 2 → test (48 + d) ≡ true) → (seed i count : ℕ) → list_all test (drawn_digits seed i count) ≡ true
all_digits test each seed i zero = refl
all_digits test each seed i (suc n) = rw (each (draw seed i 2) (drawn_below seed i 2 (omega arith)), all_digits test each seed (i + 1) n) refl

pub digit_values : (seed i count : ℕ) → list_all is_value (drawn_digits seed i count) ≡ true
digit_values seed i count = all_digits is_value value_digit seed i count

pub digit_count : (seed i count : ℕ) → length (drawn_digits seed i count) ≡ count
digit_count seed i count = length-map (range_with_len i count) (λ j. 48 + draw seed j 2) ∙ length-range_with_len i count

is_word : (seed i count : ℕ) → 0 < count → (is_filled (drawn_digits seed i count) && list_all is_name_byte (drawn_digits seed i count)) ≡ true
is_word seed i count some =
    let size = digit_count seed i count in
    let more : 0 < length (drawn_digits seed i count) = omega arith in
    let filled : is_filled (drawn_digits seed i count) ≡ true = grind (arith, nat_tests) in
    rw (filled, all_digits is_name_byte name_digit seed i count) refl

-- ---- words

-- the loads, where draw i is the first of them
abbrev pub loads : ℕ → ℕ → ℕ → List (List ℕ)
loads seed blocks i = map (λ h. drawn_digits seed (i + 125 * h) (5 * chain_blocks blocks h)) (range_with_len 0 (chain_count blocks))

abbrev pub shift_words : ℕ → ℕ → ℕ → List (List ℕ)
shift_words seed blocks i = codes "SHIFT" ∷ loads seed blocks i

abbrev pub capture_words : ℕ → ℕ → ℕ → List (List ℕ)
capture_words seed blocks i = codes "CAPTURE" ∷ drawn_digits seed i (10 * blocks) ∷ loads seed blocks (i + 10 * blocks)

abbrev pub pattern_words : ℕ → ℕ → ℕ → List (List ℕ)
pattern_words seed blocks p = cond (is_shift p) (shift_words seed blocks (first_draw blocks p)) (capture_words seed blocks (first_draw blocks p))

-- what holds of both kinds of words holds of a pattern's
pub of_words : (P : List (List ℕ) → Type 0) (seed blocks p : ℕ) → P (shift_words seed blocks (first_draw blocks p)) → P (capture_words seed blocks (first_draw blocks p)) → P (pattern_words seed blocks p)
of_words P seed blocks p shift capture = go (is_shift p)
  where
    go : (b : Bool) → P (cond b (shift_words seed blocks (first_draw blocks p)) (capture_words seed blocks (first_draw blocks p)))
    go true = shift
    go false = capture

loads_text : (seed blocks i : ℕ) → flat_map (λ v. 32 ∷ v) (loads seed blocks i) ≡ load_words seed blocks i
loads_text seed blocks i = flat_map_range (λ v. 32 ∷ v) (λ h. drawn_digits seed (i + 125 * h) (5 * chain_blocks blocks h)) 0 (chain_count blocks)

shift_is : (seed blocks i : ℕ) → line (shift_words seed blocks i) ≡ shift_line seed blocks i
shift_is seed blocks i = ap (λ (bs : List ℕ). bs ++ 10 ∷ []) (spaced_is (codes "SHIFT") (loads seed blocks i) ∙ ap (λ (bs : List ℕ). codes "SHIFT" ++ bs) (loads_text seed blocks i))

capture_is : (seed blocks i : ℕ) → line (capture_words seed blocks i) ≡ capture_line seed blocks i
capture_is seed blocks i =
    let digits : List ℕ = drawn_digits seed i (10 * blocks) in
    ap (λ (bs : List ℕ). (codes "CAPTURE " ++ bs) ++ 10 ∷ []) (spaced_is digits (loads seed blocks (i + 10 * blocks)) ∙ ap (λ (bs : List ℕ). digits ++ bs) (loads_text seed blocks (i + 10 * blocks)))
    ∙ ap (λ (bs : List ℕ). codes "CAPTURE " ++ bs) (append_assoc digits (load_words seed blocks (i + 10 * blocks)) (10 ∷ []))

pub line_is : (seed blocks p : ℕ) → line (pattern_words seed blocks p) ≡ pattern_line seed blocks p
line_is seed blocks p = go (is_shift p)
  where
    go : (b : Bool) → line (cond b (shift_words seed blocks (first_draw blocks p)) (capture_words seed blocks (first_draw blocks p))) ≡ cond b (shift_line seed blocks (first_draw blocks p)) (capture_line seed blocks (first_draw blocks p))
    go true = shift_is seed blocks (first_draw blocks p)
    go false = capture_is seed blocks (first_draw blocks p)

module _ (seed blocks : ℕ) (some : 0 < blocks) (few : blocks ≤ 200) where
  load_names : (i : ℕ) → AreNames (loads seed blocks i)
  load_names i = all_map_range (λ w. (is_filled w && list_all is_name_byte w) ≡ true) (λ h. drawn_digits seed (i + 125 * h) (5 * chain_blocks blocks h)) 0 (chain_count blocks)
      (λ h low high. is_word seed (i + 125 * h) (5 * chain_blocks blocks h) (omega (arith, some_blocks blocks few h (omega arith))))

  one_or_more : (ws : List (List ℕ)) → ltb 0 (suc (length ws)) ≡ true
  one_or_more ws = grind (arith, nat_tests)

  pub is_line : (p : ℕ) → IsLine (pattern_words seed blocks p)
  is_line p =
      let i : ℕ = first_draw blocks p in
      of_words IsLine seed blocks p (one_or_more (loads seed blocks i), (refl, load_names i))
      (one_or_more (drawn_digits seed i (10 * blocks) ∷ loads seed blocks (i + 10 * blocks)), (refl, (is_word seed i (10 * blocks) (omega arith), load_names (i + 10 * blocks))))

-- ---- lengths and values

pub load_count : (seed blocks i : ℕ) → length (loads seed blocks i) ≡ chain_count blocks
load_count seed blocks i = length-map (range_with_len 0 (chain_count blocks)) (λ h. drawn_digits seed (i + 125 * h) (5 * chain_blocks blocks h)) ∙ length-range_with_len 0 (chain_count blocks)

pub loads_fit : (seed blocks i : ℕ) → have_lengths (map (λ h. 5 * chain_blocks blocks h) (range_with_len 0 (chain_count blocks))) (loads seed blocks i) ≡ true
loads_fit seed blocks i = go 0 (chain_count blocks)
  where
    go : (a n : ℕ) → have_lengths (map (λ h. 5 * chain_blocks blocks h) (range_with_len a n)) (map (λ h. drawn_digits seed (i + 125 * h) (5 * chain_blocks blocks h)) (range_with_len a n)) ≡ true
    go a zero = refl
    go a (suc n) = rw (digit_count seed (i + 125 * a) (5 * chain_blocks blocks a), eq-eqb (5 * chain_blocks blocks a) (5 * chain_blocks blocks a) refl) (go (a + 1) n)

pub loads_valued : (seed blocks i : ℕ) → list_any (λ w. not (list_all is_value w)) (loads seed blocks i) ≡ false
loads_valued seed blocks i = go 0 (chain_count blocks)
  where
    go : (a n : ℕ) → list_any (λ w. not (list_all is_value w)) (map (λ h. drawn_digits seed (i + 125 * h) (5 * chain_blocks blocks h)) (range_with_len a n)) ≡ false
    go a zero = refl
    go a (suc n) = rw (digit_values seed (i + 125 * a) (5 * chain_blocks blocks a)) (go (a + 1) n)
