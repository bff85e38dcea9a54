-- Texts of lines of words, one for each number of a range.
use Rattle.std.proofs.Common.{◌≡◌, ℕ, zero, suc, ◌+◌, ◌<◌, ◌≤◌, false, List, [], ◌∷◌, ◌++◌, length, map, take, get_or, refl, sym, ap, ap₂, ◌∙◌, append-nil, arith}
use Rattle.std.specs.Prelude.{flat_map}
use Rattle.std.specs.List.{AllByRecursion, range_with_len}
use Rattle.std.proofs.lemmas.List.{length-map}
use Rattle.std.proofs.lemmas.List.FromFn.{length-range_with_len, take-map-range_with_len}
use Rattle.scan_model.specs.Lines.{text_lines, line_at, has_refused_byte}
use Rattle.scan_model.specs.Words.{words, word_lines}
use Rattle.scan_model.specs.ReportText.{spaced, line, concatenated}
use Rattle.diag_report.proofs.PlainWords.{IsLine, AreLines, lines_back, words_of_line, word_lines_back, none_refused}

-- words after the first, each after a space
pub spaced_is : (w : List ℕ) (ws : List (List ℕ)) → spaced (w ∷ ws) ≡ w ++ flat_map (λ v. 32 ∷ v) ws
spaced_is w [] = sym (append-nil w)
spaced_is w (v ∷ ws) = ap (λ (bs : List ℕ). w ++ (32 ∷ bs)) (spaced_is v ws)

-- ---- ranges

pub all_map_range : {X : Type 0} (P : X → Type 0) (f : ℕ → X) (a n : ℕ) → ((x : ℕ) → a ≤ x → x < a + n → P (f x)) → AllByRecursion P (map f (range_with_len a n))
all_map_range P f a zero each = tt
all_map_range P f a (suc n) each = (each a (omega arith) (omega arith), all_map_range P f (a + 1) n (λ x low high. each x (omega arith) (omega arith)))

pub map_twice : {X Y : Type 0} (g : X → Y) (f : ℕ → X) (a n : ℕ) → map g (map f (range_with_len a n)) ≡ map (λ x. g (f x)) (range_with_len a n)
map_twice g f a zero = refl
map_twice g f a (suc n) = ap (λ ys. g (f a) ∷ ys) (map_twice g f (a + 1) n)

pub at_range : {X : Type 0} (g : ℕ → X) (d : X) (a n i : ℕ) → i < n → get_or (map g (range_with_len a n)) i d ≡ g (a + i)
at_range g d a zero i lt = absurd (omega arith)
at_range g d a (suc n) zero lt = let e : a ≡ a + 0 = omega arith in ap g e
at_range g d a (suc n) (suc i) lt = let e : (a + 1) + i ≡ a + suc i = omega arith in at_range g d (a + 1) n i (omega arith) ∙ ap g e

pub flat_map_range : {X : Type 0} (t : X → List ℕ) (f : ℕ → X) (a n : ℕ) → flat_map t (map f (range_with_len a n)) ≡ flat_map (λ x. t (f x)) (range_with_len a n)
flat_map_range t f a zero = refl
flat_map_range t f a (suc n) = ap (λ (bs : List ℕ). t (f a) ++ bs) (flat_map_range t f (a + 1) n)

pub concatenated_range : (f : ℕ → List (List ℕ)) (g : ℕ → List ℕ) → ((x : ℕ) → line (f x) ≡ g x) → (a n : ℕ) → concatenated (map line (map f (range_with_len a n))) ≡ flat_map g (range_with_len a n)
concatenated_range f g each a zero = refl
concatenated_range f g each a (suc n) = ap₂ (λ (xs ys : List ℕ). xs ++ ys) (each a) (concatenated_range f g each (a + 1) n)

-- ---- the lines of such a text

module _ (f : ℕ → List (List ℕ)) (n : ℕ) (lines : (x : ℕ) → x < n → IsLine (f x)) where
  are_lines : (i : ℕ) → i ≤ n → AreLines (map f (range_with_len 0 i))
  are_lines i le = all_map_range IsLine f 0 i (λ x low high. lines x (omega arith))

  abbrev pub line_list : List (List ℕ)
  line_list = map (λ x. spaced (f x)) (range_with_len 0 n)

  pub text_is : text_lines (concatenated (map line (map f (range_with_len 0 n)))) ≡ line_list
  text_is = lines_back (map f (range_with_len 0 n)) (are_lines n (omega arith)) ∙ map_twice spaced f 0 n

  pub line_count : length line_list ≡ n
  line_count = length-map (range_with_len 0 n) (λ x. spaced (f x)) ∙ length-range_with_len 0 n

  pub words_before : (i : ℕ) → i ≤ n → word_lines (take i line_list) ≡ map f (range_with_len 0 i)
  words_before i le =
      ap word_lines (take-map-range_with_len (λ x. spaced (f x)) 0 n i le ∙ sym (map_twice spaced f 0 i)) ∙ word_lines_back (map f (range_with_len 0 i)) (are_lines i le)

  pub all_words : word_lines line_list ≡ map f (range_with_len 0 n)
  all_words = ap word_lines (sym (map_twice spaced f 0 n)) ∙ word_lines_back (map f (range_with_len 0 n)) (are_lines n (omega arith))

  pub line_here : (i : ℕ) → i < n → line_at line_list i ≡ spaced (f i)
  line_here i lt = let e : 0 + i ≡ i = omega arith in at_range (λ x. spaced (f x)) [] 0 n i lt ∙ ap (λ (x : ℕ). spaced (f x)) e

  pub words_here : (i : ℕ) → i < n → words (line_at line_list i) ≡ f i
  words_here i lt = ap words (line_here i lt) ∙ words_of_line (f i) (lines i lt)

  pub accepted_here : (i : ℕ) → i < n → has_refused_byte (line_at line_list i) ≡ false
  accepted_here i lt = ap has_refused_byte (line_here i lt) ∙ none_refused (f i) (lines i lt).1
