-- What is known of the patterns of lines without a fault.
use Rattle.std.proofs.Common.{◌≡◌, ℕ, ◌+◌, ◌<◌, ◌≤◌, Bool, true, false, not, cond, ◌&&◌, ◌||◌, eqb, List, [], ◌∷◌, ◌++◌, length, map, Option, Some, None, is_some, refl, sym, ap, subst, ◌∙◌, arith, append-nil}
use Rattle.std.specs.Prelude.{All, bytes_eq, codes, nat_le}
use Rattle.std.proofs.lemmas.Bool.{leb-false, not-false, or_parts, and_parts, eqb-true}
use Rattle.std.proofs.lemmas.List.{length-map, length-append}
use Rattle.std.proofs.lemmas.List.Elements.{All-nil, All-push}
use Rattle.scan_model.specs.declared.parts.Chain.{Chain}
use Rattle.scan_model.specs.declared.parts.Pattern.{Pattern}
use Rattle.scan_model.specs.declared.parts.PatternKind.{PatternKind}
use Rattle.scan_model.specs.declared.parts.PatternKind.TheVariants.{Capture, Shift}
use Rattle.scan_model.specs.Netlist.{Netlist}
use Rattle.scan_model.specs.Lines.{has_refused_byte}
use Rattle.scan_model.specs.Words.{words, has_words}
use Rattle.scan_model.specs.TextFaults.{lowest}
use Rattle.scan_model.specs.declared.rules.TheConstants.{OTHER_KEYWORD, WRONG_WORDS, WRONG_LENGTH, OTHER_VALUE, TOO_MANY_PATTERNS}
use Rattle.scan_model.specs.PatternText.{PatternFrame, pattern_limit, character_value, kind_of, is_dash, have_lengths, has_wrong_words, inputs_fit, has_wrong_length, has_other_value, pattern_rules, input_values, line_pattern, patterns_of}
use Rattle.scan_model.specs.ScanTest.{FitsPattern, ArePatterns}
use Rattle.scan_text.proofs.Tables.{none_broken}

pub record AreSound (c : Netlist) (chains : List Chain) (ps : List Pattern) : Type 0 where
  pub each : All (FitsPattern c chains) ps
  pub few : length ps ≤ 4096

pub none_sound : (c : Netlist) (chains : List Chain) → AreSound c chains []
none_sound c chains = record { each = All-nil (FitsPattern c chains); few = omega arith }

-- what a pattern is for, with so many inputs
abbrev frame_of : ℕ → List Chain → List ℕ → Bool → PatternFrame
frame_of n chains keyword shifts = record { inputs = n; lengths = map (λ h. length h.cells) chains; keyword = keyword; shifts = shifts }

-- ---- one line

-- the values have the lengths of their words
loads_length : (ns : List ℕ) (ws : List (List ℕ)) → have_lengths ns ws ≡ true → length ws ≡ length ns → map length (map (map character_value) ws) ≡ ns
loads_length [] [] e same = refl
loads_length [] (w ∷ ws) e same = absurd (omega arith)
loads_length (n ∷ ns) [] e same = absurd (omega arith)
loads_length (n ∷ ns) (w ∷ ws) e same =
    let both = and_parts (eqb (length w) n) (have_lengths ns ws) e in
    let here : length (map character_value w) ≡ n = length-map w character_value ∙ eqb-true (length w) n both.0 in
    let rest : map length (map (map character_value) ws) ≡ ns = loads_length ns ws both.1 (omega arith) in
    cc

inputs_length : (n : ℕ) (p : List ℕ) → inputs_fit n p ≡ true → length (input_values n p) ≡ n
inputs_length n p e = go (eqb n 0) refl e
  where
    go : (b : Bool) → eqb n 0 ≡ b → cond b (is_dash p) (eqb (length p) n) ≡ true → length (cond b [] (map character_value p)) ≡ n
    go true zero_inputs h = omega (arith, eqb-true n 0 zero_inputs)
    go false some h = length-map p character_value ∙ eqb-true (length p) n h

is_capture : (a b : Bool) → cond a (Some Capture) (cond b (Some Shift) None) ≡ Some Capture → a ≡ true
is_capture true b e = refl
is_capture false true e = absurd cc
is_capture false false e = absurd cc

is_shift : (a b : Bool) → cond a (Some Capture) (cond b (Some Shift) None) ≡ Some Shift → a ≡ false
is_shift true b e = absurd cc
is_shift false b e = refl

no_shift : (a s b : Bool) → s ≡ false → cond a (Some Capture) (cond (s && b) (Some Shift) None) ≡ Some Shift → ⊥
no_shift true s b never e = cc
no_shift false true b never e = cc
no_shift false false b never e = cc

-- ---- where no line only shifts

module _ (frame : PatternFrame) (never : frame.shifts ≡ false) where
  line_captures : (ws : List (List ℕ)) (o : Option PatternKind) → kind_of frame ws ≡ o → is_some o ≡ true → has_wrong_words frame o ws ≡ false → (line_pattern frame ws).kind ≡ Capture
  line_captures ws None e some counted = absurd cc
  line_captures [] (Some kind) e some counted = absurd cc
  line_captures (keyword ∷ ws) (Some Shift) e some counted = absurd (no_shift (bytes_eq keyword frame.keyword) frame.shifts (bytes_eq keyword (codes "SHIFT")) never e)
  line_captures (keyword ∷ []) (Some Capture) e some counted = absurd (let n = eqb-true _ _ (not-false _ counted) in omega arith)
  line_captures (keyword ∷ p ∷ ws) (Some Capture) e some counted = rw (is_capture (bytes_eq keyword frame.keyword) (frame.shifts && bytes_eq keyword (codes "SHIFT")) e) refl

  words_capture : (ps : List Pattern) (ws : List (List ℕ)) (refused long other many : Bool) → All (λ w. w.kind ≡ Capture) ps
      → None ≡ lowest ((OTHER_KEYWORD, refused || (has_words ws && not (is_some (kind_of frame ws)))) ∷ (WRONG_WORDS, has_wrong_words frame (kind_of frame ws) ws) ∷ (WRONG_LENGTH, long) ∷ (OTHER_VALUE, other) ∷ (TOO_MANY_PATTERNS, many) ∷ [])
      → (b : Bool) → has_words ws ≡ b → All (λ w. w.kind ≡ Capture) (ps ++ map (line_pattern frame) (cond b (ws ∷ []) []))
  words_capture ps ws refused long other many all none false e = rw append-nil all
  words_capture ps ws refused long other many all none true e =
      let whole = none_broken 21 22 23 24 25 (refused || (has_words ws && not (is_some (kind_of frame ws)))) (has_wrong_words frame (kind_of frame ws) ws) long other many none in
      let known = or_parts refused (has_words ws && not (is_some (kind_of frame ws))) whole.0 in
      let keyword : is_some (kind_of frame ws) ≡ true = not-false (is_some (kind_of frame ws)) (sym (ap (λ b. b && not (is_some (kind_of frame ws))) e) ∙ known.1) in
      All-push (λ w. w.kind ≡ Capture) ps (line_pattern frame ws) all (line_captures ws (kind_of frame ws) refl keyword whole.1)

  -- a line that breaks no rule
  pub capture_more : (ps : List Pattern) (line : List ℕ) → All (λ w. w.kind ≡ Capture) ps → None ≡ lowest (pattern_rules frame (length ps) line) → All (λ w. w.kind ≡ Capture) (ps ++ patterns_of frame (line ∷ []))
  capture_more ps line all none =
      words_capture ps (words line) (has_refused_byte line) (has_wrong_length frame (kind_of frame (words line)) (words line)) (has_other_value frame (kind_of frame (words line)) (words line)) (has_words (words line) && nat_le pattern_limit (length ps))
      all none (has_words (words line)) refl

-- ---- the patterns of a circuit and its chains

module _ (c : Netlist) (chains : List Chain) (key : List ℕ) (shifts : Bool) where
  abbrev frame : PatternFrame
  frame = frame_of (length c.inputs) chains key shifts

  capture_fits : (ws : List (List ℕ)) → kind_of frame ws ≡ Some Capture
      → has_wrong_words frame (Some Capture) ws ≡ false → has_wrong_length frame (Some Capture) ws ≡ false
      → FitsPattern c chains (line_pattern frame ws)
  capture_fits [] e counted long = absurd cc
  capture_fits (keyword ∷ []) e counted long = absurd (let n = eqb-true _ _ (not-false _ counted) in omega arith)
  capture_fits (keyword ∷ p ∷ ws) e counted long =
      let lengths = map (λ h. length h.cells) chains in
      let n : length (keyword ∷ p ∷ ws) ≡ 2 + length lengths = eqb-true (length (keyword ∷ p ∷ ws)) (2 + length lengths) (not-false _ counted) in
      let both = and_parts (inputs_fit (length c.inputs) p) (have_lengths lengths ws) (not-false _ long) in
      let capture = is_capture (bytes_eq keyword key) (shifts && bytes_eq keyword (codes "SHIFT")) e in
      rw capture (record { inputs = inputs_length (length c.inputs) p both.0; loads = loads_length lengths ws both.1 (omega arith) })

  shift_fits : (ws : List (List ℕ)) → kind_of frame ws ≡ Some Shift
      → has_wrong_words frame (Some Shift) ws ≡ false → has_wrong_length frame (Some Shift) ws ≡ false
      → FitsPattern c chains (line_pattern frame ws)
  shift_fits [] e counted long = absurd cc
  shift_fits (keyword ∷ []) e counted long =
      let lengths = map (λ h. length h.cells) chains in
      let n : length (keyword ∷ []) ≡ 1 + length lengths = eqb-true (length (keyword ∷ [])) (1 + length lengths) (not-false _ counted) in
      record { inputs = refl; loads = loads_length lengths [] (not-false _ long) (omega arith) }
  shift_fits (keyword ∷ p ∷ ws) e counted long =
      let lengths = map (λ h. length h.cells) chains in
      let n : length (keyword ∷ p ∷ ws) ≡ 1 + length lengths = eqb-true (length (keyword ∷ p ∷ ws)) (1 + length lengths) (not-false _ counted) in
      let shift = is_shift (bytes_eq keyword key) (shifts && bytes_eq keyword (codes "SHIFT")) e in
      rw shift (record { inputs = refl; loads = loads_length lengths (p ∷ ws) (not-false _ long) (omega arith) })

  line_fits : (ws : List (List ℕ)) (o : Option PatternKind) → kind_of frame ws ≡ o → is_some o ≡ true
      → has_wrong_words frame o ws ≡ false → has_wrong_length frame o ws ≡ false
      → FitsPattern c chains (line_pattern frame ws)
  line_fits ws None e some counted long = absurd cc
  line_fits ws (Some Capture) e some counted long = capture_fits ws e counted long
  line_fits ws (Some Shift) e some counted long = shift_fits ws e counted long

  -- the words of a line that breaks no rule
  words_more : (ps : List Pattern) (ws : List (List ℕ)) (refused other : Bool) → AreSound c chains ps
      → None ≡ lowest ((OTHER_KEYWORD, refused || (has_words ws && not (is_some (kind_of frame ws)))) ∷ (WRONG_WORDS, has_wrong_words frame (kind_of frame ws) ws) ∷ (WRONG_LENGTH, has_wrong_length frame (kind_of frame ws) ws) ∷ (OTHER_VALUE, other) ∷ (TOO_MANY_PATTERNS, has_words ws && nat_le pattern_limit (length ps)) ∷ [])
      → (b : Bool) → has_words ws ≡ b → AreSound c chains (ps ++ map (line_pattern frame) (cond b (ws ∷ []) []))
  words_more ps ws refused other sound none false e = rw append-nil sound
  words_more ps ws refused other sound none true e =
      let whole = none_broken 21 22 23 24 25 (refused || (has_words ws && not (is_some (kind_of frame ws)))) (has_wrong_words frame (kind_of frame ws) ws) (has_wrong_length frame (kind_of frame ws) ws) other (has_words ws && nat_le pattern_limit (length ps)) none in
      let known = or_parts refused (has_words ws && not (is_some (kind_of frame ws))) whole.0 in
      let keyword : is_some (kind_of frame ws) ≡ true = not-false (is_some (kind_of frame ws)) (sym (ap (λ b. b && not (is_some (kind_of frame ws))) e) ∙ known.1) in
      let room : length ps < 4096 = leb-false 4096 (length ps) (sym (ap (λ b. b && nat_le pattern_limit (length ps)) e) ∙ whole.4) in
      record {
        each = All-push (FitsPattern c chains) ps (line_pattern frame ws) sound.each (line_fits ws (kind_of frame ws) refl keyword whole.1 whole.2);
        few = omega (arith, length-append ps (line_pattern frame ws ∷ []));
      }

  -- a line that breaks no rule
  pub line_more : (ps : List Pattern) (line : List ℕ) → AreSound c chains ps
      → (n : ℕ) → length c.inputs ≡ n → None ≡ lowest (pattern_rules (frame_of n chains key shifts) (length ps) line)
      → AreSound c chains (ps ++ patterns_of (frame_of n chains key shifts) (line ∷ []))
  line_more ps line sound n same =
      let P : ℕ → Type 0 = λ m. None ≡ lowest (pattern_rules (frame_of m chains key shifts) (length ps) line) → AreSound c chains (ps ++ patterns_of (frame_of m chains key shifts) (line ∷ [])) in
      subst P same (λ none. words_more ps (words line) (has_refused_byte line) (has_other_value frame (kind_of frame (words line)) (words line)) sound none (has_words (words line)) refl)

  pub are_patterns : (ps : List Pattern) → AreSound c chains ps → 0 < length ps → ArePatterns c chains ps
  are_patterns ps sound some = record { each = sound.each; some = some; few = sound.few }
