-- A text as lines that LF ends and a last line that no LF ends.
use Rattle.std.proofs.Common.{◌≡◌, ℕ, suc, ◌-◌, ◌<◌, Bool, true, false, eqb, List, [], ◌∷◌, ◌++◌, length, map, refl, sym, ap, ◌∙◌, append_assoc, eqb-true, arith}
use Rattle.std.specs.List.{All, AllByRecursion, slice_split}
use Rattle.std.specs.Str.Lines.{strip_carriage_return, lines_of_parts}
use Rattle.std.proofs.lemmas.Bool.Decides.{nat_tests}
use Rattle.std.proofs.lemmas.List.Elements.{All-nil, All-cons, All-head, All-tail}
use Rattle.std.proofs.lemmas.List.Splits.{slice_split_at, length-slice_split}
use Rattle.scan_model.specs.Lines.{text_lines, pieces}
use Rattle.text_parts.specs.TextEnd.{is_ended}

abbrev pub HasNoEnd : List ℕ → Type 0
HasNoEnd line = All (λ b. eqb b 10 ≡ false) line

-- lines, each ended by LF (10), before what follows
abbrev pub with_ends : List (List ℕ) → List ℕ → List ℕ
with_ends [] rest = rest
with_ends (line ∷ more) rest = line ++ 10 ∷ with_ends more rest

abbrev pub with_end : List ℕ → List ℕ
with_end line = line ++ 10 ∷ []

pub with_ends-append : (ls : List (List ℕ)) (rest more : List ℕ) → with_ends ls rest ++ more ≡ with_ends ls (rest ++ more)
with_ends-append [] rest more = refl
with_ends-append (l ∷ ls) rest more = append_assoc l (10 ∷ with_ends ls rest) more ∙ ap (λ bs. l ++ 10 ∷ bs) (with_ends-append ls rest more)

-- ---- each text is such lines

pub record InLines (text : List ℕ) : Type 0 where
  pub before : List (List ℕ)
  pub last : List ℕ
  pub whole : text ≡ with_ends before last
  pub each : AllByRecursion HasNoEnd before
  pub unended : HasNoEnd last
  pub ends : is_ended text ≡ eqb (length last) 0

is_ended-more : (b c : ℕ) (cs : List ℕ) → is_ended (b ∷ c ∷ cs) ≡ is_ended (c ∷ cs)
is_ended-more b c cs =
    let first : length (b ∷ c ∷ cs) - 1 ≡ suc (length cs) = omega arith in
    let second : length (c ∷ cs) - 1 ≡ length cs = omega arith in
    rw (first, second) refl

never_empty : (n : ℕ) → eqb (suc n) 0 ≡ false
never_empty n = grind (arith, nat_tests)

is_ended-end : (b : ℕ) (bs : List ℕ) → eqb b 10 ≡ true → is_ended (b ∷ bs) ≡ is_ended bs
is_ended-end b [] e = e
is_ended-end b (c ∷ cs) e = is_ended-more b c cs

is_ended-unended : (b : ℕ) (bs : List ℕ) → eqb b 10 ≡ false → is_ended bs ≡ eqb (length bs) 0 → is_ended (b ∷ bs) ≡ eqb (length (b ∷ bs)) 0
is_ended-unended b [] e h = e
is_ended-unended b (c ∷ cs) e h = is_ended-more b c cs ∙ h ∙ never_empty (length cs) ∙ sym (never_empty (length (c ∷ cs)))

is_ended-in : (b : ℕ) (bs p : List ℕ) (more : List ℕ) → bs ≡ p ++ 10 ∷ more → is_ended (b ∷ bs) ≡ is_ended bs
is_ended-in b [] [] more e = absurd cc
is_ended-in b [] (c ∷ p) more e = absurd cc
is_ended-in b (c ∷ cs) p more e = is_ended-more b c cs

one_more : (b : ℕ) (bs : List ℕ) → eqb b 10 ≡ false → (before : List (List ℕ)) (last : List ℕ) → bs ≡ with_ends before last → AllByRecursion HasNoEnd before → HasNoEnd last → is_ended bs ≡ eqb (length last) 0 → InLines (b ∷ bs)
one_more b bs other [] last whole each unended ends = record {
  before = [];
  last = b ∷ last;
  whole = ap (λ xs. b ∷ xs) whole;
  each = tt;
  unended = All-cons (λ x. eqb x 10 ≡ false) b last other unended;
  ends = is_ended-unended b bs other (ends ∙ ap (λ xs. eqb (length xs) 0) (sym whole)) ∙ ap (λ xs. eqb (length (b ∷ xs)) 0) whole;
}
one_more b bs other (line ∷ before) last whole each unended ends = record {
  before = (b ∷ line) ∷ before;
  last = last;
  whole = ap (λ xs. b ∷ xs) whole;
  each = (All-cons (λ x. eqb x 10 ≡ false) b line other each.0, each.1);
  unended = unended;
  ends = is_ended-in b bs line (with_ends before last) whole ∙ ends;
}

ended_here : (b : ℕ) (bs : List ℕ) → eqb b 10 ≡ true → InLines bs → InLines (b ∷ bs)
ended_here b bs same of = record {
  before = [] ∷ of.before;
  last = of.last;
  whole = let b10 : b ≡ 10 = eqb-true b 10 same in rw (b10, ← of.whole) refl;
  each = (All-nil (λ x. eqb x 10 ≡ false), of.each);
  unended = of.unended;
  ends = is_ended-end b bs same ∙ of.ends;
}

pub in_lines : (text : List ℕ) → InLines text
in_lines [] = record { before = []; last = []; whole = refl; each = tt; unended = All-nil (λ x. eqb x 10 ≡ false); ends = refl }
in_lines (b ∷ bs) = go (eqb b 10) refl (in_lines bs)
  where
    go : (e : Bool) → eqb b 10 ≡ e → InLines bs → InLines (b ∷ bs)
    go true same of = ended_here b bs same of
    go false other of = one_more b bs other of.before of.last of.whole of.each of.unended of.ends

-- ---- their lines and pieces

strips : (line : List ℕ) (parts : List (List ℕ)) → 0 < length parts → lines_of_parts (line ∷ parts) ≡ strip_carriage_return line ∷ lines_of_parts parts
strips line [] some = absurd (omega arith)
strips line (part ∷ parts) some = refl

pub lines-with_ends : (ls : List (List ℕ)) (rest : List ℕ) → AllByRecursion HasNoEnd ls → text_lines (with_ends ls rest) ≡ map strip_carriage_return ls ++ text_lines rest
lines-with_ends [] rest each = refl
lines-with_ends (l ∷ ls) rest each =
    ap lines_of_parts (slice_split_at (λ b. eqb b 10) l 10 (with_ends ls rest) each.0 refl)
    ∙ strips l (slice_split (λ b. eqb b 10) (with_ends ls rest)) (omega (arith, length-slice_split (λ b. eqb b 10) (with_ends ls rest)))
    ∙ ap (λ xs. strip_carriage_return l ∷ xs) (lines-with_ends ls rest each.1)

piece-with_end : (l : List ℕ) (rest : List ℕ) → HasNoEnd l → pieces (l ++ 10 ∷ rest) ≡ with_end l ∷ pieces rest
piece-with_end [] rest none = refl
piece-with_end (b ∷ l) rest none =
    let other : eqb b 10 ≡ false = All-head (λ x. eqb x 10 ≡ false) b l none in
    let more = piece-with_end l rest (All-tail (λ x. eqb x 10 ≡ false) b l none) in
    rw (other, more) refl

pub pieces-with_ends : (ls : List (List ℕ)) (rest : List ℕ) → AllByRecursion HasNoEnd ls → pieces (with_ends ls rest) ≡ map with_end ls ++ pieces rest
pieces-with_ends [] rest each = refl
pieces-with_ends (l ∷ ls) rest each = piece-with_end l (with_ends ls rest) each.0 ∙ ap (λ xs. with_end l ∷ xs) (pieces-with_ends ls rest each.1)
