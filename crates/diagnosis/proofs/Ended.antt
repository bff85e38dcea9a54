-- Texts that LF ends, and one that is ended with it.
use Rattle.std.proofs.Common.{◌≡◌, ℕ, zero, suc, ◌-◌, Bool, true, false, cond, eqb, List, [], ◌∷◌, ◌++◌, length, get_or, map, take, refl, sym, ap, ◌∙◌, append-nil, append_assoc, eqb-true, length-append, arith}
use Rattle.std.specs.List.{All, AllByRecursion}
use Rattle.std.specs.Str.Lines.{strip_carriage_return}
use Rattle.std.proofs.Math.Seq.{get_or-append_seam}
use Rattle.std.proofs.lemmas.List.Elements.{All-nil, All-cons, All-head, All-tail}
use Rattle.scan_model.specs.Lines.{text_lines, pieces}
use Rattle.scan_model.specs.ReportText.{concatenated}
use Rattle.text_parts.specs.TextEnd.{is_ended, ended}
use Rattle.design_bundle.specs.Bundle.{is_mark}
use Rattle.diagnosis.proofs.LineEnds.{HasNoEnd, with_ends, with_end, with_ends-append, in_lines, lines-with_ends, pieces-with_ends}

with_end-is_ended : (bs : List ℕ) → is_ended (with_end bs) ≡ true
with_end-is_ended bs =
    let last : length (with_end bs) - 1 ≡ length bs = omega (arith, length-append bs (10 ∷ [])) in
    rw (last, get_or-append_seam bs 10 [] 10) refl

pub ended-is_ended : (text : List ℕ) → is_ended (ended text) ≡ true
ended-is_ended text = go (is_ended text) refl
  where
    go : (b : Bool) → is_ended text ≡ b → is_ended (cond b text (with_end text)) ≡ true
    go true e = e
    go false e = with_end-is_ended text

pub ended_twice : (text : List ℕ) → ended (ended text) ≡ ended text
ended_twice text = ap (λ b. cond b (ended text) (with_end (ended text))) (ended-is_ended text)

-- ---- the lines of a text that LF ends

empty : (bs : List ℕ) → eqb (length bs) 0 ≡ true → bs ≡ []
empty [] e = refl
empty (b ∷ bs) e = absurd (let zero_long : length (b ∷ bs) ≡ 0 = eqb-true (length (b ∷ bs)) 0 e in omega arith)

pub record InEndedLines (text : List ℕ) : Type 0 where
  pub lines : List (List ℕ)
  pub whole : text ≡ with_ends lines []
  pub each : AllByRecursion HasNoEnd lines

pub in_ended_lines : (text : List ℕ) → is_ended text ≡ true → InEndedLines text
in_ended_lines text e =
    let of = in_lines text in
    let none : of.last ≡ [] = empty of.last (sym of.ends ∙ e) in
    record { lines = of.before; whole = of.whole ∙ ap (with_ends of.before) none; each = of.each }

unmarked_start : (b : ℕ) (bs : List ℕ) (n : ℕ) → eqb b 37 ≡ false → (cr : Bool) → is_mark (cond cr (take n (b ∷ bs)) (b ∷ bs)) ≡ false
unmarked_start b bs n e false = e
unmarked_start b bs zero e true = refl
unmarked_start b bs (suc n) e true = e

unmarked_line : (l : List ℕ) → is_mark (with_end l) ≡ false → is_mark (strip_carriage_return l) ≡ false
unmarked_line [] e = refl
unmarked_line (b ∷ bs) e = unmarked_start b bs (length (b ∷ bs) - 1) e (eqb (get_or (b ∷ bs) (length (b ∷ bs) - 1) 0) 13)

module _ (text : List ℕ) (e : is_ended text ≡ true) where
  of : InEndedLines text
  of = in_ended_lines text e

  lines_are : text_lines text ≡ map strip_carriage_return of.lines
  lines_are = ap text_lines of.whole ∙ lines-with_ends of.lines [] of.each ∙ append-nil (map strip_carriage_return of.lines)

  pieces_are : pieces text ≡ map with_end of.lines
  pieces_are = ap pieces of.whole ∙ pieces-with_ends of.lines [] of.each ∙ append-nil (map with_end of.lines)

  parted : (rest : List ℕ) → text ++ rest ≡ with_ends of.lines rest
  parted rest = ap (λ bs. bs ++ rest) of.whole ∙ with_ends-append of.lines [] rest

  pub lines_behind : (rest : List ℕ) → text_lines (text ++ rest) ≡ text_lines text ++ text_lines rest
  lines_behind rest = ap text_lines (parted rest) ∙ lines-with_ends of.lines rest of.each ∙ ap (λ ls. ls ++ text_lines rest) (sym lines_are)

  pub pieces_behind : (rest : List ℕ) → pieces (text ++ rest) ≡ pieces text ++ pieces rest
  pieces_behind rest = ap pieces (parted rest) ∙ pieces-with_ends of.lines rest of.each ∙ ap (λ ps. ps ++ pieces rest) (sym pieces_are)

  pub concatenated_pieces : concatenated (pieces text) ≡ text
  concatenated_pieces = ap concatenated pieces_are ∙ go of.lines ∙ sym of.whole
    where
      go : (ls : List (List ℕ)) → concatenated (map with_end ls) ≡ with_ends ls []
      go [] = refl
      go (l ∷ ls) = append_assoc l (10 ∷ []) (concatenated (map with_end ls)) ∙ ap (λ bs. l ++ 10 ∷ bs) (go ls)

  -- a line begins as its piece does
  pub unmarked_lines : All (λ piece. is_mark piece ≡ false) (pieces text) → All (λ line. is_mark line ≡ false) (text_lines text)
  unmarked_lines none = rw lines_are (go of.lines (rw pieces_are at none))
    where
      go : (ls : List (List ℕ)) → All (λ piece. is_mark piece ≡ false) (map with_end ls) → All (λ line. is_mark line ≡ false) (map strip_carriage_return ls)
      go [] h = All-nil (λ line. is_mark line ≡ false)
      go (l ∷ ls) h =
          All-cons (λ line. is_mark line ≡ false) (strip_carriage_return l) (map strip_carriage_return ls)
          (unmarked_line l (All-head (λ piece. is_mark piece ≡ false) (with_end l) (map with_end ls) h))
          (go ls (All-tail (λ piece. is_mark piece ≡ false) (with_end l) (map with_end ls) h))
