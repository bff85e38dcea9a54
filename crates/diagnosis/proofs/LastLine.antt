-- LF at the end of a text without a refused byte adds nothing to its lines.
use Rattle.std.proofs.Common.{◌≡◌, ℕ, ◌-◌, Bool, true, false, not, cond, eqb, List, [], ◌∷◌, ◌++◌, length, get_or, map, refl, sym, ap, ◌∙◌, eqb-true, length-append, arith}
use Rattle.std.specs.List.{All}
use Rattle.std.specs.Str.Lines.{strip_carriage_return, lines_of_parts}
use Rattle.std.proofs.Math.Seq.{get_or-append_seam}
use Rattle.std.proofs.lemmas.Bool.{or_parts}
use Rattle.std.proofs.lemmas.List.Splits.{slice_split_none}
use Rattle.scan_model.specs.Lines.{text_lines, is_accepted, has_refused_byte}
use Rattle.text_parts.specs.TextEnd.{is_ended, ended}
use Rattle.diagnosis.proofs.LineEnds.{HasNoEnd, with_end, with_ends-append, in_lines, lines-with_ends}

differs_from_cr : (b : ℕ) → not (is_accepted b) ≡ false → eqb b 13 ≡ false
differs_from_cr b accepted = go (eqb b 13) refl
  where
    go : (e : Bool) → eqb b 13 ≡ e → e ≡ false
    go true cr = absurd (let same : b ≡ 13 = eqb-true b 13 cr in let bad : not (is_accepted 13) ≡ false = rw same at accepted in cc)
    go false e = refl

-- a line without a refused byte doesn't end with CR (13)
last_is_no_cr : (b : ℕ) (bs : List ℕ) → has_refused_byte (b ∷ bs) ≡ false → eqb (get_or (b ∷ bs) (length bs) 0) 13 ≡ false
last_is_no_cr b [] accepted = differs_from_cr b (or_parts (not (is_accepted b)) false accepted).0
last_is_no_cr b (c ∷ cs) accepted = last_is_no_cr c cs (or_parts (not (is_accepted b)) (has_refused_byte (c ∷ cs)) accepted).1

keeps_its_bytes : (line : List ℕ) → has_refused_byte line ≡ false → strip_carriage_return line ≡ line
keeps_its_bytes [] accepted = refl
keeps_its_bytes (b ∷ bs) accepted =
    let last : length (b ∷ bs) - 1 ≡ length bs = omega arith in
    rw (last, last_is_no_cr b bs accepted) refl

-- a line that no LF ends
one_line : (line : List ℕ) → HasNoEnd line → eqb (length line) 0 ≡ false → text_lines line ≡ line ∷ []
one_line line none filled = ap lines_of_parts (slice_split_none (λ b. eqb b 10) line none) ∙ ap (λ b. cond b [] (line ∷ [])) filled

-- no line has a byte that no text may have
abbrev pub IsAccepted : List ℕ → Type 0
IsAccepted text = All (λ line. has_refused_byte line ≡ false) (text_lines text)

pub ended_lines : (text : List ℕ) → IsAccepted text → text_lines (ended text) ≡ text_lines text
ended_lines text accepted = go (is_ended text) refl
  where
    go : (b : Bool) → is_ended text ≡ b → text_lines (cond b text (with_end text)) ≡ text_lines text
    go true e = refl
    go false e =
        let of = in_lines text in
        let front : List (List ℕ) = map strip_carriage_return of.before in
        let filled : eqb (length of.last) 0 ≡ false = sym of.ends ∙ e in
        let are : text_lines text ≡ front ++ of.last ∷ [] = ap text_lines of.whole ∙ lines-with_ends of.before of.last of.each ∙ ap (λ ls. front ++ ls) (one_line of.last of.unended filled) in
        let all : All (λ line. has_refused_byte line ≡ false) (front ++ of.last ∷ []) = rw are at accepted in
        let here : has_refused_byte (get_or (front ++ of.last ∷ []) (length front) []) ≡ false = all (length front) [] (omega (arith, length-append front (of.last ∷ []))) in
        let last : has_refused_byte of.last ≡ false = ap has_refused_byte (sym (get_or-append_seam front of.last [] [])) ∙ here in
        ap (λ bs. text_lines (with_end bs)) of.whole
        ∙ ap text_lines (with_ends-append of.before of.last (10 ∷ []))
        ∙ lines-with_ends of.before (with_end of.last) of.each
        ∙ ap (λ ls. front ++ ls) (lines-with_ends (of.last ∷ []) [] (of.unended, tt) ∙ ap (λ l. l ∷ []) (keeps_its_bytes of.last last))
        ∙ sym are
