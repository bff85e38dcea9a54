-- Lines of a bundle, one by one.
use Rattle.std.proofs.Common.{◌≡◌, ℕ, zero, suc, ◌+◌, ◌-◌, ◌<◌, Bool, true, false, cond, not, ◌&&◌, ◌||◌, List, [], ◌∷◌, ◌++◌, length, take, map, get_or, Some, refl, sym, ap, ◌∙◌, ◌==◌, arith, eqb-true, ne_eqb, append_assoc}
use Rattle.std.specs.List.{slice_split, onto_first}
use Rattle.std.specs.Str.{bytes_eq}
use Rattle.std.specs.Str.Lines.{strip_carriage_return}
use Rattle.std.specs.Cmp.Lexicographic.{bytes_decides}
use Rattle.std.proofs.lemmas.List.{length-map}
use Rattle.std.proofs.lemmas.List.Splits.{length-slice_split, slice_split-cons_yes, slice_split-cons_no}
use Rattle.scan_model.specs.declared.rules.TheConstants.{WRONG_MARK}
use Rattle.scan_model.specs.ReportText.{concatenated}
use Rattle.scan_model.specs.Lines.{pieces}
use Rattle.design_bundle.specs.Bundle.{is_mark, sections}
use Rattle.design_bundle.specs.BundleRest.{marker, line_in, is_wrong, fault_after}

-- ---- which lines begin with `%`

pub is_mark-append : (piece rest : List ℕ) → 0 < length piece → is_mark (piece ++ rest) ≡ is_mark piece
is_mark-append [] rest some = absurd (omega arith)
is_mark-append (b ∷ piece) rest some = refl

without_last : (c : ℕ) (l : List ℕ) → (c == 37) ≡ false → is_mark (cond (get_or l (length l - 1) 0 == c) (take (length l - 1) l) l) ≡ is_mark l
without_last c [] h = elim (0 == c) as (λ b. is_mark (cond b [] []) ≡ false) [ true ↦ refl | false ↦ refl ]
without_last c (x ∷ []) h = only (x == c) refl
  where
    only : (b : Bool) → (x == c) ≡ b → is_mark (cond b [] (x ∷ [])) ≡ (x == 37)
    only true e = sym (ap (λ y. y == 37) (eqb-true x c e) ∙ h)
    only false e = refl
without_last c (x ∷ y ∷ l) h =
    let places : length (x ∷ y ∷ l) - 1 ≡ suc (length l) = omega arith in
    rw (ap (λ n. take n (x ∷ y ∷ l)) places) (begins (get_or (x ∷ y ∷ l) (length (x ∷ y ∷ l) - 1) 0 == c) (take (length l) (y ∷ l)) (y ∷ l))
  where
    begins : (b : Bool) (u v : List ℕ) → is_mark (cond b (x ∷ u) (x ∷ v)) ≡ (x == 37)
    begins true u v = refl
    begins false u v = refl

stripped_or : (b : Bool) (t l : List ℕ) → is_mark (cond b (strip_carriage_return t) l) ≡ is_mark (cond b t l)
stripped_or true t l = without_last 13 t refl
stripped_or false t l = refl

pub is_mark-line_in : (piece : List ℕ) → is_mark (line_in piece) ≡ is_mark piece
is_mark-line_in piece = stripped_or (get_or piece (length piece - 1) 0 == 10) (take (length piece - 1) piece) piece ∙ without_last 10 piece refl

pub is_mark-marker : (due : ℕ) → due < 4 → is_mark (marker due) ≡ true
is_mark-marker zero l = refl
is_mark-marker (suc zero) l = refl
is_mark-marker (suc (suc zero)) l = refl
is_mark-marker (suc (suc (suc zero))) l = refl
is_mark-marker (suc (suc (suc (suc due)))) l = absurd (omega arith)

-- ---- sections

-- bytes before the first text
abbrev pub onto_text : List ℕ → List (List ℕ) → List (List ℕ)
onto_text before [] = (before ++ []) ∷ []
onto_text before (text ∷ texts) = (before ++ text) ∷ texts

concatenated-onto_first : (piece : List ℕ) (parts : List (List (List ℕ))) → map concatenated (onto_first piece parts) ≡ onto_text piece (map concatenated parts)
concatenated-onto_first piece [] = refl
concatenated-onto_first piece (part ∷ parts) = refl

pub onto_text-onto_text : (a b : List ℕ) (texts : List (List ℕ)) → onto_text a (onto_text b texts) ≡ onto_text (a ++ b) texts
onto_text-onto_text a b [] = ap (λ t. t ∷ []) (sym (append_assoc a b []))
onto_text-onto_text a b (text ∷ texts) = ap (λ t. t ∷ texts) (sym (append_assoc a b text))

pub sections-mark : (text piece rest : List ℕ) → pieces text ≡ piece ∷ pieces rest → is_mark piece ≡ true → sections text ≡ [] ∷ sections rest
sections-mark text piece rest e mark = ap (λ p. map concatenated (slice_split is_mark p)) e ∙ ap (map concatenated) (slice_split-cons_yes is_mark piece (pieces rest) mark)

pub sections-line : (text piece rest : List ℕ) → pieces text ≡ piece ∷ pieces rest → is_mark piece ≡ false → sections text ≡ onto_text piece (sections rest)
sections-line text piece rest e plain =
    ap (λ p. map concatenated (slice_split is_mark p)) e ∙ ap (map concatenated) (slice_split-cons_no is_mark piece (pieces rest) plain)
    ∙ concatenated-onto_first piece (slice_split is_mark (pieces rest))

-- what is left of a text behind some of its lines, of which none begins with `%`
pub record IsBefore (whole rest : List ℕ) : Type 0 where
  pub before : List ℕ
  pub joins : whole ≡ before ++ rest
  pub texts : sections whole ≡ onto_text before (sections rest)

pub sections-some : (text : List ℕ) → 0 < length (sections text)
sections-some text = omega (arith, length-map (slice_split is_mark (pieces text)) concatenated, length-slice_split is_mark (pieces text))

onto_text-none : (texts : List (List ℕ)) → 0 < length texts → texts ≡ onto_text [] texts
onto_text-none [] some = absurd (omega arith)
onto_text-none (text ∷ texts) some = refl

pub IsBefore-start : (whole : List ℕ) → IsBefore whole whole
IsBefore-start whole = record { before = []; joins = refl; texts = onto_text-none (sections whole) (sections-some whole) }

pub IsBefore-line : (whole text piece rest : List ℕ) → IsBefore whole text → text ≡ piece ++ rest → pieces text ≡ piece ∷ pieces rest → is_mark piece ≡ false → IsBefore whole rest
IsBefore-line whole text piece rest h cut lines plain = record {
  before = h.before ++ piece;
  joins = h.joins ∙ ap (λ t. h.before ++ t) cut ∙ sym (append_assoc h.before piece rest);
  texts = h.texts ∙ ap (onto_text h.before) (sections-line text piece rest lines plain) ∙ onto_text-onto_text h.before piece (sections rest);
}

-- ---- rule 81

pub fault_after-wrong : (due line : ℕ) (text : List ℕ) (more : List (List ℕ)) → is_wrong due line text ≡ true → fault_after due line (text ∷ more) ≡ Some (line, WRONG_MARK)
fault_after-wrong due line text more wrong = rw wrong refl

pub fault_after-right : (due line : ℕ) (text : List ℕ) (more : List (List ℕ)) → is_wrong due line text ≡ false → fault_after due line (text ∷ more) ≡ fault_after (cond (is_mark text) (due + 1) due) (line + 1) more
fault_after-right due line text more right = rw right refl

-- the marker that is due
pub fault_after-marker : (due line : ℕ) (text : List ℕ) (more : List (List ℕ)) → due < 4 → text ≡ marker due → fault_after due line (text ∷ more) ≡ fault_after (due + 1) (line + 1) more
fault_after-marker due line text more l e =
    let same : bytes_eq text (marker due) ≡ true = (bytes_decides text (marker due)).1 e in
    let mark : is_mark text ≡ true = ap is_mark e ∙ is_mark-marker due l in
    fault_after-right due line text more (rw same (no_fault (is_mark text || (line == 1)))) ∙ ap (λ b. fault_after (cond b (due + 1) due) (line + 1) more) mark
  where
    no_fault : (b : Bool) → b && not true ≡ false
    no_fault true = refl
    no_fault false = refl

-- a line of a text, which isn't the first line
pub fault_after-line : (due line : ℕ) (text : List ℕ) (more : List (List ℕ)) → 1 < line → is_mark text ≡ false → fault_after due line (text ∷ more) ≡ fault_after due (line + 1) more
fault_after-line due line text more later plain =
    let later_line : (line == 1) ≡ false = ne_eqb line 1 (λ e. omega arith) in
    fault_after-right due line text more (rw (plain, later_line) refl) ∙ ap (λ b. fault_after (cond b (due + 1) due) (line + 1) more) plain
