-- The lines of candidates, piece by piece.
use Rattle.std.proofs.Common.{◌≡◌, ℕ, ◌+◌, ◌-◌, ◌*◌, ◌<◌, ◌≤◌, min, List, [], ◌∷◌, ◌++◌, length, map, take, drop, refl, sym, ap, subst, ◌∙◌, arith, inl, inr}
use Rattle.std.specs.Prelude.{All, slice_index_or}
use Rattle.std.specs.List.{enumerate_from, AllZip, range_with_len}
use Rattle.std.proofs.Math.Nat.{mul-le-mul_right}
use Rattle.std.proofs.Math.Seq.{take-add, take-nil}
use Rattle.std.proofs.lemmas.Bool.{cases_lt}
use Rattle.std.proofs.lemmas.List.{map-append, length-take-le, length-drop, drop_all, take_all, take_min}
use Rattle.scan_model.specs.declared.logs.Scored.{Scored}
use Rattle.scan_model.specs.ReportText.{ReportForm, named_candidate_line}
use Rattle.work_crew.proofs.Pieces.{made_at, made_count}
use Rattle.report_lines.specs.declared.draft.Draft.{Draft}
use Rattle.report_lines.specs.LineEnds.{HasLines, AddsLines, IsCut}
use Rattle.report_lines.specs.Pieces.{lines_from, piece_lines, ArePieces}
use Rattle.report_lines.proofs.LineSteps.{both_added}

enumerate_append : {X : Type 0} (n : ℕ) (xs ys : List X) → enumerate_from n (xs ++ ys) ≡ enumerate_from n xs ++ enumerate_from (n + length xs) ys
enumerate_append n [] ys = ap (λ (k : ℕ). enumerate_from k ys) (omega arith)
enumerate_append {X} n (x ∷ xs) ys =
    ap (λ (es : List (ℕ × X)). (n, x) ∷ es) (enumerate_append (n + 1) xs ys ∙ ap (λ (k : ℕ). enumerate_from (n + 1) xs ++ enumerate_from k ys) (omega arith))

lines_append : (form : ReportForm) (first : ℕ) (xs ys : List Scored) → lines_from form first (xs ++ ys) ≡ lines_from form first xs ++ lines_from form (first + length xs) ys
lines_append form first xs ys =
    ap (map (named_candidate_line form)) (enumerate_append first xs ys) ∙ map-append (named_candidate_line form) (enumerate_from first xs) (enumerate_from (first + length xs) ys)

-- ranks go on behind the first candidates
behind : (form : ReportForm) (rows : List Scored) (n size : ℕ) → lines_from form (1 + length (take n rows)) (take size (drop n rows)) ≡ lines_from form (n + 1) (take size (drop n rows))
behind form rows n size = elim (cases_lt (length rows) n) [
  | inl past ↦
      let none : take size (drop n rows) ≡ [] = ap (take size) (drop_all n rows (omega (arith, past))) ∙ take-nil size in
      rw none refl
  | inr within ↦ ap (λ (r : ℕ). lines_from form r (take size (drop n rows))) (omega (arith, length-take-le n rows (omega (arith, within))))
]

piece_more_is : (form : ReportForm) (rows : List Scored) (size k : ℕ) → lines_from form 1 (take ((k + 1) * size) rows) ≡ lines_from form 1 (take (k * size) rows) ++ piece_lines form rows size k
piece_more_is form rows size k =
    let next : (k + 1) * size ≡ k * size + size = omega arith in
    ap (λ (n : ℕ). lines_from form 1 (take n rows)) next ∙ ap (lines_from form 1) (take-add (k * size) size rows)
    ∙ lines_append form 1 (take (k * size) rows) (take size (drop (k * size) rows))
    ∙ ap (λ (ls : List (List ℕ)). lines_from form 1 (take (k * size) rows) ++ ls) (behind form rows (k * size) size)

-- one more piece
pub piece_more : (form : ReportForm) (rows : List Scored) (size k : ℕ) (a b c : Draft) → AddsLines (lines_from form 1 (take (k * size) rows)) a b → AddsLines (piece_lines form rows size k) b c → AddsLines (lines_from form 1 (take ((k + 1) * size) rows)) a c
piece_more form rows size k a b c before then =
    subst (λ (ls : List (List ℕ)). AddsLines ls a c) (sym (piece_more_is form rows size k)) (both_added (lines_from form 1 (take (k * size) rows)) (piece_lines form rows size k) a b c before then)

-- all pieces
pub pieces_added : (form : ReportForm) (rows : List Scored) (size : ℕ) (drafts : List Draft) (a c : Draft) → ArePieces form rows size drafts → AddsLines (lines_from form 1 (take (length drafts * size) rows)) a c → AddsLines (lines_from form 1 rows) a c
pieces_added form rows size drafts a c are = subst (λ (xs : List Scored). AddsLines (lines_from form 1 xs) a c) (take_all (length drafts * size) rows are.all)

pub are_cut : (form : ReportForm) (rows : List Scored) (size : ℕ) (drafts : List Draft) → ArePieces form rows size drafts → All IsCut drafts
are_cut form rows size drafts are = λ k d lt. (piece_lines form rows size k, are.each k d lt)

-- ---- the pieces of so many numbers

pub pieces_are : (form : ReportForm) (rows : List Scored) (size n : ℕ) (ds : List Draft) → length rows ≤ n * size
    → AllZip (λ (k : ℕ) (d : Draft). HasLines (piece_lines form rows size k) d.text d.ends) (range_with_len 0 n) ds → ArePieces form rows size ds
pieces_are form rows size n ds all zipped =
    let Of : ℕ → Draft → Type 0 = λ k d. HasLines (piece_lines form rows size k) d.text d.ends in
    record {
      all = subst (λ (m : ℕ). length rows ≤ m * size) (sym (made_count Of 0 n ds zipped)) all;
      each = λ k d lt. subst (λ (i : ℕ). Of i (slice_index_or ds k d)) (omega arith) (made_at Of 0 n ds zipped k d lt);
    }

-- a piece of each number begins inside
pub begins_inside : (rows size n k : ℕ) → n * size < rows + size → k < n → k * size < rows
begins_inside rows size n k few lt =
    let before : k + 1 ≤ n = omega (arith, lt) in
    let next : (k + 1) * size ≡ k * size + size = omega arith in
    omega (arith, next, few, mul-le-mul_right size before)

-- a piece is cut out between two places
pub piece_cut : (rows : List Scored) (start size end : ℕ) → end ≡ min (start + size) (length rows) → take (end - start) (drop start rows) ≡ take size (drop start rows)
piece_cut rows start size end is =
    let long : end - start ≡ min size (length (drop start rows)) = omega (arith, is, length-drop start rows) in
    ap (λ (n : ℕ). take n (drop start rows)) long ∙ take_min size (drop start rows)
