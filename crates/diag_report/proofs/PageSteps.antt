-- Pages of a text, cut at the places behind its lines.
use Rattle.std.proofs.Common.{◌≡◌, ℕ, zero, suc, ◌+◌, ◌-◌, ◌*◌, ◌<◌, ◌≤◌, min, List, [], ◌∷◌, ◌++◌, length, map, get_or, take, drop, refl, sym, ap, ◌∙◌, append_assoc, append-nil, arith}
use Rattle.std.specs.List.{range_with_len}
use Rattle.std.proofs.lemmas.List.{length-append, length-drop, take-append-drop, take_min, take_all, drop-drop}
use Rattle.std.proofs.lemmas.List.Concat.{flat_map-append}
use Rattle.std.proofs.Math.Seq.{take-add, take-append_seam, drop-append_seam}
use Rattle.scan_model.specs.ReportText.{concatenated, page_of}
use Rattle.report_lines.specs.LineEnds.{ends_from, cut_at, HasLines}

-- ---- a text cut at the places behind its lines

cut_at_ends : (a : ℕ) (ls : List (List ℕ)) → cut_at a (ends_from a ls) (concatenated ls) ≡ ls
cut_at_ends a [] = refl
cut_at_ends a (l ∷ ls) =
    let e : (a + length l) - a ≡ length l = omega arith in
    rw (e, take-append_seam l (concatenated ls), drop-append_seam l (concatenated ls), cut_at_ends (a + length l) ls) refl

pub cut_is : (lines : List (List ℕ)) (text ends : List ℕ) → HasLines lines text ends → cut_at 0 ends text ≡ lines
cut_is lines text ends has = rw (has.text_is, has.ends_are) (cut_at_ends 0 lines)

pub length-cut_at : (a : ℕ) (ends text : List ℕ) → length (cut_at a ends text) ≡ length ends
length-cut_at a [] text = refl
length-cut_at a (e ∷ es) text = ap (λ (n : ℕ). suc n) (length-cut_at e es (drop (e - a) text))

-- ---- pages

concatenated-append : (ls ms : List (List ℕ)) → concatenated (ls ++ ms) ≡ concatenated ls ++ concatenated ms
concatenated-append ls ms = flat_map-append (λ piece. piece) ls ms

-- the place behind the line of index k
get_or-ends_from : (a : ℕ) (ls : List (List ℕ)) (k d : ℕ) → k < length ls → get_or (ends_from a ls) k d ≡ a + length (concatenated (take (suc k) ls))
get_or-ends_from a [] k d lt = absurd (omega arith)
get_or-ends_from a (l ∷ ls) zero d lt = ap (λ (bs : List ℕ). a + length bs) (sym (append-nil l))
get_or-ends_from a (l ∷ ls) (suc k) d lt = get_or-ends_from (a + length l) ls k d (omega arith) ∙ omega (arith, length-append l (concatenated (take (suc k) ls)))

pub end_is : (lines : List (List ℕ)) (text ends : List ℕ) (n e : ℕ) → HasLines lines text ends → n ≤ length lines → (n ≡ 0 → e ≡ 0) → (0 < n → e ≡ get_or ends (n - 1) 0) → e ≡ length (concatenated (take n lines))
end_is lines text ends zero e has le none some = none refl
end_is lines text ends (suc k) e has le none some =
    let before : suc k - 1 ≡ k = omega arith in
    some (omega arith) ∙ ap (λ (n : ℕ). get_or ends n 0) before ∙ ap (λ (xs : List ℕ). get_or xs k 0) has.ends_are ∙ get_or-ends_from 0 lines k 0 (omega arith) ∙ omega arith

front : (lines : List (List ℕ)) (n m : ℕ) → concatenated (take (n + m) lines) ≡ concatenated (take n lines) ++ concatenated (take m (drop n lines))
front lines n m = ap concatenated (take-add n m lines) ∙ concatenated-append (take n lines) (take m (drop n lines))

parted : (lines : List (List ℕ)) (k : ℕ) → concatenated lines ≡ concatenated (take k lines) ++ concatenated (drop k lines)
parted lines k = ap concatenated (sym (take-append-drop k lines)) ∙ concatenated-append (take k lines) (drop k lines)

pub front_bounds : (lines : List (List ℕ)) (n m : ℕ) → (length (concatenated (take n lines)) ≤ length (concatenated (take (n + m) lines))) × (length (concatenated (take (n + m) lines)) ≤ length (concatenated lines))
front_bounds lines n m = (
  omega (arith, ap length (front lines n m), length-append (concatenated (take n lines)) (concatenated (take m (drop n lines)))),
  omega (arith, ap length (parted lines (n + m)), length-append (concatenated (take (n + m) lines)) (concatenated (drop (n + m) lines))),
)

cut_out : (xs ys zs : List ℕ) → take (length (xs ++ ys) - length xs) (drop (length xs) ((xs ++ ys) ++ zs)) ≡ ys
cut_out xs ys zs =
    let e : length (xs ++ ys) - length xs ≡ length ys = omega (arith, length-append xs ys) in
    ap (λ (n : ℕ). take n (drop (length xs) ((xs ++ ys) ++ zs))) e
    ∙ ap (λ (bs : List ℕ). take (length ys) (drop (length xs) bs)) (append_assoc xs ys zs)
    ∙ ap (take (length ys)) (drop-append_seam xs (ys ++ zs)) ∙ take-append_seam ys zs

-- a page of a hundred lines, or of those that are left
pub page_cut : (lines : List (List ℕ)) (n m : ℕ) → m ≡ min 100 (length lines - n) → take (length (concatenated (take (n + m) lines)) - length (concatenated (take n lines))) (drop (length (concatenated (take n lines))) (concatenated lines)) ≡ concatenated (take 100 (drop n lines))
page_cut lines n m is_m =
    let xs = concatenated (take n lines) in
    let ys = concatenated (take m (drop n lines)) in
    let zs = concatenated (drop (n + m) lines) in
    let whole : concatenated lines ≡ (xs ++ ys) ++ zs = parted lines (n + m) ∙ ap (λ (bs : List ℕ). bs ++ zs) (front lines n m) in
    let few : m ≡ min 100 (length (drop n lines)) = is_m ∙ ap (min 100) (sym (length-drop n lines)) in
    ap (λ (bs : List ℕ). take (length bs - length xs) (drop (length xs) (concatenated lines))) (front lines n m)
    ∙ ap (λ (bs : List ℕ). take (length (xs ++ ys) - length xs) (drop (length xs) bs)) whole
    ∙ cut_out xs ys zs
    ∙ ap concatenated (ap (λ (k : ℕ). take k (drop n lines)) few ∙ take_min 100 (drop n lines))

pages_from : (lines : List (List ℕ)) (a n : ℕ) → concatenated (map (λ k. page_of lines (100 * k + 1)) (range_with_len a n)) ≡ concatenated (take (100 * n) (drop (100 * a) lines))
pages_from lines a zero = refl
pages_from lines a (suc n) =
    let rest = drop (100 * a) lines in
    let here : 100 * a + 1 - 1 ≡ 100 * a = omega arith in
    let next : 100 * (a + 1) ≡ 100 * a + 100 = omega arith in
    let count : 100 + 100 * n ≡ 100 * suc n = omega arith in
    ap (λ (k : ℕ). concatenated (take 100 (drop k lines)) ++ concatenated (map (λ k. page_of lines (100 * k + 1)) (range_with_len (a + 1) n))) here
    ∙ ap (λ (bs : List ℕ). concatenated (take 100 rest) ++ bs) (pages_from lines (a + 1) n ∙ ap (λ (k : ℕ). concatenated (take (100 * n) (drop k lines))) next ∙ ap (λ (ls : List (List ℕ)). concatenated (take (100 * n) ls)) (sym (drop-drop 100 (100 * a) lines)))
    ∙ sym (front rest 100 (100 * n))
    ∙ ap (λ (k : ℕ). concatenated (take k rest)) count

-- pages that begin a hundred lines after one another, laid end to end
pub pages_are : (lines : List (List ℕ)) (n : ℕ) → length lines ≤ 100 * n → concatenated (map (λ k. page_of lines (100 * k + 1)) (range_with_len 0 n)) ≡ concatenated lines
pages_are lines n enough = pages_from lines 0 n ∙ ap concatenated (take_all (100 * n) lines enough)
