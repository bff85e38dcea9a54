-- Words with spaces between, as they are written one after another.
use Rattle.std.proofs.Common.{◌≡◌, ℕ, suc, ◌-◌, ◌<◌, ◌≤◌, List, [], ◌∷◌, ◌++◌, length, get_or, take, drop, replicate, refl, sym, ap, ◌∙◌, append_assoc, append-nil, drop-cons, arith}
use Rattle.std.proofs.lemmas.List.{get_or-take, get_or-replicate, take_rest}
use Rattle.std.proofs.lemmas.List.Concat.{flat_map-append}
use Rattle.scan_model.specs.ReportText.{spaced}
use Rattle.fault_universe.specs.LineWords.{after_spaces}

spaced-cons : (w : List ℕ) (ws : List (List ℕ)) → spaced (w ∷ ws) ≡ w ++ after_spaces ws
spaced-cons w [] = sym (append-nil w)
spaced-cons w (v ∷ ws) = ap (λ (bs : List ℕ). w ++ 32 ∷ bs) (spaced-cons v ws)

-- a first word, a second one, and more
pub words_are : (line w v : List ℕ) (ws : List (List ℕ)) → ((line ++ w) ++ 32 ∷ v) ++ after_spaces ws ≡ line ++ spaced (w ∷ v ∷ ws)
words_are line w v ws =
    append_assoc (line ++ w) (32 ∷ v) (after_spaces ws) ∙ append_assoc line w ((32 ∷ v) ++ after_spaces ws)
    ∙ ap (λ (bs : List ℕ). line ++ bs) (sym (spaced-cons w (v ∷ ws)))

-- some words, and more
pub words_more : (line w : List ℕ) (ws vs : List (List ℕ)) → (line ++ spaced (w ∷ ws)) ++ after_spaces vs ≡ line ++ spaced ((w ∷ ws) ++ vs)
words_more line w ws vs =
    append_assoc line (spaced (w ∷ ws)) (after_spaces vs)
    ∙ ap (λ (bs : List ℕ). line ++ bs)
    (ap (λ (bs : List ℕ). bs ++ after_spaces vs) (spaced-cons w ws) ∙ append_assoc w (after_spaces ws) (after_spaces vs)
    ∙ ap (λ (bs : List ℕ). w ++ bs) (sym (flat_map-append (λ word. 32 ∷ word) ws vs)) ∙ sym (spaced-cons w (ws ++ vs)))

-- some words, and one more
pub word_more : (line w : List ℕ) (ws : List (List ℕ)) (v : List ℕ) → (line ++ spaced (w ∷ ws)) ++ 32 ∷ v ≡ line ++ spaced ((w ∷ ws) ++ v ∷ [])
word_more line w ws v = ap (λ (bs : List ℕ). (line ++ spaced (w ∷ ws)) ++ 32 ∷ bs) (sym (append-nil v)) ∙ words_more line w ws (v ∷ [])

-- a space and some words
pub space_before : (line : List ℕ) (ws : List (List ℕ)) → 0 < length ws → (line ++ 32 ∷ []) ++ spaced ws ≡ line ++ after_spaces ws
space_before line [] there = absurd (omega arith)
space_before line (w ∷ ws) there = append_assoc line (32 ∷ []) (spaced (w ∷ ws)) ∙ ap (λ (bs : List ℕ). line ++ 32 ∷ bs) (spaced-cons w ws)

-- what stands at the end of a buffer of spaces, with the space before it
pub behind_space : (n at : ℕ) (buf text : List ℕ) → 0 < at → at ≤ n → length buf ≡ n → take at buf ≡ take at (replicate n 32) → drop at buf ≡ text → take (n - (at - 1)) (drop (at - 1) buf) ≡ 32 ∷ text
behind_space n at buf text some within long front end =
    let place : suc (at - 1) ≡ at = omega arith in
    let space : get_or buf (at - 1) 0 ≡ 32 =
    sym (get_or-take at buf (at - 1) 0 (omega arith)) ∙ ap (λ (bs : List ℕ). get_or bs (at - 1) 0) front ∙ get_or-take at (replicate n 32) (at - 1) 0 (omega arith) ∙ get_or-replicate n (at - 1) 32 0 (omega arith) in
    ap (λ (m : ℕ). take (m - (at - 1)) (drop (at - 1) buf)) (sym long) ∙ take_rest buf (at - 1) ∙ drop-cons buf (at - 1) 0 (omega arith) ∙ rw (space, place, end) refl
