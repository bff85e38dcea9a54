-- One more draw: the state after it, and the digit that it gives.
use Rattle.std.proofs.Common.{◌≡◌, ◌∙◌, ap, sym, refl, ℕ, suc, ◌+◌, ◌%◌, List, [], ◌∷◌, ◌++◌, append_assoc, arith}
use Rattle.std.proofs.lemmas.List.FromFn.{map-range_with_len_more}
use Rattle.made_laws.specs.Draws.{state_after, next_state, upper, draw}
use Rattle.made_laws.specs.MadePatterns.{drawn_digits}

-- after one draw more than n from the state after i draws
pub state_more : (seed i n now next : ℕ) → now ≡ state_after seed (i + n) → next ≡ next_state now → next ≡ state_after seed (i + (n + 1))
state_more seed i n now next at drawn =
    let more : i + (n + 1) ≡ suc (i + n) = omega arith in
    drawn ∙ ap next_state at ∙ sym (ap (state_after seed) more)

-- the digit of that draw comes after those of the n before it
pub digit_more : (seed i n next digit : ℕ) (before text more : List ℕ) → next ≡ state_after seed (i + (n + 1)) → digit ≡ 48 + upper next % 2
    → text ≡ before ++ drawn_digits seed i n → more ≡ text ++ digit ∷ [] → more ≡ before ++ drawn_digits seed i (n + 1)
digit_more seed i n next digit before text more at gives so_far added =
    let drawn : ℕ → ℕ = λ j. 48 + draw seed j 2 in
    let place : i + (n + 1) ≡ (i + n) + 1 = omega arith in
    let is : digit ≡ drawn (i + n) = gives ∙ ap (λ x. 48 + upper x % 2) (at ∙ ap (state_after seed) place) in
    added ∙ ap (λ xs. xs ++ digit ∷ []) so_far ∙ append_assoc before (drawn_digits seed i n) (digit ∷ [])
    ∙ ap (λ xs. before ++ xs) (ap (λ d. drawn_digits seed i n ++ d ∷ []) is ∙ sym (map-range_with_len_more drawn i n (i + n) refl))
