use Rattle.std.proofs.Common.{◌≡◌, ℕ, true, List, [], ◌∷◌, length, map, ◌⊎◌, inl, inr, refl, ◌∙◌, Bor}
use Rattle.std.specs.Slice.Iter.{iter_rest}
use Rattle.std.specs.Iterator.Adapters.{zip_first, zip_second}
use Rattle.std.proofs.lemmas.Slice.Zip.{either_empty_from_Zip}
use Rattle.scan_model.specs.declared.parts.Chain.{Chain}
use Rattle.scan_model.specs.PatternText.{have_lengths}
use Rattle.text_parts.specs.Views.{nows}
use Rattle.scan_text.proofs.pattern.have_lengths.Goals as goal

-- nothing is left to compare
past_end : (chains : List Chain) (loads : List (Bor (List ℕ))) → (chains ≡ []) ⊎ (loads ≡ []) → true ≡ have_lengths (map (λ h. length h.cells) chains) (nows loads)
past_end [] loads h = refl
past_end (c ∷ cs) [] h = refl
past_end (c ∷ cs) (w ∷ ws) h = elim h [ inl e ↦ absurd cc | inr e ↦ absurd cc ]

pub returns : goal.returns
returns c =
    let at = c.loop-chain.chain-iterator in
    past_end (iter_rest (zip_first at)) (iter_rest (zip_second at)) (either_empty_from_Zip at c.next.new.self c.next.result c.in-None.is c.next.ensures.steps)
    ∙ c.loop-chain.invariant
