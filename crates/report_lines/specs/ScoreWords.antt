-- The words of a candidate's place and counts.
use Rattle.std.specs.Prelude.{ℕ, List, [], ◌∷◌, decimal, codes}
use Rattle.scan_model.specs.declared.logs.Scored.{Scored}

-- the words of a candidate, up to its fault
abbrev pub score_words : ℕ → Scored → List (List ℕ)
score_words rank row = codes "candidate" ∷ decimal rank ∷ codes "fault" ∷ decimal row.place
    ∷ codes "tfsf" ∷ decimal row.counts.tfsf ∷ codes "tfsp" ∷ decimal row.counts.tfsp ∷ codes "tpsf" ∷ decimal row.counts.tpsf ∷ []
