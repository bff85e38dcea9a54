-- Patterns of more definite values.
use Rattle.std.specs.Prelude.{◌≡◌, List, [], ◌∷◌}
use Rattle.scan_model.specs.declared.values.Tri.{Tri}
use Rattle.scan_model.specs.declared.parts.Pattern.{Pattern}
use Rattle.scan_model.specs.Values.{AreAtLeast}

-- row by row
abbrev pub AreRowsAtLeast : List (List Tri) → List (List Tri) → Type 0
AreRowsAtLeast [] [] = Unit {0}
AreRowsAtLeast (r ∷ rs) (o ∷ os) = AreAtLeast r o × AreRowsAtLeast rs os
AreRowsAtLeast [] (o ∷ os) = ⊥
AreRowsAtLeast (r ∷ rs) [] = ⊥

-- a pattern at least as definite as another of its kind, in each input and each cell that is loaded
pub record IsPatternAtLeast (p q : Pattern) : Type 0 where
  pub kind : p.kind ≡ q.kind
  pub inputs : AreAtLeast p.inputs q.inputs
  pub loads : AreRowsAtLeast p.loads q.loads
