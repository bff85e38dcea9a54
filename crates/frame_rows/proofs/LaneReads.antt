-- A lane of a row that was read out of a block.
use Rattle.std.proofs.Common.{◌≡◌, ℕ, ◌<◌, List, length, get_or, ap, ◌∙◌}
use Rattle.std.proofs.lemmas.List.{get_or_default}
use Rattle.lane_rows.specs.Planes.{Planes, held}
use Rattle.lane_rows.specs.Sources.{lane_values, no_planes}

pub lane_read : (rows values : List Planes) (p : Planes) (n j : ℕ) → values ≡ rows → p ≡ get_or values n p → n < length rows → held p j ≡ lane_values rows j n
lane_read rows values p n j values_are is lt =
    ap (λ (q : Planes). held q j) (is ∙ ap (λ (vs : List Planes). get_or vs n p) values_are ∙ get_or_default rows n p no_planes lt)
