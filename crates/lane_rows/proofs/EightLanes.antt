-- The lanes of a net in eight patterns.
use Rattle.std.proofs.Common.{◌≡◌, ℕ, zero, suc, ◌<◌, Bool, false, List, [], ◌∷◌, length, get_or, ap, ◌∙◌, arith}
use Rattle.std.proofs.lemmas.List.{get_or_default}
use Rattle.scan_model.specs.declared.values.Tri.{Tri}
use Rattle.scan_model.specs.declared.values.Tri.TheVariants.{Zero, Unknown}
use Rattle.scan_model.specs.declared.parts.Pattern.{Pattern}
use Rattle.scan_model.specs.ScanTest.{no_pattern}
use Rattle.lane_rows.specs.declared.bit_planes.DrivenPart.{DrivenPart}
use Rattle.lane_rows.specs.declared.bit_planes.Plane.{Plane}
use Rattle.lane_rows.specs.BitPlanes.{is_in, is_same, value_of}
use Rattle.lane_rows.specs.DrivenParts.{part_values, driven_value}

-- the lane of one pattern, where it has a value for the net
pub lane_of : (part : DrivenPart) (patterns : List Pattern) (plane : Plane) (i m : ℕ) (values : List Tri) (wanted : Tri) (bit : Bool)
    → values ≡ part_values part (get_or patterns m no_pattern) → i < length (part_values part (get_or patterns m no_pattern)) → wanted ≡ value_of plane
    → bit ≡ is_same wanted (get_or values i Zero) → bit ≡ is_in plane (driven_value part patterns m i)
lane_of part patterns plane i m values wanted bit are inside is bit_is =
    let own = part_values part (get_or patterns m no_pattern) in
    bit_is ∙ ap (λ (v : Tri). is_same v (get_or values i Zero)) is ∙ ap (λ (vs : List Tri). is_in plane (get_or vs i Zero)) are
    ∙ ap (is_in plane) (get_or_default own i Zero Unknown inside)

pub eight_are : (f : ℕ → Bool) (a b c d e g h i : Bool) → a ≡ f 0 → b ≡ f 1 → c ≡ f 2 → d ≡ f 3 → e ≡ f 4 → g ≡ f 5 → h ≡ f 6 → i ≡ f 7
    → (j : ℕ) → j < 8 → get_or (a ∷ b ∷ c ∷ d ∷ e ∷ g ∷ h ∷ i ∷ []) j false ≡ f j
eight_are f a b c d e g h i p0 p1 p2 p3 p4 p5 p6 p7 zero lt = p0
eight_are f a b c d e g h i p0 p1 p2 p3 p4 p5 p6 p7 (suc zero) lt = p1
eight_are f a b c d e g h i p0 p1 p2 p3 p4 p5 p6 p7 (suc (suc zero)) lt = p2
eight_are f a b c d e g h i p0 p1 p2 p3 p4 p5 p6 p7 (suc (suc (suc zero))) lt = p3
eight_are f a b c d e g h i p0 p1 p2 p3 p4 p5 p6 p7 (suc (suc (suc (suc zero)))) lt = p4
eight_are f a b c d e g h i p0 p1 p2 p3 p4 p5 p6 p7 (suc (suc (suc (suc (suc zero))))) lt = p5
eight_are f a b c d e g h i p0 p1 p2 p3 p4 p5 p6 p7 (suc (suc (suc (suc (suc (suc zero)))))) lt = p6
eight_are f a b c d e g h i p0 p1 p2 p3 p4 p5 p6 p7 (suc (suc (suc (suc (suc (suc (suc zero))))))) lt = p7
eight_are f a b c d e g h i p0 p1 p2 p3 p4 p5 p6 p7 (suc (suc (suc (suc (suc (suc (suc (suc j)))))))) lt = absurd (omega arith)
