-- The points upstream of a compact point.
use Rattle.std.proofs.Common.{◌≡◌, ℕ, ◌-◌, ◌<◌, true, false, ltb, List, [], ◌∷◌, length, map, Option, Some, None, refl, sym, ap, subst, ◌∙◌, inl, inr, arith}
use Rattle.std.specs.Prelude.{All, Contains}
use Rattle.std.specs.List.{AllByRecursion}
use Rattle.std.proofs.lemmas.Bool.{cases_Bool, ltb-true}
use Rattle.std.proofs.lemmas.List.{get_or-map, get_or_default}
use Rattle.std.proofs.lemmas.List.Elements.{All-nil, All-cons, All-append, All-get_or, recursion_from_All}
use Rattle.std.proofs.lemmas.List.Folds.{Any-from_list_any}
use Rattle.scan_model.specs.declared.values.Tri.{Tri}
use Rattle.scan_model.specs.declared.values.Tri.TheVariants.{Unknown}
use Rattle.scan_model.specs.declared.fault.Fault.{Fault}
use Rattle.scan_model.specs.declared.parts.Point.{Point}
use Rattle.scan_model.specs.declared.parts.Point.TheVariants.{Output, Cell}
use Rattle.scan_model.specs.Values.{are_opposite, xor_of}
use Rattle.scan_model.specs.ScanTest.{ScanTest, IsScanTest, IsPoint, points_of, point_at}
use Rattle.scan_model.specs.Coverage.{bit_of}
use Rattle.scan_model.specs.Response.{observed, predicts_fail}
use Rattle.scan_model.proofs.counting.Shown.{not_opposite_itself, predicts_fail-is}
use Rattle.fail_logs.specs.FrameFacts.{point_among}
use Rattle.fail_logs.proofs.TestOrder.{contains_here, contains_later, output_stands, cell_stands}
use Rattle.compact_points.specs.Channels.{Compactor, IsCompactorOf, no_channel, channel_at, chain_length}
use Rattle.compact_points.specs.Compaction.{cell_shown, cells_shown, members, compact_value}
use Rattle.compact_points.specs.CompactPoints.{IsThere}
use Rattle.compact_points.proofs.PointsThere.{point_is_there}
use Rattle.chain_compactor.specs.CompactMatches.{predicts_compact_fail}
use Rattle.chain_compactor.specs.Flips.{members_at}
use Rattle.chain_compactor.proofs.Xors.{xor_one, some_fails}

cells_are_points : (t : ScanTest) (u : ℕ) (hs : List ℕ) → AllByRecursion (λ h. h < length t.chains) hs → All (IsPoint t) (cells_shown t u hs)
cells_are_points t u [] all = All-nil (IsPoint t)
cells_are_points t u (h ∷ hs) all = All-append (IsPoint t) (cell_shown t u h) (cells_shown t u hs) one (cells_are_points t u hs all.1)
  where
    one : All (IsPoint t) (cell_shown t u h)
    one = elim (cases_Bool (ltb u (chain_length t h))) [
      | inl shows ↦ rw shows (All-cons (IsPoint t) (Cell h (chain_length t h - 1 - u)) [] (all.0, omega (arith, ltb-true u (chain_length t h) shows)) (All-nil (IsPoint t)))
      | inr not_there ↦ rw not_there (All-nil (IsPoint t))
    ]

pub map_contained : (f g : Point → Tri) (ps : List Point) → ((p : Point) → Contains ps p → f p ≡ g p) → map f ps ≡ map g ps
map_contained f g [] same = refl
map_contained f g (p ∷ ps) same = rw (same p (contains_here p ps), map_contained f g ps (λ s there. same s (contains_later p s ps there))) refl

module _ (t : ScanTest) (c : Compactor) (made : IsCompactorOf t c) where
  behind_within : (s : Point) → IsThere t c s → All (IsPoint t) (members t c s)
  behind_within (Output k) is = All-cons (IsPoint t) (Output k) [] is (All-nil (IsPoint t))
  behind_within (Cell x u) is =
      cells_are_points t u (channel_at c.channels x).chains (recursion_from_All (λ h. h < length t.chains) (channel_at c.channels x).chains
      (All-get_or (λ y. All (λ h. h < length t.chains) y.chains) c.channels x no_channel is made.channels.chains))

  -- points of the test are upstream of each compact point
  pub members_are_points : (q : ℕ) → q < length c.points → All (IsPoint t) (members_at t c q)
  members_are_points q lt = behind_within (point_among c.points q) (point_is_there t c made q lt)

  pub value_is : (fault : Option Fault) (w : ℕ) (s : Point) → compact_value t c fault w s ≡ xor_of (map (observed t fault w) (members t c s))
  value_is fault w (Output k) = sym (xor_one (observed t fault w (Output k)))
  value_is fault w (Cell x u) = refl

  -- a compact point fails where the XOR of its members does
  pub fails-is : (f : Fault) (w q : ℕ) → q < length c.points → predicts_compact_fail t c f (bit_of w q) ≡ are_opposite (xor_of (map (observed t None w) (members_at t c q))) (xor_of (map (observed t (Some f) w) (members_at t c q)))
  fails-is f w q lt = rw (
    get_or-map (compact_value t c None w) c.points q (Output 0) Unknown lt,
    get_or-map (compact_value t c (Some f) w) c.points q (Output 0) Unknown lt,
    value_is None w (point_among c.points q),
    value_is (Some f) w (point_among c.points q),
  ) refl

  stands : (s : Point) → IsPoint t s → Contains (points_of t) s
  stands (Output k) is = output_stands t k is
  stands (Cell h i) is = cell_stands t h i is.0 is.1

  pub fail_has_one_behind : IsScanTest t → (f : Fault) (w q : ℕ) → q < length c.points → predicts_compact_fail t c f (bit_of w q) ≡ true
      → (k : ℕ) × ((k < length (points_of t)) × Contains (members_at t c q) (point_at t k) × (predicts_fail t f (bit_of w k) ≡ true))
  fail_has_one_behind sound f w q lt fails =
      let some = some_fails (observed t None w) (observed t (Some f) w) (members_at t c q) (sym (fails-is f w q lt) ∙ fails) in
      let at = Any-from_list_any (λ p. are_opposite (observed t None w p) (observed t (Some f) w p)) (members_at t c q) some in
      let here = stands at.1 (subst (IsPoint t) at.3 (members_are_points q lt at.0 at.1 at.2)) in
      let same : point_at t here.0 ≡ at.1 = get_or_default (points_of t) here.0 (Output 0) at.1 here.1 ∙ here.2 in
      (here.0, (here.1, rw same (at.0, at.2, at.3), predicts_fail-is t sound f w here.0 here.1 ∙ ap (λ p. are_opposite (observed t None w p) (observed t (Some f) w p)) same ∙ at.4))

  -- ---- what a compact point shows depends on the points upstream of it alone

  pub same_behind : (f g : Fault) (w q : ℕ) → q < length c.points → ((p : Point) → Contains (members_at t c q) p → observed t (Some f) w p ≡ observed t (Some g) w p)
      → predicts_compact_fail t c f (bit_of w q) ≡ predicts_compact_fail t c g (bit_of w q)
  same_behind f g w q lt same =
      fails-is f w q lt
      ∙ ap (λ (vs : List Tri). are_opposite (xor_of (map (observed t None w) (members_at t c q))) (xor_of vs)) (map_contained (observed t (Some f) w) (observed t (Some g) w) (members_at t c q) same)
      ∙ sym (fails-is g w q lt)

  pub silent_behind : (f : Fault) (w q : ℕ) → q < length c.points → ((p : Point) → Contains (members_at t c q) p → observed t (Some f) w p ≡ observed t None w p) → predicts_compact_fail t c f (bit_of w q) ≡ false
  silent_behind f w q lt same =
      fails-is f w q lt
      ∙ ap (λ (vs : List Tri). are_opposite (xor_of (map (observed t None w) (members_at t c q))) (xor_of vs)) (map_contained (observed t (Some f) w) (observed t None w) (members_at t c q) same)
      ∙ not_opposite_itself (xor_of (map (observed t None w) (members_at t c q)))
