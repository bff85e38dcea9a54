-- What changes at the points of a test where a scratch shows a flip.
use Rattle.std.proofs.Common.{◌≡◌, ℕ, ◌<◌, true, subst, sym, ap, ◌∙◌}
use Rattle.scan_model.specs.declared.values.Tri.{Tri}
use Rattle.scan_model.specs.declared.parts.Point.{Point}
use Rattle.scan_model.specs.Values.{tri_xor}
use Rattle.scan_model.specs.ScanTest.{ScanTest, IsScanTest, IsPoint}
use Rattle.scan_model.specs.NetValue.{good_value}
use Rattle.scan_model.specs.Suspect.{observed_net}
use Rattle.scan_model.specs.Masks.{flipped}
use Rattle.scan_model.proofs.counting.Shown.{observed_net-in_range}
use Rattle.lane_rows.specs.GoodRows.{pattern_of}
use Rattle.packed_sim.specs.declared.good.PackedGood.{PackedGood}
use Rattle.packed_sim.specs.declared.scratch.Scratch.{Scratch}
use Rattle.packed_sim.specs.PackedParts.{captures, good_at, now_at}
use Rattle.packed_sim.specs.Changes.{IsChange}
use Rattle.packed_sim.proofs.Belonging.{good_is}
use Rattle.packed_sim.proofs.Changes.{xor_back, point_stands}
use Rattle.chain_compactor.specs.ShownFlips.{ShowsFlip}

module _ (t : ScanTest) (sound : IsScanTest t) (g : PackedGood) (b n : ℕ) (s : Scratch) (shows : ShowsFlip t g b n s)
    (p : Point) (is_point : IsPoint t p) (j : ℕ) (lt : j < 512) (captured : captures t (pattern_of b j) ≡ true) (net : ℕ) (net_is : net ≡ observed_net t p) where
  abbrev w : ℕ
  w = pattern_of b j

  abbrev o : ℕ
  o = observed_net t p

  was_is : good_at g b j net ≡ good_value t w o
  was_is = ap (good_at g b j) net_is ∙ good_is t g shows.belongs b j o shows.block lt (observed_net-in_range t sound p is_point) captured

  now_is : now_at g s b j net ≡ flipped t w n o
  now_is =
      let k = point_stands t p is_point in
      ap (now_at g s b j) net_is
      ∙ subst (λ (x : Point). now_at g s b j (observed_net t x) ≡ flipped t w n (observed_net t x)) k.2 (shows.values k.0 j k.1 lt captured)

  pub flip_change : (change : Tri) → change ≡ tri_xor (good_at g b j net) (now_at g s b j net) → IsChange (good_value t w o) change (flipped t w n o)
  flip_change change is = xor_back (good_value t w o) (flipped t w n o) change (is ∙ ap (λ (v : Tri). tri_xor v (now_at g s b j net)) was_is ∙ ap (tri_xor (good_value t w o)) now_is)

  pub flip_same : now_at g s b j net ≡ good_at g b j net → flipped t w n o ≡ good_value t w o
  flip_same same = sym now_is ∙ same ∙ was_is
