-- Rows that are read out of blocks, and bits that are written one after the other.
use Rattle.std.proofs.Common.{◌≡◌, ℕ, ◌+◌, ◌/◌, ◌%◌, ◌<◌, Bool, false, List, length, map, get_or, set, sym, ap, ◌∙◌, inl, inr, arith}
use Rattle.std.proofs.lemmas.Bool.{cases_eq}
use Rattle.std.proofs.lemmas.List.{length-map, get_or-map, get_or_default, get_or-set_same, get_or-set_other}
use Rattle.scan_model.specs.declared.parts.Point.TheVariants.{Output}
use Rattle.scan_model.specs.ScanTest.{ScanTest, IsScanTest, points_of, point_at}
use Rattle.scan_model.specs.Suspect.{observed_net}
use Rattle.scan_model.proofs.counting.Shown.{observed_net-in_range, point_at-IsPoint}
use Rattle.scan_model.specs.NetValue.{values_of, nothing_forced}
use Rattle.lane_rows.specs.declared.block.Block.{Block}
use Rattle.lane_rows.specs.Planes.{Planes}
use Rattle.lane_rows.specs.Sources.{lane_values}
use Rattle.lane_rows.specs.GoodRows.{pattern_of, no_block}
use Rattle.lane_rows.specs.Stimuli.{AreRowsOf, captures}
use Rattle.packed_sim.specs.PackedParts.{observed_at}
use Rattle.frame_rows.specs.Frames.{second_source}
use Rattle.frame_rows.specs.SecondRows.{second_stimuli}
use Rattle.two_frame.specs.FrameRows.{AllCapture}
use Rattle.two_frame.proofs.Captures.{captured}

-- a block that was read
pub block_read : (rows blocks : List Block) (d : Block) (b : ℕ) → blocks ≡ rows → b < length rows → get_or blocks b d ≡ get_or rows b no_block
block_read rows blocks d b blocks_are lt = ap (λ (bs : List Block). get_or bs b d) blocks_are ∙ get_or_default rows b d no_block lt

-- its rows
pub values_read : (rows blocks : List Block) (d : Block) (values : List Planes) (b : ℕ) → blocks ≡ rows → values ≡ (get_or blocks b d).values → b < length rows → values ≡ (get_or rows b no_block).values
values_read rows blocks d values b blocks_are values_are lt = values_are ∙ ap (λ (x : Block). x.values) (block_read rows blocks d b blocks_are lt)

-- the rows of a pattern have the values of its second frame
pub second_values : (t : ScanTest) (rows : List Block) (values : List Planes) (w : ℕ) → AreRowsOf t.netlist (second_stimuli t) rows → AllCapture t → w < length t.patterns → values ≡ (get_or rows (w / 512) no_block).values
    → (n : ℕ) → n < length t.netlist.nets → lane_values values (w % 512) n ≡ values_of t.netlist (second_source t w) nothing_forced n
second_values t rows values w right all lt values_are n n_lt =
    let same : pattern_of (w / 512) (w % 512) ≡ w = omega arith in
    ap (λ (vs : List Planes). lane_values vs (w % 512) n) values_are
    ∙ right.value (w / 512) (w % 512) n (omega (arith, right.count)) (omega arith) n_lt (ap (captures t) same ∙ captured t all w lt)
    ∙ ap (λ (v : ℕ). values_of t.netlist (second_source t v) nothing_forced n) same

-- a net that a point observes, read off the list of them
pub net_read : (t : ScanTest) → IsScanTest t → (nets : List ℕ) → nets ≡ map (observed_net t) (points_of t) → (k : ℕ) → k < length nets → (get_or nets k 0 ≡ observed_at t k) × (get_or nets k 0 < length t.netlist.nets)
net_read t sound nets are k lt =
    let in_points : k < length (points_of t) = omega (arith, ap length are, length-map (points_of t) (observed_net t)) in
    let is : get_or nets k 0 ≡ observed_at t k = ap (λ (ns : List ℕ). get_or ns k 0) are ∙ get_or-map (observed_net t) (points_of t) k (Output 0) 0 in_points in
    (is, omega (arith, is, observed_net-in_range t sound (point_at t k) (point_at-IsPoint t sound k in_points)))

-- one bit more
pub bits_more : (test : ℕ → Bool) (out : List Bool) (n : ℕ) (x : Bool) → n < length out → ((k : ℕ) → k < n → get_or out k false ≡ test k) → x ≡ test n → (k : ℕ) → k < n + 1 → get_or (set out n x) k false ≡ test k
bits_more test out n x inside so_far here k lt = elim (cases_eq k n) [
  | inl same ↦ ap (λ (m : ℕ). get_or (set out n x) m false) same ∙ get_or-set_same out n x false inside ∙ here ∙ ap test (sym same)
  | inr other ↦ get_or-set_other out n k x false other ∙ so_far k (omega (arith, other))
]
