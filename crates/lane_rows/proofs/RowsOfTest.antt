-- The fault-free rows of a test are those of its stimuli.
use Rattle.std.proofs.Common.{◌≡◌, ℕ, ◌<◌, true, ltb, List, length, refl}
use Rattle.std.proofs.lemmas.Bool.{and_parts, ltb-true}
use Rattle.scan_model.specs.declared.parts.PatternKind.{PatternKind}
use Rattle.scan_model.specs.declared.parts.PatternKind.TheVariants.{Capture, Shift}
use Rattle.scan_model.specs.ScanTest.{ScanTest, pattern_at}
use Rattle.lane_rows.specs.declared.block.Block.{Block}
use Rattle.lane_rows.specs.GoodRows.{AreGoodRows}
use Rattle.value_rows.specs.Kinds.{same_kind}
use Rattle.value_rows.specs.Lanes.{pattern_of}
use Rattle.lane_rows.specs.Stimuli.{AreRowsOf, captures, stimuli_of}

capture_kind : (k : PatternKind) → same_kind Capture k ≡ true → k ≡ Capture
capture_kind Capture e = refl
capture_kind Shift e = absurd cc

pub captures_there : (t : ScanTest) (w : ℕ) → captures t w ≡ true → w < length t.patterns
captures_there t w is = ltb-true w (length t.patterns) (and_parts (ltb w (length t.patterns)) (same_kind Capture (pattern_at t w).kind) is).0

pub captures_kind : (t : ScanTest) (w : ℕ) → captures t w ≡ true → (pattern_at t w).kind ≡ Capture
captures_kind t w is = capture_kind (pattern_at t w).kind (and_parts (ltb w (length t.patterns)) (same_kind Capture (pattern_at t w).kind) is).1

pub good_rows-rows : (t : ScanTest) (blocks : List Block) → AreGoodRows t blocks → AreRowsOf t.netlist (stimuli_of t) blocks
good_rows-rows t blocks good = record {
  count = good.count;
  rows = λ b lt. (good.each b lt).len;
  capture = λ b j lt lane_lt. (good.each b lt).capture j lane_lt;
  value = λ b j n lt lane_lt in_range is. (good.each b lt).good j n lane_lt in_range (captures_there t (pattern_of b j) is) (captures_kind t (pattern_of b j) is);
}
