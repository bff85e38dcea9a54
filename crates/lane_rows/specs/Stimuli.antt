-- Rows of a circuit under any stimuli: those of a test's captures are one case.
use Rattle.std.specs.Prelude.{◌≡◌, ℕ, ◌+◌, ◌/◌, ◌<◌, List, length, None, Bool, true, ◌&&◌, nat_lt, slice_index_or}
use Rattle.scan_model.specs.declared.values.Tri.{Tri}
use Rattle.scan_model.specs.declared.parts.PatternKind.TheVariants.{Capture}
use Rattle.scan_model.specs.Netlist.{Netlist}
use Rattle.scan_model.specs.ScanTest.{ScanTest, pattern_at}
use Rattle.scan_model.specs.NetValue.{values_of, source_of, nothing_forced}
use Rattle.lane_rows.specs.declared.block.Block.{Block}
use Rattle.value_rows.specs.Lanes.{lane, pattern_of}
use Rattle.lane_rows.specs.Sources.{lane_values}
use Rattle.lane_rows.specs.GoodRows.{no_block}
use Rattle.value_rows.specs.Kinds.{same_kind}

-- How many patterns there are, which of them capture, and what drives inputs and flops in each.
pub record Stimuli : Type 0 where
  pub count : ℕ
  pub captures : ℕ → Bool
  pub source : ℕ → ℕ → Tri

-- the pattern is there and captures
abbrev pub captures : ScanTest → ℕ → Bool
captures t w = nat_lt w (length t.patterns) && same_kind Capture (pattern_at t w).kind

-- the stimuli of a test, fault-free
abbrev pub stimuli_of : ScanTest → Stimuli
stimuli_of t = record { count = length t.patterns; captures = captures t; source = source_of t None }

-- each block has a row for each net
abbrev pub HaveRows : Netlist → List Block → Type 0
HaveRows c blocks = (b : ℕ) → b < length blocks → length (slice_index_or blocks b no_block).values ≡ length c.nets

-- The blocks have all patterns, and a row for each net: where a pattern captures, its value in the circuit under its source.
pub record AreRowsOf (c : Netlist) (σ : Stimuli) (blocks : List Block) : Type 0 where
  pub count : length blocks ≡ (σ.count + 511) / 512
  pub rows : HaveRows c blocks
  pub capture : (b j : ℕ) → b < length blocks → j < 512 → lane (slice_index_or blocks b no_block).capture j ≡ σ.captures (pattern_of b j)
  pub value : (b j n : ℕ) → b < length blocks → j < 512 → n < length c.nets → σ.captures (pattern_of b j) ≡ true
      → lane_values (slice_index_or blocks b no_block).values j n ≡ values_of c (σ.source (pattern_of b j)) nothing_forced n
