use Rattle.std.proofs.Common.{◌≡◌, ℕ, ◌+◌, ◌*◌, ◌<◌, ◌≤◌, false}
use Rattle.scan_model.specs.declared.values.Tri.TheVariants.{Unknown}
use Rattle.scan_model.specs.Netlist.{is_gate}
use Rattle.lane_rows.specs.Sources.{lane_values, row_source}
use Rattle.lane_rows.proofs.sources.assign_words.Given as goal

abbrev pub invariant-loop-word : goal.invariant-loop-word
invariant-loop-word l = record {
  done : (j n : ℕ) → j < 64 * l.word → j < l.count → is_gate l.parts.netlist n ≡ false → lane_values l.rows j n ≡ row_source l.parts (l.first + j) n;
  blank : (j n : ℕ) → 64 * l.word ≤ j → j < 512 → is_gate l.parts.netlist n ≡ false → lane_values l.rows j n ≡ Unknown;
}
