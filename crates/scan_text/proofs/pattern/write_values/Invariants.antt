use Rattle.std.proofs.Common.{◌≡◌, length, map, take}
use Rattle.scan_model.specs.PatternText.{character_value}
use Rattle.scan_text.proofs.pattern.write_values.Given as goal

abbrev pub invariant-loop-i : goal.invariant-loop-i
invariant-loop-i l = record {
  len : length l.values ≡ length l.word;
  written : take l.i l.values ≡ map character_value (take l.i l.word);
}
