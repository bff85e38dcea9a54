use Rattle.std.proofs.Common.{◌≡◌, ◌≤◌, ◌+◌, ◌-◌, length, map, take}
use Rattle.std.specs.Prelude.{vec_len, vec_capacity}
use Rattle.scan_model.specs.PatternText.{character_value}
use Rattle.text_parts.specs.Views.{nows}
use Rattle.scan_text.proofs.pattern.loads_of.Given as goal

abbrev pub invariant-loop-word : goal.invariant-loop-word
invariant-loop-word l = record {
  room : vec_len l.loads + (length l.words - l.word-index) ≤ vec_capacity l.loads;
  loads : l.loads.items ≡ map (map character_value) (nows (take l.word-index l.words));
}
