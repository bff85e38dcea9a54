use Rattle.std.proofs.Common.{◌≡◌, take}
use Rattle.std.specs.List.{list_all}
use Rattle.scan_model.specs.PatternText.{is_value}
use Rattle.scan_text.proofs.pattern.has_only_values.Given as goal

abbrev pub invariant-loop-b : goal.invariant-loop-b
invariant-loop-b l = l.only ≡ list_all is_value (take l.b-index l.word)
