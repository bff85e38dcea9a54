-- The kinds of patterns, compared.
use Rattle.std.specs.Prelude.{Bool, true, false}
use Rattle.scan_model.specs.declared.parts.PatternKind.{PatternKind}
use Rattle.scan_model.specs.declared.parts.PatternKind.TheVariants.{Capture, Shift}

abbrev pub same_kind : PatternKind → PatternKind → Bool
same_kind Capture Capture = true
same_kind Capture Shift = false
same_kind Shift Capture = false
same_kind Shift Shift = true
