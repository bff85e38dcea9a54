-- What the logs of a die say together of a bit.
use Rattle.std.specs.Prelude.{List, [], Bool, true, false, not, ◌&&◌, slice_index_or}
use Rattle.std.specs.List.{list_any}
use Rattle.scan_model.specs.declared.values.Tri.{Tri}
use Rattle.scan_model.specs.declared.values.Tri.TheVariants.{Zero, One, Unknown}
use Rattle.scan_model.specs.declared.logs.Bit.{Bit}
use Rattle.scan_model.specs.declared.logs.LogFacts.{LogFacts}
use Rattle.scan_model.specs.declared.logs.BitClass.{BitClass}
use Rattle.scan_model.specs.declared.logs.BitClass.TheVariants.{Conflict, Masked, Failing, Passing, Uncounted}
use Rattle.scan_model.specs.ChainShift.{value_at}
use Rattle.scan_model.specs.ScanTest.{ScanTest}
use Rattle.scan_model.specs.Response.{expected}
use Rattle.scan_model.specs.Coverage.{lists, covers}

-- some log covers the bit as failing, and as passing
abbrev pub some_fails : List LogFacts → Bit → Bool
some_fails logs b = list_any (λ log. covers log b && lists log b) logs

abbrev pub some_passes : List LogFacts → Bit → Bool
some_passes logs b = list_any (λ log. covers log b && not (lists log b)) logs

-- the class of a bit that some log covers as failing, that some log covers as passing, and that is expected to have the value
abbrev pub class_by : Bool → Bool → Tri → BitClass
class_by true true value = Conflict
class_by true false Unknown = Masked
class_by true false Zero = Failing
class_by true false One = Failing
class_by false true Zero = Passing
class_by false true One = Passing
class_by false true Unknown = Uncounted
class_by false false value = Uncounted

abbrev pub class_of : List LogFacts → Tri → Bit → BitClass
class_of logs value b = class_by (some_fails logs b) (some_passes logs b) value

abbrev pub is_conflict : BitClass → Bool
is_conflict Conflict = true
is_conflict Masked = false
is_conflict Failing = false
is_conflict Passing = false
is_conflict Uncounted = false

abbrev pub is_masked : BitClass → Bool
is_masked Conflict = false
is_masked Masked = true
is_masked Failing = false
is_masked Passing = false
is_masked Uncounted = false

abbrev pub is_failing : BitClass → Bool
is_failing Conflict = false
is_failing Masked = false
is_failing Failing = true
is_failing Passing = false
is_failing Uncounted = false

abbrev pub is_passing : BitClass → Bool
is_passing Conflict = false
is_passing Masked = false
is_passing Failing = false
is_passing Passing = true
is_passing Uncounted = false

-- the class of a bit where these rows of values are expected, one of each pattern
abbrev pub class_with : List (List Tri) → List LogFacts → Bit → BitClass
class_with rows logs b = class_of logs (value_at (slice_index_or rows b.pattern []) b.point) b

-- the class of a bit over the logs of a die
abbrev pub class : ScanTest → List LogFacts → Bit → BitClass
class t logs b = class_of logs (expected t b) b
