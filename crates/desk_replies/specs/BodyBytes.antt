-- The bytes of a body.
use Rattle.std.specs.Prelude.{ℕ, List}
use Rattle.std.specs.Arc.{arc_value}
use Rattle.scan_model.specs.ReportText.{concatenated}
use Rattle.desk_replies.specs.declared.response.Place.{Place}
use Rattle.desk_replies.specs.declared.response.Place.TheVariants.{Short, Fixed, Text, Report}

abbrev pub body_bytes : Place → List ℕ
body_bytes (Short bytes) = bytes
body_bytes (Fixed bytes) = bytes.now
body_bytes (Text bytes) = bytes
body_bytes (Report lines) = concatenated (arc_value lines)
