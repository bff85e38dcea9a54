-- The names of a record, as the reader takes it apart.
use Rattle.bridge_pairs.specs.PairText.{TwoNames}
use Rattle.bridge_pairs.specs.declared.fields.NetNames.{NetNames}

abbrev pub names_view : NetNames → TwoNames
names_view n = record { a = n.a.now; b = n.b.now }
