-- A chain's line, as the reader takes it apart.
use Rattle.scan_model.specs.ScanText.{ChainNames}
use Rattle.text_parts.specs.Views.{nows}
use Rattle.scan_text.specs.declared.chain.NamedChain.{NamedChain}

abbrev pub named_view : NamedChain → ChainNames
named_view c = record { name = c.name.now; cells = nows c.cells.now }
