-- The draft of a circuit: its lists after the first two rounds, which may lack levels (rule 8).
use Rattle.std.specs.Prelude.{◌≡◌, List}
use Rattle.std.specs.List.{IsDistinct}
use Rattle.std.specs.Str.{bytes_eq}
use Rattle.scan_model.specs.Netlist.{netlist}
use Rattle.scan_model.specs.Circuits.{IsCircuit}
use Rattle.scan_model.specs.NetlistLines.{Form}
use Rattle.scan_model.specs.NetlistRules.{defined_names}
use Rattle.scan_model.specs.NetlistText.{circuit_in}
use Rattle.bench_reader.specs.NetlistDrafts.{net_lines_from}
use Rattle.bench_reader.specs.declared.reading.CircuitDraft.{CircuitDraft}

-- the draft of lines of these forms
pub record IsDraft (d : CircuitDraft) (fs : List Form) : Type 0 where
  pub lists : netlist d.nets d.pins d.inputs d.outputs ≡ circuit_in fs
  pub circuit : IsCircuit (circuit_in fs)
  pub names : d.names ≡ defined_names fs
  pub differ : IsDistinct bytes_eq (defined_names fs)
  pub net_lines : d.net_lines.items ≡ net_lines_from 1 fs
