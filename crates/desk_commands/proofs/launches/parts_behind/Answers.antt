use Rattle.std.proofs.Common.{subst}
use Rattle.scan_model.specs.Circuits.{IsCircuit}
use Rattle.scan_model.specs.ScanTest.{scan_test}
use Rattle.command_words.specs.CommandViews.{shown_files}
use Rattle.desk_commands.specs.Views.{no_pairs, over_circuit}
use Rattle.desk_commands.proofs.ReadFiles.{made_of}
use Rattle.desk_commands.proofs.launches.parts_behind.Goals as goal

pub parts_of-requires-clause-circuit : goal.parts_of-requires-clause-circuit
parts_of-requires-clause-circuit g c = subst IsCircuit c.circuit.view_is c.circuit.invariant.circuit

pub returns-clause-told : goal.returns-clause-told
returns-clause-told g c = λ held e.
    let circuit = c.args.netlist.circuit in
    let over = c.in_ok-over.over in
    made_of (over_circuit held (shown_files c.args.files.now) circuit) (scan_test c.args.files.now.profile circuit over.chains over.patterns no_pairs) c.parts_of.result
    (c.in_ok-over.ensures.told held e) c.parts_of.ensures.parts c.parts_of.ensures.stop
