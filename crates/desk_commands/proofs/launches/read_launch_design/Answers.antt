use Rattle.std.proofs.Common.{◌∙◌, ℕ, List, Ok, subst}
use Rattle.text_parts.specs.ReadResults.{Gives}
use Rattle.scan_model.specs.NetlistText.{netlist_reading}
use Rattle.diagnosis.proofs.Halting.{comes_after}
use Rattle.command_words.specs.CommandViews.{shown_files}
use Rattle.desk_commands.specs.FileReadings.{file_reading}
use Rattle.desk_commands.specs.CommandStops.{halt_of}
use Rattle.desk_commands.specs.Views.{over_circuit}
use Rattle.desk_commands.proofs.ReadFiles.{reading_comes}
use Rattle.desk_commands.proofs.launches.read_launch_design.Goals as goal

pub returns-clause-told : goal.returns-clause-told
returns-clause-told g c = λ held e.
    let files = shown_files c.args.files.now in
    let text = c.in_ok-text.text in
    let answer = c.read_netlist_named-answer.result in
    let stands = subst (λ (bytes : List ℕ). Gives (λ n. n.circuit) answer (netlist_reading bytes)) c.as_slice.ensures c.read_netlist_named-answer.ensures.reading in
    let serves = reading_comes held netlist_reading files.netlist (λ n. n.circuit) text answer (Ok c.in_ok-netlist.netlist) (c.in_ok-text.ensures.text held e) c.in_ok-text.ensures.within stands c.in_ok-netlist.ensures.named in
    comes_after (file_reading held netlist_reading files.netlist) (over_circuit held files) halt_of (λ x. x) c.in_ok-netlist.netlist.circuit c.parts_behind.result serves
    (c.parts_behind.ensures.told held (c.read_text.ensures.same ∙ e))
