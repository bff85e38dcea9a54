use Rattle.std.proofs.Common.{◌≡◌, ◌∙◌, Err, rules}
use Rattle.scan_model.specs.ScanTest.{scan_test}
use Rattle.scan_model.specs.ScanText.{scan_reading}
use Rattle.scan_model.specs.PatternText.{pattern_reading}
use Rattle.two_frame.specs.TwoFrame.{launch_frame}
use Rattle.diagnosis.specs.Texts.{value}
use Rattle.diagnosis.proofs.Halting.{at_halt, halts_after}
use Rattle.command_words.specs.CommandViews.{shown_files}
use Rattle.desk_commands.specs.FileReadings.{file_reading}
use Rattle.desk_commands.specs.CommandStops.{halt_of}
use Rattle.desk_commands.specs.Views.{no_pairs, over_chains}
use Rattle.desk_commands.proofs.launches.read_over.Goals as goal

pub returns-in_err-chains-clause-told : goal.returns-in_err-chains-clause-told
returns-in_err-chains-clause-told g c = λ held e.
    let is : c.from_residual.result ≡ Err c.in_err-chains.field-0.0 = search rules in
    let files = shown_files c.args.files.now in
    let circuit = c.args.circuit.now in
    rw is (at_halt (file_reading held (scan_reading circuit.nets) files.scan) (over_chains held files circuit) (halt_of c.in_err-chains.field-0.0) (c.in_err-chains.ensures.told held e))

pub returns-in_err-patterns-clause-told : goal.returns-in_err-patterns-clause-told
returns-in_err-patterns-clause-told g c = λ held e.
    let is : c.from_residual-in_err-patterns.result ≡ Err c.in_err-patterns.field-0.0 = search rules in
    let files = shown_files c.args.files.now in
    let circuit = c.args.circuit.now in
    let chains = c.in_ok-chains.chains in
    let halt = halt_of c.in_err-patterns.field-0.0 in
    let behind = at_halt (file_reading held (pattern_reading (launch_frame circuit chains)) files.patterns) (λ patterns. value (scan_test files.profile circuit chains patterns no_pairs)) halt
    (c.in_err-patterns.ensures.told held (c.read_chains.ensures.same ∙ e)) in
    rw is (halts_after (file_reading held (scan_reading circuit.nets) files.scan) (over_chains held files circuit) chains halt (c.in_ok-chains.ensures.told held e) behind)
