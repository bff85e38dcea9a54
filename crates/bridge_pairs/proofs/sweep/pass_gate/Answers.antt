use Rattle.std.proofs.Common.{◌||◌, ap, sym, ◌∙◌}
use Rattle.std.proofs.Math.Bool.{or-false}
use Rattle.scan_model.specs.Netlist.{reads}
use Rattle.bridge_pairs.specs.PairRows.{has_pair}
use Rattle.bridge_pairs.proofs.PairRows.{no_row_read}
use Rattle.bridge_pairs.proofs.sweep.pass_gate.Goals as goal

pub returns-then-not-is_reached-clause-here : goal.returns-then-not-is_reached-clause-here
returns-then-not-is_reached-clause-here c = λ j lt.
    let rows = c.args.rows.now in
    let none = no_row_read rows (reads c.args.circuit.now c.args.gate) j (sym c.is_reached.ensures ∙ c.if-not-is_reached.true) in
    sym (ap (λ b. has_pair rows j c.args.gate || b) none ∙ or-false (has_pair rows j c.args.gate))
