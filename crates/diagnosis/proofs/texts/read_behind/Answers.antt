use Rattle.std.proofs.Common.{rules, ◌≡◌, Err}
use Rattle.diagnosis.specs.ReadDesigns.{shown_text}
use Rattle.diagnosis.proofs.Halting.{halts_at_patterns, halts_at_neighbours}
use Rattle.diagnosis.proofs.texts.read_behind.Goals as goal

pub returns-in_err-patterns-clause-told : goal.returns-in_err-patterns-clause-told
returns-in_err-patterns-clause-told g c = λ t tells.
    let is : c.from_residual-in_err-patterns.result ≡ Err c.in_err-patterns.field-0.0 = search rules in
    let shows = g.S.TextSource.shows in
    rw is (halts_at_patterns t (shows c.args.netlist.now, c.args.circuit.now) (shown_text shows c.in_ok-chains.chains) (c.in_ok-chains.ensures.told t tells)
    (g.S.TextSource.halt c.in_err-patterns.field-0.0) (c.in_err-patterns.ensures.told t (rw c.read_chains.ensures.same tells)))

pub returns-in_err-pairs-clause-told : goal.returns-in_err-pairs-clause-told
returns-in_err-pairs-clause-told g c = λ t tells.
    let is : c.from_residual-in_err-pairs.result ≡ Err c.in_err-pairs.field-0.0 = search rules in
    let shows = g.S.TextSource.shows in
    rw is (halts_at_neighbours t (shows c.args.netlist.now, c.args.circuit.now) (shown_text shows c.in_ok-chains.chains) (c.in_ok-chains.ensures.told t tells)
    (shown_text shows c.in_ok-patterns.patterns) (c.in_ok-patterns.ensures.told t (rw c.read_chains.ensures.same tells))
    (g.S.TextSource.halt c.in_err-pairs.field-0.0) (c.in_err-pairs.ensures.told t (rw (c.read_patterns.ensures.same, c.read_chains.ensures.same) tells)))
