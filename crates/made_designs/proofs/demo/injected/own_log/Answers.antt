use Rattle.made_designs.proofs.DemoLog.{is_predicted, is_read, not_refused, own_log_read}
use Rattle.made_designs.proofs.demo.injected.own_log.Goals as goal

pub unreachable-requires : goal.unreachable-requires
unreachable-requires c =
    let k = c.args.case.now in
    let read = is_read k c.requires.case c.args.place c.in_ok-text.text (c.in_ok-text.ensures.reading c.requires.names) in
    not_refused k.test c.args.place c.in_ok-text.text read (c.in-Err-Text.field-0-0.line, c.in-Err-Text.field-0-0.rule)
    (rw (c.in-Err-Text.field-0-is, c.parts.ensures) at c.in-Err-Text.ensures.reading)

pub returns-in-Ok : goal.returns-in-Ok
returns-in-Ok c =
    let k = c.args.case.now in
    let read = is_read k c.requires.case c.args.place c.in_ok-text.text (c.in_ok-text.ensures.reading c.requires.names) in
    own_log_read k.test c.args.place c.in_ok-text.text read c.in-Ok.log (is_predicted k c.requires.case c.args.place c.in_ok-text.text c.in_ok-text.ensures.text)
    (rw c.parts.ensures at c.in-Ok.ensures.log) c.in-Ok.ensures.text (rw c.parts.ensures at c.in-Ok.ensures.reading)
