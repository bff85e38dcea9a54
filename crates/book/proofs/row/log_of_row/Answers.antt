use Rattle.std.proofs.Common.{rules}
use Rattle.std.specs.Arc.{arc_value}
use Rattle.book.proofs.RowLogs.{row_fits, row_stands, row_refused}
use Rattle.book.proofs.Showing.{some_is}
use Rattle.book.proofs.row.log_of_row.Goals as goal

pub returns-in_ok-new-in-Ok-clause-judged : goal.returns-in_ok-new-in-Ok-clause-judged
returns-in_ok-new-in-Ok-clause-judged c =
    row_fits c.args.kept.now.deeds c.deref-2.result.now (arc_value c.in-Some.found.design.now) c.args.design.now c.name.result.now c.args.die.now c.args.text.now c.in-Some.found.number c.in-Ok.log
    c.deref-2.ensures (search rules) (some_is _ _ _ c.in-Some.is c.design.ensures.some) (search rules) (search rules) (search rules) c.in-Ok.ensures.reading

pub returns-in_ok-new-in-Ok-clause-stands : goal.returns-in_ok-new-in-Ok-clause-stands
returns-in_ok-new-in-Ok-clause-stands c =
    row_stands c.args.kept.now.deeds c.deref-2.result.now (arc_value c.in-Some.found.design.now) c.args.design.now c.args.die.now c.args.text.now c.in-Some.found.number (arc_value c.in_ok-new-in-Ok.field-0)
    c.deref-2.ensures (search rules) (some_is _ _ _ c.in-Some.is c.design.ensures.some) (search rules) (search rules) (search rules) (search rules)

pub returns-in-Err-Text-clause-judged : goal.returns-in-Err-Text-clause-judged
returns-in-Err-Text-clause-judged c =
    row_refused c.args.kept.now.deeds c.deref-2.result.now (arc_value c.in-Some.found.design.now) c.args.design.now c.args.die.now c.args.text.now c.in-Some.found.number c.in-Err-Text.field-0-0.line c.in-Err-Text.field-0-0.rule
    c.deref-2.ensures (search rules) (some_is _ _ _ c.in-Some.is c.design.ensures.some) (rw c.in-Err-Text.field-0-is at c.in-Err-Text.ensures.reading)
