use Rattle.shared_desk.proofs.Started.{started}
use Rattle.shared_desk.proofs.starting.start.Goals as goal

pub returns-in-Ok-lay_table-clause-started : goal.returns-in-Ok-lay_table-clause-started
returns-in-Ok-lay_table-clause-started g c =
    let book = c.in-Ok-open_from.ensures in
    let laid = c.in-Ok-lay_table.ensures in
    let made = c.with_seats.ensures in
    started _ _ _ _ c.in-Ok-open_from.book c.of.result c.in-Ok-lay_table.first.table_id c.in-Ok-lay_table.desk c.with_seats.result.0 c.in-Ok-lay_table.first.me c.with_seats.result.1
    book.limit c.deeds-mark.ensures.book book.later book.rows c.of.ensures laid.desk laid.first made.desk made.count made.each
