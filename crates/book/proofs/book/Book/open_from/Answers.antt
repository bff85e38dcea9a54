use Rattle.std.proofs.Common.{rules}
use Rattle.book.proofs.Spoiling.{opened_legal}
use Rattle.book.proofs.book.Book.open_from.Goals as goal

pub returns-in-Ok-clause-legal : goal.returns-in-Ok-clause-legal
returns-in-Ok-clause-legal g c = λ rows is. opened_legal c.args.max_deeds rows c.read_rows.new.kept.deeds (search rules) (search rules) (search rules)
