use Rattle.std.proofs.Common.{Some}
use Rattle.desk_heads.proofs.head.checks.judged.Goals as goal

pub returns-in-Some : goal.returns-in-Some
returns-in-Some c =
    let read = c.in-Some.ensures.read in
    (Some read.0, read.1, c.checked.ensures read.0 read.2)
