use Rattle.std.proofs.Common.{arith, []}
use Rattle.desk_heads.proofs.Room.{fields_fit, whole_length}
use Rattle.desk_heads.proofs.head.checks.read_head.Goals as goal

pub returns-else-spans-text-clause-refused : goal.returns-else-spans-text-clause-refused
returns-else-spans-text-clause-refused c h reads =
    let fits = fields_fit c.args.text.now h reads c.requires.short in
    let found = rw c.in-Ok-Complete.field-0-is at c.in-Ok-Complete.ensures.found in
    let at = found h [] reads (omega arith) in
    let n = whole_length c.args.text.now h reads in
    let m = at.len in
    absurd (omega arith)

pub returns-in-Err-clause-refused : goal.returns-in-Err-clause-refused
returns-in-Err-clause-refused c h reads =
    let fits = fields_fit c.args.text.now h reads c.requires.short in
    c.in-Err.ensures.found h [] reads (omega arith)
