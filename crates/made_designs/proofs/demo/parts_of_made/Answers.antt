use Rattle.made_designs.specs.InjectedFaults.{texts_of}
use Rattle.made_designs.proofs.DemoOutput.{not_refused}
use Rattle.made_designs.proofs.demo.parts_of_made.Goals as goal

pub unreachable-requires : goal.unreachable-requires
unreachable-requires c =
    not_refused (texts_of c.args.made.now) c.requires (c.in-Err-Text.field-0-0, (c.in-Err-Text.field-0-1.line, c.in-Err-Text.field-0-1.rule))
    (rw c.in-Err-Text.field-0-is at c.in-Err-Text.ensures.fault)
