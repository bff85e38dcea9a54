use Rattle.std.proofs.Common.{◌≡◌, Ok, None, ap}
use Rattle.bench_reader.proofs.FirstRound.{within_definition}
use Rattle.bench_reader.proofs.first_round.NetlistDraft.take_definition.Goals as goal

pub returns-in_ok-add_definition-clause-within : goal.returns-in_ok-add_definition-clause-within
returns-in_ok-add_definition-clause-within c = λ is.
    let none : c.in_ok-rule.rule ≡ None = cc in
    within_definition c.args.self.now c.add_sound_name.new.self c.add_definition.new.self c.args.number c.args.net.now c.in-Some.driver c.args.operands.now c.requires (c.in_ok-rule.ensures.added (ap Ok none)) c.in_ok-add_definition.ensures (c.in_ok-rule.ensures.nets (ap Ok none)) (c.in_ok-rule.ensures.pins (ap Ok none))
