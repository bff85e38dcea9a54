use Rattle.std.proofs.Common.{◌<◌, ◌∙◌, ◌++◌, length, arith, length-append, ap, Err}
use Rattle.desk_heads.specs.Heads.{head_limit}
use Rattle.desk_heads.proofs.IncomingSteps.{unended_short, no_head_before, grows_on}
use Rattle.desk_heads.proofs.incoming.read_head.Goals as goal

pub loop-fault-smaller : goal.loop-fault-smaller
loop-fault-smaller g c =
    let short : length c.loop-fault.inbox < head_limit = unended_short _ c.in-Unended.ensures.sees in
    let more = c.in-Ok.ensures.grows in
    omega (arith, short, more.2, ap length more.1, length-append c.head.new.self more.0, ap length c.head.ensures.same)

pub loop-fault-preserved : goal.loop-fault-preserved
loop-fault-preserved g c =
    let more = c.in-Ok.ensures.grows in
    let same = c.head.ensures.same in
    let cut = more.1 ∙ ap (λ bytes. bytes ++ more.0) same in
    record {
      comes = cc (c.in-Ok.ensures.comes (λ no. cc));
      grows = grows_on c.args.inbox.now c.loop-fault.inbox _ more.0 c.loop-fault.invariant.grows cut;
      there = λ has. absurd (no_head_before c.args.inbox.now c.loop-fault.inbox c.loop-fault.invariant.grows c.in-Unended.ensures.sees has);
      needed = λ _. record { before = c.loop-fault.inbox; piece = more.0; grown = c.loop-fault.invariant.grows; unended = c.in-Unended.ensures.sees; cut = cut; fits = omega (arith, more.3) };
      sent = c.in-Ok.ensures.sent ∙ c.loop-fault.invariant.sent;
      later = omega arith;
    }

pub returns-in-Err-End-clause-there : goal.returns-in-Err-End-clause-there
returns-in-Err-End-clause-there g c = λ has. absurd (no_head_before c.args.inbox.now c.loop-fault.inbox c.loop-fault.invariant.grows c.in-Unended.ensures.sees has)

pub returns-in-Err-LinkFault-clause-there : goal.returns-in-Err-LinkFault-clause-there
returns-in-Err-LinkFault-clause-there g c = λ has. absurd (no_head_before c.args.inbox.now c.loop-fault.inbox c.loop-fault.invariant.grows c.in-Unended.ensures.sees has)

pub returns-in-Err-NoMemory-clause-there : goal.returns-in-Err-NoMemory-clause-there
returns-in-Err-NoMemory-clause-there g c = λ has. absurd (no_head_before c.args.inbox.now c.loop-fault.inbox c.loop-fault.invariant.grows c.in-Unended.ensures.sees has)

pub returns-in-Err-NoMemory-clause-lost : goal.returns-in-Err-NoMemory-clause-lost
returns-in-Err-NoMemory-clause-lost g c _ =
    let lost = c.in-Err-NoMemory.ensures.lost (ap Err c.in-Err-NoMemory.field-0-is) in
    (lost.0, lost.1, cc (lost.2, c.loop-fault.invariant.comes, c.head.ensures.same))
