use Rattle.std.proofs.Common.{arith}
use Rattle.std.proofs.lemmas.List.{length-take}
use Rattle.desk_heads.specs.Heads.{head_limit}
use Rattle.desk_heads.proofs.SeenSteps.{front_is, unended, too_large, refused, whole}
use Rattle.desk_heads.proofs.SoughtSteps.{in_front}
use Rattle.desk_heads.proofs.head.checks.seen.Goals as goal

pub head_length_past-requires : goal.head_length_past-requires
head_length_past-requires c = in_front c.args.sought c.min.result c.args.bytes.now c.min.ensures c.requires.sought

pub returns-then-bytes-lt-HEAD_LIMIT : goal.returns-then-bytes-lt-HEAD_LIMIT
returns-then-bytes-lt-HEAD_LIMIT c =
    unended c.args.bytes.now (front_is head_limit _ _ _ c.min.ensures c.in_default.ensures.length) c.if-bytes-lt-HEAD_LIMIT.true

pub returns-else-bytes-lt-HEAD_LIMIT : goal.returns-else-bytes-lt-HEAD_LIMIT
returns-else-bytes-lt-HEAD_LIMIT c =
    too_large c.args.bytes.now (front_is head_limit _ _ _ c.min.ensures c.in_default.ensures.length) c.if-bytes-lt-HEAD_LIMIT.false

pub returns-in-Ok : goal.returns-in-Ok
returns-in-Ok c =
    let judged = c.in-Ok.ensures in
    whole c.args.bytes.now c.in-Some.length (front_is head_limit _ _ _ c.min.ensures c.in-Some.ensures.length) judged.0 judged.1 (omega (arith, c.in-Some.ensures.within, length-take c.min.result c.args.bytes.now)) c.in-Ok.head judged.2

pub returns-in-Err : goal.returns-in-Err
returns-in-Err c =
    let judged = c.in-Err.ensures in
    refused c.args.bytes.now c.in-Some.length (front_is head_limit _ _ _ c.min.ensures c.in-Some.ensures.length) judged.0 judged.1 c.in-Err.fault judged.2
