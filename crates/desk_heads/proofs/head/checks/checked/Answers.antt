use Rattle.std.proofs.Common.{◌∙◌, ◌&&◌, ◌==◌, ◌||◌, ◌≤◌, ap, subst, refl, arith, codes, length}
use Rattle.std.specs.List.{list_any}
use Rattle.std.specs.Str.{IsAscii}
use Rattle.desk_heads.specs.Heads.{is_target, method_of, has_body, is_head, names_close, body_limit}
use Rattle.desk_heads.specs.Fields.{named, content_lengths}
use Rattle.desk_heads.proofs.CheckSteps.{refuses_coding, refuses_lengths, refuses_target, refuses_large, refuses_unsaid, asks}
use Rattle.desk_heads.proofs.head.checks.checked.Goals as goal

pub returns-then-has : goal.returns-then-has
returns-then-has c = refuses_coding c.args.text.now c.args.room.now c.args.spans _ c.of-fields.ensures _ c.has.ensures c.if-has.true

pub returns-then-not-has_right_lengths : goal.returns-then-not-has_right_lengths
returns-then-not-has_right_lengths c =
    refuses_lengths c.args.text.now c.args.room.now c.args.spans _ c.of-fields.ensures _ c.has.ensures c.if-has.false _ c.has_right_lengths.ensures c.if-not-has_right_lengths.true

pub returns-then-not-is_target : goal.returns-then-not-is_target
returns-then-not-is_target c =
    refuses_target c.args.text.now c.args.room.now c.args.spans _ c.of-fields.ensures _ c.has.ensures c.if-has.false _ c.has_right_lengths.ensures c.if-not-has_right_lengths.false
    _ (c.is_target.ensures.test ∙ ap is_target c.of-2.ensures) c.if-not-is_target.true

pub returns-in_default : goal.returns-in_default
returns-in_default c =
    refuses_large c.args.text.now c.args.room.now c.args.spans _ c.of-fields.ensures _ c.has.ensures c.if-has.false _ c.has_right_lengths.ensures c.if-not-has_right_lengths.false
    _ (c.is_target.ensures.test ∙ ap is_target c.of-2.ensures) c.if-not-is_target.false c.in_default.ensures.length

pub returns-then-lacks_length : goal.returns-then-lacks_length
returns-then-lacks_length c =
    let method = c.method_of-method.ensures ∙ ap method_of c.of.ensures in
    let small = subst (λ n. n ≤ body_limit) c.in-Some.ensures.length c.in-Some.ensures.within in
    refuses_unsaid c.args.text.now c.args.room.now c.args.spans _ c.of-fields.ensures _ c.has.ensures c.if-has.false _ c.has_right_lengths.ensures c.if-not-has_right_lengths.false
    _ (c.is_target.ensures.test ∙ ap is_target c.of-2.ensures) c.if-not-is_target.false small
    _ (c.lacks_length.ensures ∙ ap (λ m. has_body m && (length (content_lengths c.of-fields.result) == 0)) method) c.if-lacks_length.true

pub returns : goal.returns
returns c =
    let method = c.method_of-method.ensures ∙ ap method_of c.of.ensures in
    let small = subst (λ n. n ≤ body_limit) c.in-Some.ensures.length c.in-Some.ensures.within in
    asks c.args.text.now c.args.room.now c.args.spans _ c.of-fields.ensures _ c.has.ensures c.if-has.false _ c.has_right_lengths.ensures c.if-not-has_right_lengths.false
    _ (c.is_target.ensures.test ∙ ap is_target c.of-2.ensures) c.if-not-is_target.false small
    _ (c.lacks_length.ensures ∙ ap (λ m. has_body m && (length (content_lengths c.of-fields.result) == 0)) method) c.if-lacks_length.false
    _ c.requires.whole
    (record { whole = omega arith; target = c.requires.within.path; ascii = subst IsAscii c.of-2.ensures c.if-not-is_target.ensures.ascii; body = c.in-Some.ensures.within })
    (record { method = method; target = refl; body = c.in-Some.ensures.length; awaits = c.awaits.ensures; closes = c.closes.ensures ∙ ap (λ m. (c.args.spans.version == 0) || list_any names_close (named (codes "Connection") c.of-fields.result) || is_head m) method })
