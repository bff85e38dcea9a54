use Rattle.std.proofs.Common.{Some, None}
use Rattle.std.proofs.lemmas.Iterator.Consumers.{nth_from_yields_List}
use Rattle.desk_answers.proofs.Segments.{segments_taken}
use Rattle.desk_answers.proofs.routes.resource.segment_at.Goals as goal

pub returns-in_err-segment : goal.returns-in_err-segment
returns-in_err-segment c =
    let p = c.args.params.now in
    let all = segments_taken _ p.pattern.now p.text.now p.path.now p.names.now c.iter.result c.requires c.iter.ensures.value in
    rw c.from_residual.ensures (nth_from_yields_List None c.nth.new.self c.args.place c.in_err-segment.ensures.ran all)

pub returns : goal.returns
returns c =
    let p = c.args.params.now in
    let all = segments_taken _ p.pattern.now p.text.now p.path.now p.names.now c.iter.result c.requires c.iter.ensures.value in
    nth_from_yields_List (Some (c.in_ok-segment.field-0-0, c.in_ok-segment.segment)) c.nth.new.self c.args.place c.in_ok-segment.ensures.ran all
