use Rattle.std.proofs.Common.{not, ap, ◌∙◌}
use Rattle.fail_logs.specs.Frames.{frame_view, places_view}
use Rattle.fail_logs.proofs.GoodFails.{good_lines}
use Rattle.fail_logs.proofs.log_draft.LogDraft.good_fail.Goals as goal

pub returns : goal.returns
returns c =
    let line = c.in_ok-fail.ensures in
    good_lines (frame_view c.args.frame.now) (places_view c.args.frame.now) c.args.self.now c.args.bytes.now line.0 c.good_number.result (c.is_none.ensures ∙ ap not c.if-is_none.false) c.if-self.false line.2 (c.good_number.ensures line.0 line.1)
