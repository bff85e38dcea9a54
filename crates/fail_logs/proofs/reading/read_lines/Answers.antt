use Rattle.fail_logs.specs.Frames.{frame_view, places_view}
use Rattle.fail_logs.proofs.reading.read_lines.Goals as goal

pub take_lines-requires-clause-after : goal.take_lines-requires-clause-after
take_lines-requires-clause-after c = c.new-draft.ensures (frame_view c.args.frame.now) (places_view c.args.frame.now)
