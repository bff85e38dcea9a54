use Rattle.std.proofs.Common.{◌≡◌, ℕ, ◌/◌, ◌<◌, List, length}
use Rattle.scan_model.specs.declared.logs.LogFacts.{LogFacts}
use Rattle.log_join.specs.Joining.{StandsFor}
use Rattle.two_frame.specs.FanInMarks.{IsSeen}
use Rattle.two_frame.proofs.reach.mark_failing.Given as goal

abbrev pub invariant-loop-word : goal.invariant-loop-word
invariant-loop-word l = record {
  len : length l.marks ≡ length l.fn.marks;
  seen : (logs : List LogFacts) → StandsFor logs l.joined → (w k : ℕ) → k < l.joined.points → w / 64 < l.word → IsSeen l.marks l.nets l.expected logs l.joined.patterns w k;
}
