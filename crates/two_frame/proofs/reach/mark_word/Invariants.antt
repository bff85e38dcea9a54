use Rattle.std.proofs.Common.{◌≡◌, ℕ, ◌+◌, ◌*◌, ◌<◌, true, List, length}
use Rattle.scan_model.specs.declared.logs.LogFacts.{LogFacts}
use Rattle.scan_model.specs.Marks.{is_marked}
use Rattle.log_join.specs.Joining.{StandsFor}
use Rattle.two_frame.specs.FanInMarks.{IsSeen}
use Rattle.two_frame.proofs.reach.mark_word.Given as goal

abbrev pub invariant-loop-point : goal.invariant-loop-point
invariant-loop-point l = record {
  len : length l.marks ≡ length l.fn.marks;
  kept : (n : ℕ) → is_marked l.fn.marks n ≡ true → is_marked l.marks n ≡ true;
  seen : (logs : List LogFacts) → StandsFor logs l.joined → (j k : ℕ) → j < 64 → k < l.point → IsSeen l.marks l.nets l.expected logs l.joined.patterns (64 * l.word + j) k;
}
