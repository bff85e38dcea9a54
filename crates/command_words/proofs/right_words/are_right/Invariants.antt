use Rattle.std.proofs.Common.{◌≡◌, ◌+◌, drop, map, string_bytes}
use Rattle.command_words.specs.RightWords.{are_right}
use Rattle.command_words.proofs.right_words.are_right.Given as goal

abbrev pub invariant-loop-place : goal.invariant-loop-place
invariant-loop-place l = are_right (drop l.place l.arguments) (l.place + 1) (map string_bytes l.words) ≡ are_right l.arguments 1 (map string_bytes l.words)
