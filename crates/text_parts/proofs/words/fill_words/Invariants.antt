use Rattle.std.proofs.Common.{◌≡◌, ◌++◌, length}
use Rattle.scan_model.specs.Words.{words}
use Rattle.text_parts.specs.Views.{nows}
use Rattle.text_parts.proofs.words.fill_words.Given as goal

abbrev pub invariant-loop-word : goal.invariant-loop-word
invariant-loop-word l = nows l.list.items ++ words l.rest ≡ words l.line

abbrev pub decreases-loop-word : goal.decreases-loop-word
decreases-loop-word l = length l.rest
