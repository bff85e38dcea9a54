use Rattle.std.proofs.Common.{◌≡◌, ◌+◌, ◌++◌, map, take}
use Rattle.report_lines.proofs.draft.append_ends.Given as goal

abbrev pub invariant-loop-end : goal.invariant-loop-end
invariant-loop-end l = l.ends ≡ l.initial.ends ++ map (λ e. l.start + e) (take l.end-index l.more)
