use Rattle.std.proofs.Common.{◌≡◌, ◌∙◌, sym, ap, Some, length, arith}
use Rattle.std.specs.List.{position}
use Rattle.book.specs.Dies.{is_die, kept_logs, kept_signs}
use Rattle.book.proofs.NotedDies.{bare_is_last, bare_logs, bare_signs}
use Rattle.book.proofs.state.dies.Dies.find_or_make.Goals as goal

pub returns-clause-place : goal.returns-clause-place
returns-clause-place c =
    let place : length c.args.self.now ≡ c.len-place.result = omega (arith, ap length c.self.view_is) in
    ap (position (is_die c.args.design.now c.args.die.now)) c.in_ok-push.ensures.ok
    ∙ bare_is_last c.args.self.now c.args.design.now c.args.die.now (sym c.in_default.ensures)
    ∙ ap (λ n. Some n) place

pub returns-clause-logs : goal.returns-clause-logs
returns-clause-logs c d x = ap (λ dies. kept_logs dies d x) c.in_ok-push.ensures.ok ∙ bare_logs c.args.self.now c.args.design.now c.args.die.now d x

pub returns-clause-signs : goal.returns-clause-signs
returns-clause-signs c d x = ap (λ dies. kept_signs dies d x) c.in_ok-push.ensures.ok ∙ bare_signs c.args.self.now c.args.design.now c.args.die.now d x
