use Rattle.std.proofs.Common.{◌≡◌, Ok, rules}
use Rattle.scan_model.specs.LogText.{log_reading}
use Rattle.desk_commands.proofs.JoinedLogs.{one_joined}
use Rattle.desk_commands.proofs.views.JoinedLogsDieLogs.add_text.Goals as goal

pub invariant_of-self-2 : goal.invariant_of-self-2
invariant_of-self-2 g c =
    let old = c.self.inside in
    let frame = g.V.View.frame old.view.now in
    let reads : log_reading frame c.args.text ≡ Ok c.in_ok-facts.facts = search rules in (
      c.self.invariant.0,
      one_joined frame old.texts c.args.text c.in_ok-facts.facts reads c.push.new.self c.in_ok-push.ensures.ok old.joined c.add.new.self c.self.invariant.1 c.add.ensures.size c.add.ensures.joined,
    )
