use Rattle.std.proofs.Common.{◌≡◌, ◌∙◌, ap, map, string_bytes, true}
use Rattle.std.proofs.lemmas.Result.{IfOk-weaker}
use Rattle.clap.specs.Words.{App, app_of, is_simple, matches_of}
use Rattle.command_words.specs.ClapCommands.{asked_in}
use Rattle.command_words.specs.CommandViews.{shown_form}
use Rattle.command_words.proofs.Assignment.{all_assigned, app_is_simple}
use Rattle.command_words.proofs.clap_command.assigned.Goals as goal

pub returns : goal.returns
returns c =
    let words = map string_bytes c.args.words.now in
    let form = shown_form c.args.form.now in
    let app = c.in_ok-command.ensures in
    let simple : is_simple (app_of c.in_ok-command.command) ≡ true = ap is_simple app ∙ app_is_simple words form c.requires in
    IfOk-weaker c.matches_of.result _ _
    (λ m found. ap (λ rows. asked_in rows form.task) (found ∙ ap (λ (a : App). matches_of a words) app) ∙ all_assigned words form c.requires)
    (c.matches_of.ensures simple)
