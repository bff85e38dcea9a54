use Rattle.std.proofs.Common.{◌≡◌, Some, map, rules, string_bytes}
use Rattle.std.proofs.lemmas.Result.{IfOk-weaker}
use Rattle.command_words.specs.RightWords.{form_named}
use Rattle.command_words.specs.CommandViews.{shown_form}
use Rattle.command_words.proofs.Taken.{command_taken}
use Rattle.command_words.proofs.invocation.command_of.Goals as goal

pub returns-clause-taken : goal.returns-clause-taken
returns-clause-taken c =
    let words = map string_bytes c.args.words.now in
    let form = shown_form c.in-Some.form in
    let named : form_named words ≡ Some form = search rules in
    IfOk-weaker c.command_in.result _ _ (command_taken words form named _ c.in_ok-matches.ensures) c.command_in.ensures
