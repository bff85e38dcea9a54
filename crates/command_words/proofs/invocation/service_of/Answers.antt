use Rattle.std.proofs.Common.{◌≡◌, Some, map, rules, string_bytes}
use Rattle.std.proofs.lemmas.Result.{IfOk-weaker}
use Rattle.clap.specs.Words.{found_of, rows_of}
use Rattle.command_words.specs.RightWords.{form_named}
use Rattle.command_words.specs.CommandViews.{shown_form, shown_service}
use Rattle.command_words.proofs.Taken.{service_sound}
use Rattle.command_words.proofs.invocation.service_of.Goals as goal

pub returns-clause-sound : goal.returns-clause-sound
returns-clause-sound c =
    let words = map string_bytes c.args.words.now in
    let form = shown_form c.unwrap-form.result in
    let named : form_named words ≡ Some form = search rules in
    IfOk-weaker c.service_in.result _ _
    (λ s. service_sound words form named c.requires (rows_of (found_of c.in_ok-matches.matches)) c.in_ok-matches.ensures (shown_service s)) c.service_in.ensures
