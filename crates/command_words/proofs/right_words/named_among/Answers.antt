use Rattle.std.proofs.Common.{◌∙◌, ap, map, string_bytes}
use Rattle.std.specs.Prelude.{option_map}
use Rattle.command_words.specs.RightWords.{fits}
use Rattle.command_words.specs.CommandViews.{shown_form}
use Rattle.command_words.proofs.Taken.{find_shown}
use Rattle.command_words.proofs.right_words.named_among.Goals as goal

pub returns : goal.returns
returns c =
    ap (option_map shown_form) (c.copied.ensures ∙ c.found_among.ensures)
    ∙ find_shown shown_form (λ form. fits form (map string_bytes c.args.words.now)) c.args.forms.now
