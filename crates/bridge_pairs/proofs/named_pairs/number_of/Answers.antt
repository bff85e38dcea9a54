use Rattle.std.proofs.Common.{rules, ◌≡◌, length, is_some, Some, None, sym, ap, ◌∙◌}
use Rattle.std.specs.Prelude.{position, unwrap_or}
use Rattle.std.specs.Str.{bytes_eq}
use Rattle.text_parts.proofs.Places.{any_position, position_or_length}
use Rattle.bridge_pairs.proofs.named_pairs.number_of.Goals as goal

pub returns-in_err-place : goal.returns-in_err-place
returns-in_err-place c =
    let names = c.args.names.now in
    let name = c.args.name.now in
    let none : c.from_residual.result ≡ None = search rules in
    rw none (sym (any_position (bytes_eq name) names) ∙ ap is_some (sym c.place.ensures ∙ c.in_err-place.was))

pub returns : goal.returns
returns c =
    let names = c.args.names.now in
    let name = c.args.name.now in
    let found : position (bytes_eq name) names ≡ Some c.in_ok-place.place = sym c.place.ensures ∙ c.in_ok-place.was in
    (sym (any_position (bytes_eq name) names) ∙ ap is_some found, sym (ap (λ o. unwrap_or o (length names)) found) ∙ position_or_length (bytes_eq name) names)
