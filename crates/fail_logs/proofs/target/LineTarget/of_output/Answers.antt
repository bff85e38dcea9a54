use Rattle.std.proofs.Common.{not, is_some, refl, ap, ◌∙◌}
use Rattle.std.specs.Str.{bytes_eq}
use Rattle.text_parts.proofs.Places.{any_position, position_or_length}
use Rattle.fail_logs.proofs.NamedPoints.{turned}
use Rattle.fail_logs.proofs.target.LineTarget.of_output.Goals as goal

pub returns : goal.returns
returns c =
    let outputs = c.args.frame.now.outputs in
    record {
      pattern = c.number_of-pattern.ensures;
      point = c.unwrap_or.ensures ∙ rw (c.place-place.ensures, c.len.ensures) (position_or_length (bytes_eq c.args.name.now) outputs);
      cut = refl;
      numberless = turned _ c.is_none.result c.is_none.ensures ∙ ap (λ o. not (is_some o)) c.number_of-pattern.ensures;
      nowhere = turned _ c.is_none-2.result c.is_none-2.ensures ∙ ap (λ o. not (is_some o)) c.place-place.ensures ∙ ap not (any_position (bytes_eq c.args.name.now) outputs);
    }
