use Rattle.std.proofs.Common.{Some, not, is_some, refl, ap, ◌∙◌}
use Rattle.std.specs.Str.{bytes_eq}
use Rattle.scan_model.specs.declared.logs.CutGroup.TheVariants.{Chain}
use Rattle.text_parts.proofs.Places.{any_position, position_or_length}
use Rattle.fail_logs.proofs.NamedPoints.{turned}
use Rattle.fail_logs.proofs.target.LineTarget.of_cut.Goals as goal

pub returns : goal.returns
returns c =
    let chains = c.args.frame.now.chains in
    record {
      pattern = refl;
      point = refl;
      cut = ap (λ n. Some (Chain n)) (c.unwrap_or-chain.ensures ∙ rw (c.place-place.ensures, c.len.ensures) (position_or_length (bytes_eq c.args.chain.now) chains));
      numberless = refl;
      nowhere = turned _ c.is_none.result c.is_none.ensures ∙ ap (λ o. not (is_some o)) c.place-place.ensures ∙ ap not (any_position (bytes_eq c.args.chain.now) chains);
    }
