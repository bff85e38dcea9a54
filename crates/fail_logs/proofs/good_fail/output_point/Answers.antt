use Rattle.std.proofs.Common.{false, length, not, is_some, unwrap_or, sym, ap, ◌∙◌}
use Rattle.std.specs.Prelude.{slice_index_or}
use Rattle.std.specs.Str.{bytes_eq}
use Rattle.text_parts.proofs.Places.{any_position, position_or_length}
use Rattle.fail_logs.proofs.good_fail.output_point.Goals as goal

pub returns : goal.returns
returns c = λ w e.
    let outputs = c.args.frame.now.outputs in
    let is = sym c.in_ok-place.ensures in
    record {
      somewhere = ap not (sym (any_position (bytes_eq c.args.name.now) outputs) ∙ ap is_some is);
      captured = ap (λ o. slice_index_or c.args.frame.now.shifts.items (unwrap_or o 0) false) e ∙ sym c.is_shift.ensures ∙ c.if-is_shift.false;
      point = sym (position_or_length (bytes_eq c.args.name.now) outputs) ∙ ap (λ o. unwrap_or o (length outputs)) is;
    }
