use Rattle.std.proofs.Common.{◌≡◌, false, refl, sym, ap, ◌∙◌, arith, length, length-append}
use Rattle.scan_model.specs.Lines.{text_lines}
use Rattle.design_bundle.specs.Bundle.{is_mark}
use Rattle.design_bundle.specs.BundleRest.{line_in, fault_after}
use Rattle.design_bundle.proofs.BundleRests.{IsBefore-start, IsBefore-line, is_mark-append, is_mark-line_in, fault_after-line}
use Rattle.design_bundle.proofs.bundle.Rest.text_before_mark.Goals as goal

pub loop-text-init : goal.loop-text-init
loop-text-init c = record {
  before = IsBefore-start c.args.self.now.text.now;
  fault = λ due. refl;
  line = c.requires.line;
  room = c.requires.room;
}

pub loop-text-preserved : goal.loop-text-preserved
loop-text-preserved c =
    let piece = c.split_line.result.0.now in
    let rest = c.split_line.result.1.now in
    let plain : is_mark piece ≡ false = sym (is_mark-append piece rest c.split_line.ensures.some) ∙ ap is_mark (sym c.split_line.ensures.whole) ∙ sym c.is_mark.ensures ∙ c.if-not-is_mark.true in
    record {
      before = IsBefore-line c.args.self.now.text.now c.loop-text.after.text.now piece rest c.loop-text.invariant.before c.split_line.ensures.whole c.split_line.ensures.pieces plain;
      fault = λ due. c.loop-text.invariant.fault due
          ∙ ap (fault_after due c.loop-text.after.line) c.split_line.ensures.lines
          ∙ fault_after-line due c.loop-text.after.line (line_in piece) (text_lines rest) c.loop-text.invariant.line (is_mark-line_in piece ∙ plain);
      line = omega (arith, c.loop-text.invariant.line);
      room = let len = ap length c.split_line.ensures.whole ∙ length-append piece rest in omega (arith, len, c.split_line.ensures.some, c.loop-text.invariant.room);
    }
