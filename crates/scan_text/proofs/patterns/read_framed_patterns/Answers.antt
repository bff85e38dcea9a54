use Rattle.std.proofs.Common.{rules, ◌≡◌, List, Ok, Err}
use Rattle.scan_model.specs.declared.parts.Pattern.{Pattern}
use Rattle.scan_model.specs.PatternText.{pattern_reading}
use Rattle.text_parts.specs.ReadResults.{Fails}
use Rattle.scan_text.specs.Frames.{frame_view}
use Rattle.scan_text.proofs.FirstFaults.{pattern_first, pattern_none}
use Rattle.scan_text.proofs.patterns.read_framed_patterns.Goals as goal

pub returns-clause-none : goal.returns-clause-none
returns-clause-none c =
    let frame = frame_view c.args.frame.now in
    let read : pattern_reading frame c.args.bytes.now ≡ Ok c.take_lines.new.patterns = search rules in
    pattern_none (λ (patterns : List Pattern). patterns) frame c.args.bytes.now (Ok c.take_lines.new.patterns) read

pub returns-in_err-take_lines-clause-first : goal.returns-in_err-take_lines-clause-first
returns-in_err-take_lines-clause-first c =
    let frame = frame_view c.args.frame.now in
    let is : c.from_residual-in_err-take_lines.result ≡ Err c.in_err-take_lines.field-0.0 = search rules in
    let fails : Fails c.in_err-take_lines.field-0.0 (pattern_reading frame c.args.bytes.now) = search rules in
    rw is (pattern_first (λ (patterns : List Pattern). patterns) frame c.args.bytes.now (Err c.in_err-take_lines.field-0.0) fails)
