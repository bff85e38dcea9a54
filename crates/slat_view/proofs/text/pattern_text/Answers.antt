use Rattle.std.proofs.Common.{◌∷◌, [], map}
use Rattle.std.specs.Prelude.{codes, decimal}
use Rattle.scan_model.specs.ReportText.{line}
use Rattle.slat_view.specs.SlatText.{place_line, place_lines, AddsText}
use Rattle.slat_view.proofs.Texts.{both_added, text_written}
use Rattle.slat_view.proofs.text.pattern_text.Goals as goal

pub returns : goal.returns
returns c =
    let t = c.args.parts.now in
    let places = c.args.places.now in
    let first = line (codes "pattern" ∷ decimal c.args.pattern ∷ []) in
    let start = c.new-text.result in
    let t1 = c.number_line.new.text in
    let t2 = c.place_lines.new.text in
    let head : AddsText (first ∷ []) start t1 = rw c.from.ensures at c.in_ok-number_line.ensures in
    text_written (place_lines t c.args.pattern places) start t2 c.new-text.ensures (both_added (first ∷ []) (map (place_line t) places) start t1 t2 head c.in_ok-place_lines.ensures)
