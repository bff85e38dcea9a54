use Rattle.slat_view.specs.SlatText.{place_line}
use Rattle.slat_view.proofs.Texts.{mapped_more}
use Rattle.slat_view.proofs.text.place_lines.Goals as goal

pub loop-i-preserved : goal.loop-i-preserved
loop-i-preserved c =
    mapped_more (place_line c.args.parts.now) c.args.places.now c.loop-i.i 0 c.args.text.now c.loop-i.text c.place_line.new.text c.loop-i-test.true c.loop-i.invariant c.in_ok-place_line.ensures
