use Rattle.match_counts.proofs.point_counts.PointCounts.flips_behind.Goals as goal

pub returns : goal.returns
returns c = λ σ right g j pin lt captured. c.pin_mask.ensures.lanes σ right g pin.index j pin.kind pin.at pin.drives lt captured
