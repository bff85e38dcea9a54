use Rattle.slat_view.proofs.Fitting.{fits_sum}
use Rattle.slat_view.proofs.laws.fits_by_sum.Goals as goal

pub returns : goal.returns
returns c logs f w = fits_sum c.args.parts.now logs f w
