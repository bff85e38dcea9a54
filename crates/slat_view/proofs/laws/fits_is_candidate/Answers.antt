use Rattle.slat_view.proofs.Fitting.{fits_counts}
use Rattle.slat_view.proofs.laws.fits_is_candidate.Goals as goal

pub returns : goal.returns
returns c logs f w lt is = fits_counts c.args.parts.now logs f w lt is
