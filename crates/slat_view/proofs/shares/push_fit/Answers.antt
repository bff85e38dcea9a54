use Rattle.std.proofs.Common.{◌≡◌, ◌++◌, ◌∷◌, [], List, cond, sym, ap, ◌∙◌, append-nil}
use Rattle.std.proofs.lemmas.Result.{on_ok_weaker}
use Rattle.lane_rows.specs.Lanes.{lane}
use Rattle.pattern_fits.specs.declared.fit.Fit.{Fit}
use Rattle.pattern_fits.specs.FitPlaces.{places_in}
use Rattle.slat_view.proofs.Trying.{chosen}
use Rattle.slat_view.proofs.shares.push_fit.Goals as goal

pub returns-then-is_empty : goal.returns-then-is_empty
returns-then-is_empty c = λ j lt. rw (c.is_empty.ensures.empty c.if-is_empty.true j lt) (sym (append-nil (places_in c.args.fits.now j)))

pub returns : goal.returns
returns c = on_ok_weaker c.push.result (λ pushed j lt. ap (λ (fs : List Fit). places_in fs j) pushed ∙ chosen c.args.fits.now c.args.place c.args.lanes j) c.push.ensures.ok
