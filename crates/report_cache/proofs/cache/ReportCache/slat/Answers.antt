use Rattle.std.proofs.Common.{refl}
use Rattle.report_cache.proofs.Kept.{kept_slat, with_slat}
use Rattle.report_cache.proofs.cache.ReportCache.slat.Goals as goal

pub returns-in-Some-clause-made : goal.returns-in-Some-clause-made
returns-in-Some-clause-made g c deeds in_deeds t =
    kept_slat deeds c.args.view.now c.revision-revision.ensures.view in_deeds c.in-Ok.key c.in-Ok.ensures c.find-report.result (c.find-report.ensures.found deeds t) c.in-Some.slat c.in-Some.is

pub returns-clause-stays : goal.returns-clause-stays
returns-clause-stays g c deeds in_deeds t =
    c.keep.ensures.stays deeds (c.find-report.ensures.stays deeds t)
    (with_slat deeds c.args.view.now c.revision-revision.ensures.view in_deeds c.in-Ok.key c.in-Ok.ensures c.find-report.result (c.find-report.ensures.found deeds t) c.in_ok-slat.slat c.share.result _ c.in_ok-slat.ensures c.share.ensures refl)
