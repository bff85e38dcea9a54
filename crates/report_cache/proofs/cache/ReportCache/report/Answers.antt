use Rattle.std.proofs.Common.{refl}
use Rattle.report_cache.proofs.Kept.{kept_lines, with_lines}
use Rattle.report_cache.proofs.cache.ReportCache.report.Goals as goal

pub returns-in-Some-clause-made : goal.returns-in-Some-clause-made
returns-in-Some-clause-made g c deeds in_deeds t =
    kept_lines deeds c.args.view.now c.revision-revision.ensures.view in_deeds c.in-Ok.key c.in-Ok.ensures c.find-report.result (c.find-report.ensures.found deeds t) c.in-Some.report c.in-Some.is

pub returns-clause-stays : goal.returns-clause-stays
returns-clause-stays g c deeds in_deeds t =
    c.keep.ensures.stays deeds (c.find-report.ensures.stays deeds t)
    (with_lines deeds c.args.view.now c.revision-revision.ensures.view in_deeds c.in-Ok.key c.in-Ok.ensures c.find-report.result (c.find-report.ensures.found deeds t) c.in_ok-report.report c.share.result _ c.in_ok-report.ensures c.share.ensures refl)
