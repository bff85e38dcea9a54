use Rattle.std.proofs.Common.{sym, subst}
use Rattle.std.proofs.lemmas.List.Elements.{All-nil}
use Rattle.lru.specs.LruCache.{LruCache}
use Rattle.report_cache.specs.declared.findings.Findings.{Findings}
use Rattle.report_cache.specs.declared.key.ReportKey.{ReportKey}
use Rattle.report_cache.specs.Truth.{IsReportIn}
use Rattle.report_cache.proofs.Kept.{AreTrue}
use Rattle.report_cache.proofs.cache.ReportCache.make.Goals as goal

pub returns-clause-fresh : goal.returns-clause-fresh
returns-clause-fresh c deeds = subst (λ (z : LruCache ReportKey Findings). AreTrue deeds z.entries) (sym c.in_ok-kept.ensures) (All-nil (IsReportIn deeds))
