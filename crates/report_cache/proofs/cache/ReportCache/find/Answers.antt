use Rattle.std.proofs.Common.{sym, subst}
use Rattle.lru.specs.LruCache.{LruCache}
use Rattle.report_cache.specs.declared.findings.Findings.{Findings}
use Rattle.report_cache.specs.declared.key.ReportKey.{ReportKey}
use Rattle.report_cache.specs.Truth.{CacheFacts, IsTrueFor}
use Rattle.report_cache.proofs.Kept.{AreTrue, promoted_true, found_true, none_true, shared_true}
use Rattle.report_cache.proofs.cache.ReportCache.find.Goals as goal

pub returns-clause-stays : goal.returns-clause-stays
returns-clause-stays c deeds t =
    let was = subst (λ (cache : CacheFacts). IsTrueFor cache deeds) (sym c.self.view_is) t in
    subst (λ (z : LruCache ReportKey Findings). AreTrue deeds z.entries) (sym c.promote.ensures.entries) (promoted_true deeds _ c.self.inside.kept.entries was)

pub returns-clause-found : goal.returns-clause-found
returns-clause-found c deeds t =
    let was = subst (λ (cache : CacheFacts). IsTrueFor cache deeds) (sym c.self.view_is) t in
    let kept = c.in-Some.kept.now in
    shared_true deeds c.args.key.now kept c.shared-found.result c.shared-found.ensures.report c.shared-found.ensures.slat
    (found_true deeds c.self.inside.kept.entries c.args.key.now kept was (sym c.in-Some.ensures))

pub returns-in_default-clause-found : goal.returns-in_default-clause-found
returns-in_default-clause-found c deeds t = none_true deeds c.args.key.now c.none.result c.none.ensures
