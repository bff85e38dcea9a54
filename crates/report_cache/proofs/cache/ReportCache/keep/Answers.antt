use Rattle.std.proofs.Common.{ap, sym, subst, ◌∙◌}
use Rattle.report_cache.specs.Truth.{CacheFacts, IsTrueFor}
use Rattle.report_cache.proofs.Kept.{after_put, same_cap}
use Rattle.report_cache.proofs.cache.ReportCache.keep.Goals as goal

pub returns-clause-stays : goal.returns-clause-stays
returns-clause-stays c deeds t is =
    let was = subst (λ (cache : CacheFacts). IsTrueFor cache deeds) (sym c.self.view_is) t in
    after_put deeds c.put-kept.result c.self.inside.kept c.put-kept.new.self c.args.key c.args.findings c.put-kept.ensures.entries c.put-kept.ensures.err was is

pub returns-clause-entries : goal.returns-clause-entries
returns-clause-entries c =
    same_cap c.put-kept.result c.self.inside.kept c.put-kept.new.self _ c.put-kept.ensures.entries c.put-kept.ensures.err ∙ ap (λ (cache : CacheFacts). cache.entries) c.self.view_is
