use Rattle.std.proofs.Common.{rules, ◌≡◌, ◌∙◌, ◌+◌, List, [], ◌∷◌, ◌++◌, Global, map, take, ap, sym, subst, length}
use Rattle.std.specs.declared.sync.Arc.{Arc}
use Rattle.std.proofs.lemmas.List.{map_more, map-append}
use Rattle.std.specs.Arc.{arc_value}
use Rattle.scan_model.specs.ScanTest.{points_of}
use Rattle.scan_model.specs.Coverage.{FitsLog}
use Rattle.scan_model.specs.declared.logs.LogFacts.{LogFacts}
use Rattle.log_join.specs.Joining.{StandsFor}
use Rattle.diagnosis.specs.declared.log.ReadLog.{ReadLog}
use Rattle.diagnosis.specs.Designs.{ReadLogFacts, StandsOver, facts_of}
use Rattle.diagnosis.proofs.LogFits.{log_fits}
use Rattle.diagnosis.proofs.Cases.{log_at}
use Rattle.diagnosis.proofs.diagnosed.joined_of.Goals as goal

pub add-requires : goal.add-requires
add-requires c =
    let t = c.args.parts.now in
    let log = arc_value c.log-item.result in
    let stands = log_at (StandsOver t) c.args.logs.now c.loop-log.log-index c.log-item.result c.requires.stand c.loop-log-test.true c.log-item.is in
    let fits : FitsLog (length t.patterns) (length (points_of t)) log.facts = log_fits t log.design log.die log.text log.facts c.points.ensures.fits c.points.ensures.few stands in
    let same : c.facts.result.now ≡ log.facts = c.facts.ensures ∙ ap (λ (l : ReadLogFacts). l.facts) c.deref.ensures in
    let patterns : c.loop-log.joined.patterns ≡ length t.patterns = search rules in
    let points : c.loop-log.joined.points ≡ length (points_of t) = search rules in
    rw (patterns, points, same) fits

pub loop-log-preserved : goal.loop-log-preserved
loop-log-preserved c =
    let logs = c.args.logs.now in
    let i = c.loop-log.log-index in
    let item = c.log-item.result in
    let before : List ReadLogFacts = map (λ (l : Arc ReadLog Global). arc_value l) (take i logs) in
    let same : c.facts.result.now ≡ (arc_value item).facts = c.facts.ensures ∙ ap (λ (l : ReadLogFacts). l.facts) c.deref.ensures in
    let more : facts_of (map (λ (l : Arc ReadLog Global). arc_value l) (take (i + 1) logs)) ≡ facts_of before ++ c.facts.result.now ∷ [] =
    ap facts_of (map_more (λ (l : Arc ReadLog Global). arc_value l) logs i item c.loop-log-test.true ∙ ap (λ (l : Arc ReadLog Global). before ++ arc_value l ∷ []) (sym c.log-item.is))
    ∙ map-append (λ (l : ReadLogFacts). l.facts) before (arc_value item ∷ [])
    ∙ ap (λ (f : LogFacts). facts_of before ++ f ∷ []) (sym same) in
    record {
      size = (c.add.ensures.size.0 ∙ c.loop-log.invariant.size.0, c.add.ensures.size.1 ∙ c.loop-log.invariant.size.1);
      stands = subst (λ (all : List LogFacts). StandsFor all c.add.new.self) (sym more) (c.add.ensures.joined (facts_of before) c.loop-log.invariant.stands);
    }
