use Rattle.std.proofs.Common.{rules, tests, ◌∙◌, Global}
use Rattle.std.specs.Str.{bytes_eq}
use Rattle.std.specs.Arc.{arc_value}
use Rattle.std.specs.declared.sync.Arc.{Arc}
use Rattle.std.proofs.lemmas.Iterator.{YieldsList-from_slice}
use Rattle.std.proofs.lemmas.Iterator.Search.{position_from_yields_List}
use Rattle.diagnosis.specs.Designs.{ReadLogFacts}
use Rattle.die_entries.specs.Entries.{arc_values}
use Rattle.die_entries.proofs.FirstThat.{put_is_where, where-map}
use Rattle.die_entries.proofs.entries.put_text.Goals as goal

pub returns : goal.returns
returns c =
    let logs = c.args.logs.now in
    put_is_where (λ (log : Arc ReadLogFacts Global). bytes_eq c.args.text.now (arc_value log).text) logs _ _
    (position_from_yields_List (λ (log : Arc ReadLogFacts Global). bytes_eq c.args.text.now (arc_value log).text) _ _ c.position-place.result c.position-place.ensures.ran (YieldsList-from_slice logs c.iter.ensures.rest) (λ x b q k. search (rules, tests)))
    c.put_at.ensures
    ∙ where-map (λ (log : ReadLogFacts). bytes_eq c.args.text.now log.text) (λ (log : Arc ReadLogFacts Global). arc_value log) logs
    ∙ where-map (bytes_eq c.args.text.now) (λ (log : ReadLogFacts). log.text) (arc_values logs)
