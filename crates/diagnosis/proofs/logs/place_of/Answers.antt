use Rattle.std.proofs.Common.{rules, tests, ◌∙◌, sym, map}
use Rattle.std.specs.Str.{bytes_eq}
use Rattle.std.specs.Arc.{arc_value}
use Rattle.std.specs.declared.sync.Arc.{Arc}
use Rattle.std.proofs.Common.{Global}
use Rattle.std.proofs.lemmas.Iterator.{YieldsList-from_slice}
use Rattle.std.proofs.lemmas.Iterator.Search.{position_from_yields_List}
use Rattle.diagnosis.specs.declared.log.ReadLog.{ReadLog}
use Rattle.diagnosis.proofs.Places.{position_of_map}
use Rattle.diagnosis.proofs.logs.place_of.Goals as goal

pub returns : goal.returns
returns c =
    let logs = c.args.logs.now in
    let text = c.args.text.now in
    let at = position_from_yields_List (λ (log : Arc ReadLog Global). bytes_eq text (arc_value log).text) _ _ c.position.result c.position.ensures.ran (YieldsList-from_slice logs c.iter.ensures.rest) (λ x b q k. search (rules, tests)) in
    at ∙ sym (position_of_map (λ (log : ReadLog). bytes_eq text log.text) (λ (log : Arc ReadLog Global). arc_value log) logs)
    ∙ sym (position_of_map (bytes_eq text) (λ (log : ReadLog). log.text) (map (λ (log : Arc ReadLog Global). arc_value log) logs))
