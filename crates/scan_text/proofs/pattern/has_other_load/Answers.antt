use Rattle.std.proofs.Common.{rules, tests, sym, ◌∙◌, not}
use Rattle.std.specs.List.{list_all}
use Rattle.std.proofs.lemmas.Iterator.{YieldsList-from_slice}
use Rattle.std.proofs.lemmas.Iterator.Search.{any_from_yields_List}
use Rattle.text_parts.proofs.Parts.{list_any-map}
use Rattle.scan_model.specs.PatternText.{is_value}
use Rattle.scan_text.proofs.pattern.has_other_load.Goals as goal

pub returns : goal.returns
returns c =
    any_from_yields_List (λ w. not (list_all is_value w.now)) _ _ c.any.result c.any.ensures.ran (YieldsList-from_slice c.args.loads.now c.iter.ensures.rest) (λ x b q k. search (rules, tests))
    ∙ sym (list_any-map (λ w. not (list_all is_value w)) (λ w. w.now) c.args.loads.now)
