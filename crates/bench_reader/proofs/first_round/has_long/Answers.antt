use Rattle.std.proofs.Common.{rules, tests, sym, ◌∙◌, not}
use Rattle.std.proofs.lemmas.Iterator.{YieldsList-from_slice}
use Rattle.std.proofs.lemmas.Iterator.Search.{any_from_yields_List}
use Rattle.text_parts.proofs.Parts.{list_any-map}
use Rattle.scan_model.specs.Words.{is_short}
use Rattle.bench_reader.proofs.first_round.has_long.Goals as goal

pub returns : goal.returns
returns c =
    any_from_yields_List (λ w. not (is_short w.now)) _ _ c.any.result c.any.ensures.ran (YieldsList-from_slice c.args.names.now c.iter.ensures.rest) (λ x b q k. search (rules, tests))
    ∙ sym (list_any-map (λ w. not (is_short w)) (λ w. w.now) c.args.names.now)
