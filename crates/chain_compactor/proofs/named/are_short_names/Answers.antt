use Rattle.std.proofs.Common.{rules, tests, sym, ◌∙◌}
use Rattle.std.proofs.lemmas.Iterator.{YieldsList-from_slice}
use Rattle.std.proofs.lemmas.Iterator.Search.{all_from_yields_List}
use Rattle.std.proofs.lemmas.List.Folds.{list_all-map}
use Rattle.scan_model.specs.Words.{is_short_name}
use Rattle.chain_compactor.proofs.named.are_short_names.Goals as goal

pub returns : goal.returns
returns c =
    all_from_yields_List (λ w. is_short_name w.now) _ _ c.all.result c.all.ensures.ran (YieldsList-from_slice c.args.words.now c.iter.ensures.rest) (λ x b q k. search (rules, tests))
    ∙ sym (list_all-map is_short_name (λ w. w.now) c.args.words.now)
