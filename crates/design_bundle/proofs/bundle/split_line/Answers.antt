use Rattle.std.proofs.Common.{◌==◌, ◌+◌, rules, tests, sym, ◌∙◌, take, drop, length}
use Rattle.std.proofs.lemmas.Iterator.{YieldsList-from_slice}
use Rattle.std.proofs.lemmas.Iterator.Search.{position_from_yields_List}
use Rattle.design_bundle.proofs.Pieces.{IsCut, cut_at, cut_at_end, behind_at, behind_end}
use Rattle.design_bundle.proofs.bundle.split_line.Goals as goal

cut_some : (c : goal.After-split_at) → IsCut c.args.text.now c.split_at.result.0.now c.split_at.result.1.now
cut_some c =
    let at = position_from_yields_List (λ b. b == 10) _ _ c.position.result c.position.ensures.ran (YieldsList-from_slice c.args.text.now c.iter.ensures.rest) (λ x b q k. search (rules, tests)) in
    let cut : IsCut c.args.text.now (take (c.in-Some.i + 1) c.args.text.now) (drop (c.in-Some.i + 1) c.args.text.now) = cut_at c.args.text.now c.in-Some.i (sym c.in-Some.is ∙ at) in
    rw (← c.split_at.ensures.front, ← c.split_at.ensures.back) at cut

cut_none : (c : goal.After-split_at-in-None) → IsCut c.args.text.now c.split_at-in-None.result.0.now c.split_at-in-None.result.1.now
cut_none c =
    let at = position_from_yields_List (λ b. b == 10) _ _ c.position.result c.position.ensures.ran (YieldsList-from_slice c.args.text.now c.iter.ensures.rest) (λ x b q k. search (rules, tests)) in
    let cut : IsCut c.args.text.now (take (length c.args.text.now) c.args.text.now) (drop (length c.args.text.now) c.args.text.now) = cut_at_end c.args.text.now c.requires.some (sym c.in-None.is ∙ at) in
    rw (← c.split_at-in-None.ensures.front, ← c.split_at-in-None.ensures.back) at cut

pub returns-in-Some-clause-pieces : goal.returns-in-Some-clause-pieces
returns-in-Some-clause-pieces c = (cut_some c).pieces

pub returns-in-Some-clause-lines : goal.returns-in-Some-clause-lines
returns-in-Some-clause-lines c = (cut_some c).lines

pub returns-in-None-clause-pieces : goal.returns-in-None-clause-pieces
returns-in-None-clause-pieces c = (cut_none c).pieces

pub returns-in-None-clause-lines : goal.returns-in-None-clause-lines
returns-in-None-clause-lines c = (cut_none c).lines

pub returns-in-Some-clause-behind : goal.returns-in-Some-clause-behind
returns-in-Some-clause-behind c =
    let at = position_from_yields_List (λ b. b == 10) _ _ c.position.result c.position.ensures.ran (YieldsList-from_slice c.args.text.now c.iter.ensures.rest) (λ x b q k. search (rules, tests)) in
    c.split_at.ensures.back ∙ behind_at c.args.text.now c.in-Some.i (sym c.in-Some.is ∙ at)

pub returns-in-None-clause-behind : goal.returns-in-None-clause-behind
returns-in-None-clause-behind c =
    let at = position_from_yields_List (λ b. b == 10) _ _ c.position.result c.position.ensures.ran (YieldsList-from_slice c.args.text.now c.iter.ensures.rest) (λ x b q k. search (rules, tests)) in
    c.split_at-in-None.ensures.back ∙ behind_end c.args.text.now (sym c.in-None.is ∙ at)
