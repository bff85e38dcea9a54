use Rattle.std.proofs.Common.{◌≡◌, ◌≤◌, ◌+◌, ℕ, List, [], ◌∷◌, ◌++◌, Bool, length, All, true, Some, None, sym, ap, ◌∙◌, subst, rules, arith}
use Rattle.std.proofs.lemmas.List.{length-append}
use Rattle.std.specs.Prelude.{slice_get}
use Rattle.desk_outside.specs.declared.deed.Deed.{Deed}
use Rattle.diagnosis.specs.Designs.{ViewFacts}
use Rattle.book.specs.LegalDeeds.{each_fits}
use Rattle.book.specs.Rows.{added_if}
use Rattle.book.specs.RowsAhead.{IsDesignIn}
use Rattle.book.proofs.DesignsAhead.{designs_after}
use Rattle.book.proofs.OneMore.{each_fits-push}
use Rattle.book.proofs.Spoiling.{row_spoiled, kept_more, kept_all, no_fit, on_ok_then, past_end, no_room}
use Rattle.book.proofs.opening.read_rows.Goals as goal

pub returns-in_default-clause-rows : goal.returns-in_default-clause-rows
returns-in_default-clause-rows g c = λ rows is.
    let inv = c.loop-row.invariant in
    let answers = c.in_ok-look.ensures.answers (g.K.Keeper.rows c.args.keeper.now) (g.K.Keeper.faults c.args.keeper.now) inv.same inv.later inv.answers in
    let answered = c.in_ok-deed.ensures.answers (g.K.Keeper.rows c.args.keeper.now) (g.K.Keeper.faults c.args.keeper.now) (c.in_ok-look.ensures.same ∙ inv.same) (omega (arith, inv.later, c.in_ok-look.ensures.later)) answers in
    kept_all rows c.loop-row.kept.deeds c.loop-row.row (inv.rows rows is) (sym (answered.0.of_row rows is) ∙ (search rules))

pub returns-then-not-branch-clause-spoiled : goal.returns-then-not-branch-clause-spoiled
returns-then-not-branch-clause-spoiled g c = λ rows row is err.
    let inv = c.loop-row.invariant in
    let answers = c.in_ok-look.ensures.answers (g.K.Keeper.rows c.args.keeper.now) (g.K.Keeper.faults c.args.keeper.now) inv.same inv.later inv.answers in
    let answered = c.in_ok-deed.ensures.answers (g.K.Keeper.rows c.args.keeper.now) (g.K.Keeper.faults c.args.keeper.now) (c.in_ok-look.ensures.same ∙ inv.same) (omega (arith, inv.later, c.in_ok-look.ensures.later)) answers in
    let few : c.loop-row.row ≤ c.args.limit = omega arith in
    let spoiled = row_spoiled c.args.limit rows c.loop-row.kept.deeds c.loop-row.row c.in-Some.deed inv.fit (inv.rows rows is) inv.count few
    (sym (answered.0.of_row rows is) ∙ c.in-Some.is) (no_fit _ _ (c.in_ok-add_row.ensures.judged ∙ c.if-not-branch.true)) in
    cc

pub loop-row-preserved : goal.loop-row-preserved
loop-row-preserved g c =
    let inv = c.loop-row.invariant in
    let answers = c.in_ok-look.ensures.answers (g.K.Keeper.rows c.args.keeper.now) (g.K.Keeper.faults c.args.keeper.now) inv.same inv.later inv.answers in
    let answered = c.in_ok-deed.ensures.answers (g.K.Keeper.rows c.args.keeper.now) (g.K.Keeper.faults c.args.keeper.now) (c.in_ok-look.ensures.same ∙ inv.same) (omega (arith, inv.later, c.in_ok-look.ensures.later)) answers in
    let deeds : c.add_row.new.kept.deeds ≡ c.loop-row.kept.deeds ++ c.in-Some.deed ∷ [] = c.in_ok-add_row.ensures.deeds ∙ ap (λ (b : Bool). added_if b c.loop-row.kept.deeds c.in-Some.deed) c.if-not-branch.false in
    let long : length c.add_row.new.kept.deeds ≡ length c.loop-row.kept.deeds + 1 = ap length deeds ∙ length-append c.loop-row.kept.deeds (c.in-Some.deed ∷ []) in
    record {
      fit = subst (λ (ds : List Deed). each_fits [] ds ≡ true) (sym deeds) (each_fits-push [] c.loop-row.kept.deeds c.in-Some.deed inv.fit (c.in_ok-add_row.ensures.judged ∙ c.if-not-branch.false));
      count = long ∙ ap (λ (n : ℕ). n + 1) inv.count;
      rows = λ rows is. deeds ∙ kept_more rows c.loop-row.kept.deeds c.loop-row.row c.in-Some.deed (inv.rows rows is) (sym (answered.0.of_row rows is) ∙ c.in-Some.is);
      answers = answered.1;
      foreseen = designs_after c.loop-row.kept.deeds c.in-Some.deed c.add_row.new.kept.deeds _ _ deeds c.in_ok-deed.ensures.foreseen (c.in_ok-look.ensures.foreseen inv.foreseen);
      same = c.in_ok-deed.ensures.same ∙ c.in_ok-look.ensures.same ∙ inv.same;
      later = omega (arith, inv.later, c.in_ok-look.ensures.later, c.in_ok-deed.ensures.later);
    }

pub returns-clause-rows : goal.returns-clause-rows
returns-clause-rows g c = λ rows is.
    let inv = c.loop-row.invariant in
    let end : c.from-end.result ≡ c.loop-row.row = omega arith in
    on_ok_then c.is_past_end.result _ _ c.is_past_end.ensures.none
    (λ none. kept_all rows c.loop-row.kept.deeds c.loop-row.row (inv.rows rows is) (subst (λ (n : ℕ). slice_get rows n ≡ None) end (sym (c.in_ok-past.ensures.told rows (inv.same ∙ is)) ∙ none)))

pub returns-clause-spoiled : goal.returns-clause-spoiled
returns-clause-spoiled g c = λ rows row is err.
    let inv = c.loop-row.invariant in
    let end : c.from-end.result ≡ c.loop-row.row = omega arith in
    let past = past_end c.is_past_end.result c.from-end.result row c.in_ok-past.past c.is_past_end.ensures.some err in
    let few : c.loop-row.row ≤ c.args.limit = omega arith in
    let full : c.args.limit ≤ c.loop-row.row = omega arith in
    row_spoiled c.args.limit rows c.loop-row.kept.deeds c.loop-row.row past.1.0 inv.fit (inv.rows rows is) inv.count few
    (subst (λ (n : ℕ). slice_get rows n ≡ Some past.1.0) end (sym (c.in_ok-past.ensures.told rows (inv.same ∙ is)) ∙ past.1.1)) (no_room _ full)
    ∙ ap Some (sym end ∙ past.0)

pub add_row-requires-clause-foreseen : goal.add_row-requires-clause-foreseen
add_row-requires-clause-foreseen g c κs within =
    subst (λ (dies : List ViewFacts). All (λ (die : ViewFacts). IsDesignIn c.loop-row.kept.deeds die.design) dies) (sym (c.foreseen.ensures ∙ c.in_ok-deed.ensures.foreseen))
    (c.in_ok-look.ensures.foreseen c.loop-row.invariant.foreseen)
