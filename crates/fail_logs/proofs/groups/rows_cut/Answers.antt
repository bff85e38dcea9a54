use Rattle.std.proofs.Common.{◌≡◌, ℕ, ◌+◌, ◌<◌, true, false, List, [], ◌∷◌, ◌++◌, take, get_or, sym, ◌∙◌, arith, rules}
use Rattle.std.proofs.lemmas.List.{take_more, length-set, get_or_default}
use Rattle.scan_model.specs.declared.logs.CutGroup.{CutGroup}
use Rattle.scan_model.specs.declared.logs.CutGroup.TheVariants.{Outputs}
use Rattle.fail_logs.specs.Groups.{row_of}
use Rattle.fail_logs.proofs.CutGroups.{row_below, mark_row, keep_row, new_group, old_group}
use Rattle.fail_logs.proofs.groups.rows_cut.Goals as goal
use Rattle.fail_logs.proofs.groups.rows_cut.Goals.{then-not-index+in_ok-push, else-not-index}

pub loop-group-preserved : goal.loop-group-preserved
loop-group-preserved c =
    let groups : List CutGroup = c.args.groups.now in
    let i : ℕ = c.loop-group.group-index in
    let g : CutGroup = get_or groups i Outputs in
    let came : List CutGroup = take i groups in
    let count : ℕ = c.args.chains + 1 in
    let more : take (i + 1) groups ≡ came ++ g ∷ [] = take_more groups i Outputs c.loop-group-test.true in
    let row : c.row_of-row.result ≡ row_of g = c.row_of-row.ensures in
    let inside : row_of g < count = row_below c.args.chains g (c.requires.groups i Outputs c.loop-group-test.true) in
    let inv = c.loop-group.invariant in
    elim c.if-not-index.branch [
      | then-not-index+in_ok-push w ↦
          let none : get_or c.loop-group.seen.items (row_of g) false ≡ false = rw (← row) (search rules) in
          rw (w.seen-is, w.rows-is) (record {
            room = length-set c.loop-group.seen.items c.row_of-row.result _ ∙ inv.room;
            seen = λ r lt. rw (row, more) (mark_row count c.loop-group.seen.items came g inv.room inv.seen inside r lt);
            rows = w.in_ok-push.ensures.items ∙ rw (inv.rows, row, more) (sym (new_group count c.loop-group.seen.items came g inv.room inv.seen inside none));
          })
      | else-not-index w ↦
          let there : get_or c.loop-group.seen.items (row_of g) false ≡ true = rw (← row) (get_or_default c.loop-group.seen.items c.row_of-row.result false true (omega (arith, inside, row, inv.room)) ∙ search rules) in
          rw (w.seen-is, w.rows-is) (record {
            room = inv.room;
            seen = λ r lt. rw more (keep_row count c.loop-group.seen.items came g inv.room inv.seen inside there r lt);
            rows = rw more (inv.rows ∙ sym (old_group count c.loop-group.seen.items came g inv.room inv.seen inside there));
          })
    ]
