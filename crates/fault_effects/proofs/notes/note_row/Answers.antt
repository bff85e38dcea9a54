use Rattle.std.proofs.Common.{◌≡◌, ℕ, ◌<◌, List, [], length, set, ap, ◌∙◌, arith}
use Rattle.std.proofs.lemmas.List.{get_or_read, length-set}
use Rattle.lane_rows.specs.Lanes.{lane}
use Rattle.fault_effects.specs.Tables.{row_at, table_of, put_row}
use Rattle.fault_effects.proofs.WalkNotes.{put_table}
use Rattle.fault_effects.proofs.notes.note_row.Goals as goal

pub returns-clause-notes : goal.returns-clause-notes
returns-clause-notes g c =
    let o = c.args.observer.now in
    let rows = c.args.notes.now.rows.items in
    let place = c.args.place in
    let within : place < length rows = omega (arith, c.requires.place, c.requires.notes.len) in
    let old : c.index-old.result.now ≡ row_at rows place = get_or_read rows place c.index-old.result.now within c.index-old.ensures [] in
    record {
      len = length-set rows place c.args.row ∙ c.requires.notes.len;
      summed = g.met.O.ChainObserver.same_sum o c.change.new.sum (put_row (table_of rows) place c.args.row) (table_of (set rows place c.args.row)) (λ q j q_lt lt. put_table rows place c.args.row within q j)
          (c.change.ensures (table_of rows) c.requires.notes.summed (λ j lt. ap (λ (r : List ℕ). lane r j) old));
    }
