use Rattle.std.proofs.Common.{◌++◌, ◌≡◌, List, length, map, subst}
use Rattle.slat_view.specs.declared.slat.SlatCount.{SlatCount}
use Rattle.slat_view.specs.SlatText.{title_lines, total_lines, count_line, count_lines, AddsText}
use Rattle.slat_view.proofs.Texts.{both_added, text_written}
use Rattle.slat_view.proofs.text.slat_text.Goals as goal

pub returns : goal.returns
returns c =
    let slat = c.args.slat.now in
    let start = c.new-text.result in
    let t1 = c.title.new.text in
    let t2 = c.totals.new.text in
    let t3 = c.count_lines.new.text in
    let rows : c.as_slice-rows.result.now ≡ slat.rows = c.as_slice-rows.ensures in
    let second : AddsText (total_lines slat.failing (length slat.rows)) t1 t2 = rw (c.from.ensures, rows) at c.in_ok-totals.ensures in
    let third : AddsText (map count_line slat.rows) t2 t3 = subst (λ (rs : List SlatCount). AddsText (map count_line rs) t2 t3) rows c.in_ok-count_lines.ensures in
    text_written (count_lines c.args.design.now c.args.die.now c.args.logs slat.failing slat.rows) start t3 c.new-text.ensures
    (both_added (title_lines c.args.design.now c.args.die.now c.args.logs) (total_lines slat.failing (length slat.rows) ++ map count_line slat.rows) start t1 t3 c.in_ok-title.ensures
    (both_added (total_lines slat.failing (length slat.rows)) (map count_line slat.rows) t1 t2 t3 second third))
