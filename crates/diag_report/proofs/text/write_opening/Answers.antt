use Rattle.std.proofs.Common.{◌≡◌, ℕ, List, [], ◌++◌, map, subst}
use Rattle.std.specs.Prelude.{codes}
use Rattle.std.proofs.lemmas.Result.{on_ok_weaker}
use Rattle.scan_model.specs.declared.logs.Bit.{Bit}
use Rattle.scan_model.specs.ReportText.{named_bit_line}
use Rattle.report_lines.specs.declared.draft.Draft.{Draft}
use Rattle.report_lines.specs.LineEnds.{HasLines, AddsLines}
use Rattle.diag_report.specs.Layout.{title_lines, total_lines}
use Rattle.report_lines.proofs.LineSteps.{both_added}
use Rattle.diag_report.proofs.text.write_opening.Goals as goal

-- four parts of a text that is empty before
four_added : (qs bs cs ds : List (List ℕ)) (d0 d1 d2 d3 d4 : Draft) → d0.text ≡ [] → d0.ends ≡ [] → AddsLines qs d0 d1 → AddsLines bs d1 d2 → AddsLines cs d2 d3 → AddsLines ds d3 d4
    → HasLines (qs ++ (bs ++ (cs ++ ds))) d4.text d4.ends
four_added qs bs cs ds d0 d1 d2 d3 d4 no_text no_ends a b c d =
    let lower = both_added bs (cs ++ ds) d1 d2 d4 b (both_added cs ds d2 d3 d4 c d) in
    (both_added qs (bs ++ (cs ++ ds)) d0 d1 d4 a lower).added [] (record { text_is = no_text; ends_are = no_ends })

pub returns : goal.returns
returns g c =
    let form = g.N.ReportNames.form c.args.names.now in
    let tally = c.args.tally.now in
    let head = c.args.head.now in
    let start = c.args.draft.now in
    let d1 = c.title_lines.new.draft in
    let d2 = c.totals.new.draft in
    let d3 = c.bit_lines.new.draft in
    let d4 = c.bit_lines-2.new.draft in
    let conflict = map (named_bit_line form (codes "conflict")) tally.conflict in
    let masked = map (named_bit_line form (codes "masked")) tally.masked in
    let first : AddsLines (title_lines form.title head.design head.die head.logs) start d1 = subst (λ (title : List ℕ). AddsLines (title_lines title head.design head.die head.logs) start d1) c.title.ensures c.in_ok-title_lines.ensures in
    let third : AddsLines conflict d2 d3 = subst (λ (bits : List Bit). AddsLines (map (named_bit_line form (codes "conflict")) bits) d2 d3) c.as_slice.ensures c.in_ok-bit_lines.ensures in
    let Fourth : List Bit → Type 0 = λ bits. AddsLines (map (named_bit_line form (codes "masked")) bits) d3 d4 in
    on_ok_weaker c.bit_lines-2.result
    (λ last. four_added (title_lines form.title head.design head.die head.logs) (total_lines tally c.args.candidates) conflict masked start d1 d2 d3 d4 c.requires.text c.requires.ends first c.in_ok-totals.ensures third (subst Fourth c.as_slice-2.ensures last))
    c.bit_lines-2.ensures
