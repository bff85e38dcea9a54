use Rattle.std.proofs.Common.{rules, ◌≡◌, ℕ, ◌+◌, ◌++◌, List, eqb, get_or, Option, Some, None, sym, ap, ◌∙◌, append-nil, arith}
use Rattle.std.specs.Prelude.{position}
use Rattle.std.proofs.lemmas.Result.{on_ok_weaker}
use Rattle.scan_model.specs.declared.logs.Scored.{Scored}
use Rattle.scan_model.specs.ReportText.{concatenated}
use Rattle.made_designs.specs.Demo.{rank_line, rank_lines_of}
use Rattle.made_designs.proofs.FirstPlace.{numbered_at, numbered_none}
use Rattle.made_designs.proofs.demo.lines.add_rank.Goals as goal

pub returns-in_default : goal.returns-in_default
returns-in_default c =
    let rows = c.args.rows.now in
    let text = c.args.text.now in
    let none : position (λ (row : Scored). eqb row.place c.args.place) rows ≡ None = search rules in
    sym (ap (λ (r : Option (ℕ × Scored)). text ++ concatenated (rank_lines_of r)) (numbered_none (λ (row : Scored). eqb row.place c.args.place) 1 rows none) ∙ append-nil text)

pub returns : goal.returns
returns c =
    let rows = c.args.rows.now in
    let text = c.args.text.now in
    let before = c.in-Some.before in
    let none : Scored = record { place = 0; counts = record { tfsf = 0; tfsp = 0; tpsf = 0 } } in
    let there : position (λ (row : Scored). eqb row.place c.args.place) rows ≡ Some before = search rules in
    let found = numbered_at (λ (row : Scored). eqb row.place c.args.place) 1 rows before none there in
    let counted : before + 1 ≡ 1 + before = omega arith in
    on_ok_weaker c.add_rank_line.result
    (
    λ added. added
    ∙ ap (λ (n : ℕ). text ++ rank_line (n, get_or rows before none)) counted
    ∙ ap (λ (bs : List ℕ). text ++ bs) (sym (append-nil (rank_line (1 + before, get_or rows before none))))
    ∙ sym (ap (λ (r : Option (ℕ × Scored)). text ++ concatenated (rank_lines_of r)) found)
    )
    c.add_rank_line.ensures
