use Rattle.std.proofs.Common.{rules, ◌≡◌, ℕ, ◌-◌, length, take, drop, refl, sym, ap, append-nil, ◌∙◌}
use Rattle.std.specs.Prelude.{decimal}
use Rattle.std.proofs.lemmas.List.{take_rest}
use Rattle.std.proofs.lemmas.Result.{on_ok_weaker}
use Rattle.report_lines.proofs.lines.push_scores.Goals as goal

pub returns : goal.returns
returns c =
    let start = c.write_labelled-at-5.result in
    let words = c.write_labelled-at-5.new.words in
    let len : length words ≡ 135 = search rules in
    let all : take (135 - start) (drop start words) ≡ drop start words = ap (λ (n : ℕ). take (n - start) (drop start words)) (sym len) ∙ take_rest words start in
    on_ok_weaker c.append.result
    (λ done.
    done
    ∙ rw (all, c.write_labelled-at-5.ensures.written, c.write_labelled-at-4.ensures.written, c.from.ensures, c.write_labelled-at-3.ensures.written, c.write_labelled-at-2.ensures.written, c.write_labelled-at.ensures.written, append-nil (decimal c.args.row.now.counts.tpsf)) refl)
    c.append.ensures.ok
