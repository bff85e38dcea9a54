use Rattle.std.proofs.Common.{◌≡◌, ℕ, List, length, ap, subst, ◌∙◌, arith}
use Rattle.scan_model.specs.declared.logs.Scored.{Scored}
use Rattle.scan_model.specs.Coverage.{bits_over}
use Rattle.scan_model.specs.Classes.{class_with}
use Rattle.scan_model.specs.Ranking.{ranked}
use Rattle.scan_model.specs.ReportText.{layout_with, concatenated}
use Rattle.chain_compactor.specs.CompactMatches.{compact_candidates}
use Rattle.chain_compactor.specs.CompactReport.{compact_form, compact_layout}
use Rattle.chain_compactor.proofs.text.compact_text.Goals as goal

pub make_text_of-requires-clause-patterns : goal.make_text_of-requires-clause-patterns
make_text_of-requires-clause-patterns c = omega (arith, c.requires.joined.0, c.patterns.ensures.fits.patterns.few)

pub make_text_of-requires-clause-points : goal.make_text_of-requires-clause-points
make_text_of-requires-clause-points c = omega (arith, c.requires.joined.1)

pub returns-clause-layout : goal.returns-clause-layout
returns-clause-layout c = λ logs stands.
    let t = c.args.parts.now in
    let k = c.args.compact.now in
    let head = c.args.head.now in
    let held = c.args.joined.now in
    let P : ℕ → ℕ → Type 0 =
    λ n m. c.into_text.result ≡ concatenated (layout_with (compact_form t k) (bits_over n m) head.design head.die head.logs (class_with c.args.expected.now logs) c.args.ranked.now) in
    subst (λ n. P n (length k.points)) c.requires.joined.0 (subst (λ m. P held.patterns m) c.requires.joined.1 (c.into_text.ensures ∙ ap concatenated (c.in_ok-report.ensures logs stands)))

-- given expected values that are those of the compactor, the classes are too: both read one row at one place
pub returns-clause-report : goal.returns-clause-report
returns-clause-report c = λ logs stands rows count best.
    let t = c.args.parts.now in
    let k = c.args.compact.now in
    let head = c.args.head.now in
    let lines = returns-clause-layout c logs stands in
    let scored = ranked (compact_candidates t k logs) in
    lines ∙ ap concatenated (ap (λ (given : List Scored). compact_layout t k head.design head.die head.logs (class_with c.args.expected.now logs) given) best
    ∙ ap (λ (n : ℕ). compact_layout t k head.design head.die n (class_with c.args.expected.now logs) scored) count
    ∙ ap (λ (values : List (List _)). compact_layout t k head.design head.die (length logs) (class_with values logs) scored) rows)
