use Rattle.std.proofs.Common.{◌≡◌, ℕ, List, length, ap, subst, ◌∙◌, arith}
use Rattle.scan_model.specs.declared.logs.Scored.{Scored}
use Rattle.scan_model.specs.ScanTest.{points_of}
use Rattle.scan_model.specs.Coverage.{bits_over}
use Rattle.scan_model.specs.Classes.{class_with}
use Rattle.scan_model.specs.Ranking.{ranked}
use Rattle.scan_model.specs.ReportText.{layout_with, concatenated}
use Rattle.two_frame.specs.TwoFrame.{frame_form, frame_candidates, frame_layout}
use Rattle.two_frame.proofs.FrameLayout.{frame_layout_given}
use Rattle.two_frame.proofs.text.frame_text.Goals as goal

pub make_text_of-requires-clause-patterns : goal.make_text_of-requires-clause-patterns
make_text_of-requires-clause-patterns c = omega (arith, c.requires.joined.0, c.patterns.ensures.fits.patterns.few)

pub make_text_of-requires-clause-points : goal.make_text_of-requires-clause-points
make_text_of-requires-clause-points c = omega (arith, c.requires.joined.1)

pub returns-clause-layout : goal.returns-clause-layout
returns-clause-layout c = λ logs stands.
    let t = c.args.parts.now in
    let head = c.args.head.now in
    let held = c.args.joined.now in
    let P : ℕ → ℕ → Type 0 =
    λ n k. c.into_text.result ≡ concatenated (layout_with (frame_form t) (bits_over n k) head.design head.die head.logs (class_with c.args.expected.now logs) c.args.ranked.now) in
    subst (λ n. P n (length (points_of t))) c.requires.joined.0 (subst (λ k. P held.patterns k) c.requires.joined.1 (c.into_text.ensures ∙ ap concatenated (c.in_ok-report.ensures logs stands)))

pub returns-clause-report : goal.returns-clause-report
returns-clause-report c = λ logs stands rows count best.
    let t = c.args.parts.now in
    let head = c.args.head.now in
    let lines = returns-clause-layout c logs stands in
    let scored = ranked (frame_candidates t logs) in
    lines ∙ ap concatenated (ap (λ (given : List Scored). frame_layout t head.design head.die head.logs (class_with c.args.expected.now logs) given) best
    ∙ ap (λ (n : ℕ). frame_layout t head.design head.die n (class_with c.args.expected.now logs) scored) count
    ∙ frame_layout_given t logs c.args.expected.now rows head.design head.die (length logs) scored)
