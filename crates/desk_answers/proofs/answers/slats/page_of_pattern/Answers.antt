use Rattle.std.proofs.Common.{◌≡◌, ◌∙◌, ◌&&◌, ◌<◌, ltb, Bool, false, ℕ, List, length, sym, ap, ap₂, arith}
use Rattle.std.specs.Prelude.{if◌then◌else◌}
use Rattle.std.proofs.lemmas.Bool.{eqb-true, eqb-false}
use Rattle.scan_model.specs.ScanTest.{ScanTest}
use Rattle.scan_model.specs.ReportText.{concatenated}
use Rattle.diagnosis.specs.Designs.{DesignFacts, facts_of}
use Rattle.slat_view.specs.declared.slat.SlatCount.{SlatCount}
use Rattle.slat_view.specs.Slat.{is_explained, slat_rows}
use Rattle.slat_view.specs.SlatText.{place_lines, pattern_text}
use Rattle.slat_view.proofs.Counting.{pattern_shown, pattern_hidden}
use Rattle.desk_replies.specs.declared.status.Status.TheVariants as status
use Rattle.desk_replies.specs.Bodies.{unknown_pattern_body}
use Rattle.desk_replies.specs.Answers.{plain}
use Rattle.desk_replies.specs.Responses.{response_of}
use Rattle.desk_answers.proofs.answers.slats.page_of_pattern.Goals as goal

pub returns-then-is_empty : goal.returns-then-is_empty
returns-then-is_empty g c =
    let t = c.args.view.now.design.test in
    let logs = facts_of c.args.view.now.logs in
    let w = c.args.pattern in
    let none : (ltb w (length t.patterns) && is_explained t logs w) ≡ false =
    pattern_hidden t logs w c.in_ok-places.places c.in_ok-places.ensures.places (eqb-true _ _ (sym c.is_empty.ensures ∙ c.if-is_empty.true)) in
    let body : c.unknown_pattern_body-body.result ≡ unknown_pattern_body (length (slat_rows t logs)) =
    c.unknown_pattern_body-body.ensures ∙ ap unknown_pattern_body (c.len.ensures ∙ ap (λ (rows : List SlatCount). length rows) c.requires.rows) in
    c.short.ensures
    ∙ ap (λ (b : List ℕ). response_of (plain status.NotFound b)) body
    ∙ sym (ap (λ (b : Bool). response_of (if b then plain status.Ok (pattern_text t logs w) else plain status.NotFound (unknown_pattern_body (length (slat_rows t logs))))) none)

pub returns : goal.returns
returns g c =
    let t = c.args.view.now.design.test in
    let logs = facts_of c.args.view.now.logs in
    let w = c.args.pattern in
    let empty : (length c.in_ok-places.places ≡ 0) → ⊥ = eqb-false _ _ (sym c.is_empty.ensures ∙ c.if-is_empty.false) in
    let some : 0 < length c.in_ok-places.places = grind (arith, empty) in
    let found = pattern_shown t logs w c.in_ok-places.places c.in_ok-places.ensures.places some in
    let is_t : c.parts-parts.result.now ≡ t = c.parts-parts.ensures.value ∙ ap (λ (d : DesignFacts). d.test) c.design.ensures in
    let text : c.in_ok-text.text ≡ pattern_text t logs w =
    c.in_ok-text.ensures ∙ ap₂ (λ (x : ScanTest) (places : List ℕ). concatenated (place_lines x w places)) is_t (c.as_slice.ensures ∙ found.1) in
    c.plain.ensures
    ∙ ap (λ (b : List ℕ). response_of (plain status.Ok b)) (c.text.ensures ∙ text)
    ∙ sym (ap (λ (b : Bool). response_of (if b then plain status.Ok (pattern_text t logs w) else plain status.NotFound (unknown_pattern_body (length (slat_rows t logs))))) found.0)
