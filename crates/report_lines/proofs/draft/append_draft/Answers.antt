use Rattle.std.proofs.Common.{rules, ◌≡◌, ◌+◌, ◌-◌, ◌++◌, ◌<◌, ◌^◌, List, ℕ, length, map, ap, ◌∙◌, arith}
use Rattle.std.proofs.lemmas.List.{length-append}
use Rattle.std.proofs.lemmas.Result.{on_ok_weaker}
use Rattle.report_lines.specs.declared.draft.Draft.{Draft}
use Rattle.report_lines.proofs.LineSteps.{cut_inside, text_added}
use Rattle.report_lines.proofs.draft.append_draft.Goals as goal

pub append_ends-requires : goal.append_ends-requires
append_ends-requires c =
    let old = c.args.draft.now.text in
    let piece = c.args.piece.now in
    let text : c.append.new.self ≡ old ++ piece.text = c.in_ok-append.ensures.ok ∙ ap (λ (bs : List ℕ). old ++ bs) c.as_slice.ensures in
    let fits : c.len.result < 2 ^ 64 = search rules in
    let inside = cut_inside piece c.requires in
    rw c.as_slice-2.ensures (λ k d lt. omega (arith, inside k d lt, fits, c.len.ensures, c.len-2.ensures, ap length text, length-append old piece.text))

pub returns : goal.returns
returns c =
    let old = c.args.draft.now in
    let piece = c.args.piece.now in
    let new : Draft = record { text = c.append.new.self; ends = c.append_ends.new.ends } in
    let text : c.append.new.self ≡ old.text ++ piece.text = c.in_ok-append.ensures.ok ∙ ap (λ (bs : List ℕ). old.text ++ bs) c.as_slice.ensures in
    let start = c.len.result - c.len-2.result in
    let is : start ≡ length old.text = omega (arith, c.len.ensures, c.len-2.ensures, ap length text, length-append old.text piece.text) in
    on_ok_weaker c.append_ends.result
    (λ done. text_added old new piece start is text (done ∙ ap (λ (es : List ℕ). old.ends ++ map (λ (e : ℕ). start + e) es) c.as_slice-2.ensures))
    c.append_ends.ensures
