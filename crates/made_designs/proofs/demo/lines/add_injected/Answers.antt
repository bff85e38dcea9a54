use Rattle.std.proofs.Common.{rules, ◌≡◌, ◌++◌, ◌∷◌, [], List, ℕ, get_or, sym, ap, ◌∙◌}
use Rattle.std.specs.Prelude.{codes, decimal}
use Rattle.std.proofs.lemmas.Option.{get_or_from_slice_get}
use Rattle.std.proofs.lemmas.Result.{on_ok_weaker}
use Rattle.scan_model.specs.declared.fault.Fault.{Fault}
use Rattle.scan_model.specs.Universe.{universe}
use Rattle.scan_model.specs.ReportText.{spaced, line, fault_words, no_fault}
use Rattle.made_designs.proofs.DemoLines.{fault_line}
use Rattle.made_designs.proofs.demo.lines.add_injected.Goals as goal

pub returns : goal.returns
returns c =
    let t = c.args.parts.now in
    let text = c.args.text.now in
    let number = decimal c.args.place in
    let f = c.in-Some.fault in
    let is_fault : get_or (universe t) c.args.place no_fault ≡ f = get_or_from_slice_get (universe t) c.args.place f no_fault (sym c.in-Some.ensures.fault) in
    let words : c.append.new.self ≡ text ++ (codes "injected" ++ (32 ∷ (number ++ (32 ∷ [])))) = search rules in
    let written : c.push_fault.new.line ++ 10 ∷ [] ≡ text ++ line (codes "injected" ∷ number ∷ fault_words t f) =
    ap (λ (bs : List ℕ). bs ++ 10 ∷ []) (c.in_ok-push_fault.ensures ∙ ap (λ (bs : List ℕ). bs ++ spaced (fault_words t f)) words) ∙ fault_line text t f (codes "injected") number in
    on_ok_weaker c.push.result (λ pushed. pushed ∙ written ∙ ap (λ (x : Fault). text ++ line (codes "injected" ∷ number ∷ fault_words t x)) (sym is_fault)) c.push.ensures.ok
