use Rattle.std.proofs.Common.{◌≡◌, ℕ, List, ◌++◌, length, codes, ap, ◌∙◌}
use Rattle.std.proofs.lemmas.Result.{on_ok_weaker}
use Rattle.scan_model.specs.declared.logs.LogFacts.{LogFacts}
use Rattle.diag_report.specs.Summary.{count_line}
use Rattle.made_designs.proofs.demo.add_fault.Goals as goal

pub returns : goal.returns
returns c =
    let fails : c.len.result ≡ length c.args.injected.now.log.facts.fails = c.len.ensures ∙ ap (λ (facts : LogFacts). length facts.fails) c.facts.ensures in
    on_ok_weaker c.add_count.result
    (λ two.
    two ∙ ap (λ (n : ℕ). c.add_injected.new.text ++ count_line (codes "fails") n) fails
    ∙ ap (λ (t : List ℕ). t ++ count_line (codes "fails") (length c.args.injected.now.log.facts.fails)) c.in_ok-add_injected.ensures)
    c.add_count.ensures
