use Rattle.std.proofs.Common.{◌++◌, ap, ◌∙◌}
use Rattle.scan_model.specs.ScanTest.{ScanTest}
use Rattle.scan_model.specs.ReportText.{concatenated}
use Rattle.made_designs.specs.InjectedFaults.{head_lines, place_of}
use Rattle.made_designs.proofs.DemoLines.{text_is}
use Rattle.made_designs.proofs.demo.text_over.Goals as goal

pub returns : goal.returns
returns g c =
    let seed = c.args.demo.seed in
    let blocks = c.args.demo.blocks in
    text_is seed blocks c.args.case.now.test (place_of c.in_ok-injected.injected) c.new-text.result c.add_head.new.text c.add_found.new.text c.new-text.ensures
    (c.in_ok-add_head.ensures ∙ ap (λ (t : ScanTest). c.new-text.result ++ concatenated (head_lines seed blocks t)) c.parts.ensures)
    c.in_ok-add_found.ensures (c.in_ok-injected.ensures.drawn seed blocks c.requires.draws)
