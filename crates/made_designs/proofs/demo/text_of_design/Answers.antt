use Rattle.std.proofs.Common.{◌≡◌, ap, subst}
use Rattle.std.proofs.lemmas.Result.{IfOk-weaker}
use Rattle.scan_model.specs.ScanTest.{ScanTest}
use Rattle.diagnosis.specs.Cases.{CaseFacts}
use Rattle.made_designs.specs.InjectedFaults.{IsText}
use Rattle.made_designs.proofs.DemoView.{is_demo_case}
use Rattle.made_designs.proofs.demo.text_of_design.Goals as goal

pub text_over-text-requires-clause-case : goal.text_over-text-requires-clause-case
text_over-text-requires-clause-case g c κs within = is_demo_case c.args.parts c.in_ok-case.case c.in_ok-case.ensures

pub text_over-text-requires-clause-names : goal.text_over-text-requires-clause-names
text_over-text-requires-clause-names g c κs within = rw c.in_ok-case.ensures c.requires.names

pub returns : goal.returns
returns g c =
    let seed = c.args.demo.seed in
    let blocks = c.args.demo.blocks in
    let test : c.in_ok-case.case.test ≡ c.args.parts = ap (λ (k : CaseFacts). k.test) c.in_ok-case.ensures in
    IfOk-weaker c.text_over-text.result (IsText seed blocks c.in_ok-case.case.test) (IsText seed blocks c.args.parts) (λ text is. subst (λ (t : ScanTest). IsText seed blocks t text) test is) c.text_over-text.ensures
