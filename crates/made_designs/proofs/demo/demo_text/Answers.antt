use Rattle.std.proofs.Common.{◌≡◌}
use Rattle.std.proofs.lemmas.Result.{IfOk-weaker}
use Rattle.made_designs.specs.Demo.{demo_written}
use Rattle.made_designs.specs.InjectedFaults.{IsText, texts_of}
use Rattle.made_designs.proofs.DemoOutput.{text_read}
use Rattle.made_designs.proofs.demo.demo_text.Goals as goal

pub text_of_design-text-requires-clause-draws : goal.text_of_design-text-requires-clause-draws
text_of_design-text-requires-clause-draws g c κs within = record { is = c.in_ok-made.ensures.draws }

pub returns : goal.returns
returns g c =
    let seed = c.args.demo.seed in
    let blocks = c.args.demo.blocks in
    IfOk-weaker c.text_of_design-text.result (IsText seed blocks c.in_ok-parts.parts) (λ text. text ≡ demo_written seed blocks)
    (λ text written. text_read seed blocks (texts_of c.in_ok-made.made) c.in_ok-made.ensures.texts c.in_ok-parts.parts text c.in_ok-parts.ensures.stands written)
    c.text_of_design-text.ensures
