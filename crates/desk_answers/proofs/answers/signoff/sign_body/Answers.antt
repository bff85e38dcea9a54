use Rattle.std.proofs.Common.{◌≡◌, ℕ, List, Some, Result, Ok, Err, IfErr, subst}
use Rattle.serde_json.specs.Data.{Data}
use Rattle.serde_json.specs.Read.{read}
use Rattle.serde_json.specs.View.{view}
use Rattle.desk_answers.specs.declared.answers.signoff.BodyFault.{BodyFault}
use Rattle.desk_answers.specs.declared.answers.signoff.BodyFault.TheVariants as fault
use Rattle.die_entries.specs.declared.sign.Sign.{Sign}
use Rattle.desk_answers.specs.SignBodies.{IsSign, IsSignBody}
use Rattle.desk_answers.proofs.answers.signoff.sign_body.Goals as goal

sign_of_read : (text : List ℕ) (value : Data) (body : Sign) → read text ≡ Some value → IsSignBody text body → IsSign value body
sign_of_read text value body e sign =
    let same : sign.value ≡ value = cc (sign.read_is, e) in
    subst (λ (v : Data). IsSign v body) same sign.sign

refused : (text : List ℕ) (value : Data) (r : Result Sign BodyFault) → read text ≡ Some value
    → IfErr r (λ e. e ≡ fault.NotASign → (body : Sign) → ¬ (IsSign value body))
    → IfErr r (λ e. e ≡ fault.NotASign → (body : Sign) → ¬ (IsSignBody text body))
refused text value (Ok b) e h = tt
refused text value (Err f) e h = λ named body sign. h named body (sign_of_read text value body e sign)

pub returns-clause-refused : goal.returns-clause-refused
returns-clause-refused c =
    refused c.args.bytes.now (view c.in_ok-value.value) c.sign_of.result c.in_ok-value.ensures.value.1 c.sign_of.ensures.refused
