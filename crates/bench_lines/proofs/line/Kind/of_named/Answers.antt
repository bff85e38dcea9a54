use Rattle.std.proofs.Common.{◌≡◌, ◌∷◌, Option, Some, None, MatchOption, sym, ap, ◌∙◌}
use Rattle.scan_model.specs.NetlistLines.{name, port_of, form_of_tokens, form_of}
use Rattle.text_parts.specs.Views.{nows}
use Rattle.bench_lines.specs.Parts.{line_tokens}
use Rattle.bench_lines.proofs.line.Kind.of_named.Goals as goal

either_way : {X : Type 0} (o : Option X) {A B : Type 0} {P Q : X → Type 0} → (A → B) → ((x : X) → P x → Q x) → MatchOption o A P → MatchOption o B Q
either_way None f g h = f h
either_way (Some x) f g h = g x h

pub returns-in-Some-behind_sign-2-clause-form : goal.returns-in-Some-behind_sign-2-clause-form
returns-in-Some-behind_sign-2-clause-form c =
    let is : form_of c.args.line.now ≡ port_of c.in-Some.name.now (line_tokens c.in-Some-behind_sign-2.rest.now) =
    ap form_of_tokens (c.in-Some.ensures.tokens ∙ ap (λ ts. name c.in-Some.name.now ∷ ts) c.in-Some-behind_sign-2.ensures.tokens) in
    either_way c.of_port.result (λ e over. is ∙ e) (λ f e. e ∙ sym is) (c.of_port.ensures.form (nows c.args.names.now.items))
