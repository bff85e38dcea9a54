use Rattle.std.proofs.Common.{◌∙◌, ap, sym, Ok}
use Rattle.std.proofs.lemmas.Result.{err_from_is_err_and}
use Rattle.design_bundle.specs.Bundle.{bundle_text}
use Rattle.desk_commands.proofs.FilePlaces.{same_four}
use Rattle.desk_commands.proofs.commands.pack.bundle_over.Goals as goal

pub returns-in_err-bundle_text-clause-told : goal.returns-in_err-bundle_text-clause-told
returns-in_err-bundle_text-clause-told c =
    let is = err_from_is_err_and c.from_residual.result c.from_residual.ensures.1 in
    rw (is.1, is.2) tt

pub returns-clause-told : goal.returns-clause-told
returns-clause-told c =
    let packed = c.in_ok-bundle_text.ensures ∙ ap bundle_text (same_four _ _ _ _ _ _ _ _ _ _ c.profile.ensures.value c.as_slice.ensures c.as_slice-2.ensures c.as_slice-3.ensures c.as_slice-4.ensures) in
    ap Ok (sym packed)
