use Rattle.std.proofs.Common.{◌≡◌, Bool, IfOk, sym, subst}
use Rattle.desk_outside.specs.declared.deed.DeedKind.{DeedKind}
use Rattle.desk_outside.specs.declared.deed.DeedKind.TheVariants as deed_kind
use Rattle.book.specs.LegalDeeds.{fits}
use Rattle.book.proofs.row.add_row.Goals as goal

-- The texts of a row are those that are judged.
pub returns-in-Design-clause-judged : goal.returns-in-Design-clause-judged
returns-in-Design-clause-judged g c =
    let same : deed_kind.Design c.as_slice.result.now c.as_slice-in-Design.result.now ≡ c.args.row.what = rw (c.as_slice.ensures, c.as_slice-in-Design.ensures) (sym c.in-Design.is) in
    subst (λ (what : DeedKind). IfOk c.add_design_row.result (λ r. fits c.args.kept.now.deeds what ≡ r)) same c.add_design_row.ensures.judged
