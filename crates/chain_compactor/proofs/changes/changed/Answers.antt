use Rattle.std.proofs.Common.{◌++◌, ◌∷◌, sym, ap, ◌∙◌}
use Rattle.scan_model.specs.declared.values.Tri.{Tri}
use Rattle.scan_model.specs.Values.{xor_of}
use Rattle.lane_rows.specs.Planes.{held}
use Rattle.chain_compactor.proofs.XorChanges.{xor_changed}
use Rattle.chain_compactor.proofs.changes.changed.Goals as goal

pub returns-in-Some : goal.returns-in-Some
returns-in-Some g c = λ j lt tells before after row_is known.
    let p = c.args.point in
    c.xor.ensures j lt
    ∙ xor_changed before after (g.C.Changes.good c.args.changes.now j p) (held c.in-Some.change j) (g.C.Changes.shown c.args.changes.now j p) (held c.args.row j) (c.in-Some.ensures j lt tells) known row_is

pub returns-in-None : goal.returns-in-None
returns-in-None g c = λ j lt tells before after row_is known.
    row_is ∙ ap (λ (x : Tri). xor_of (before ++ x ∷ after)) (sym (c.in-None.ensures j lt tells))
