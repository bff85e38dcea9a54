use Rattle.std.proofs.Common.{ℕ, [], sym, ap, ◌∙◌, Vec, Global}
use Rattle.std.proofs.lemmas.List.{get_or-map}
use Rattle.chain_compactor.proofs.changes.nets_in.Goals as goal

pub returns : goal.returns
returns c =
    let rows = c.args.nets.now in
    let h = c.args.chain in
    let row : Vec ℕ Global = c.index-nets-chain.result in
    c.deref.ensures.value ∙ ap (λ (r : Vec ℕ Global). r.items) c.index-nets-chain.is ∙ sym (get_or-map (λ (r : Vec ℕ Global). r.items) rows h row [] c.requires)
