use Rattle.std.proofs.Common.{ℕ, ◌∷◌, ◌++◌, List, [], map, sym, ap, ◌∙◌, arith}
use Rattle.std.specs.List.{range_with_len}
use Rattle.std.proofs.lemmas.List.FromFn.{map-range_with_len_more}
use Rattle.scan_model.specs.declared.parts.Point.TheVariants.{Cell}
use Rattle.scan_model.specs.Suspect.{observed_net}
use Rattle.chain_compactor.proofs.tables.nets_of.Goals as goal

pub observed_net-requires : goal.observed_net-requires
observed_net-requires c = (c.requires, omega (arith, c.loop-pos-test.true, c.chain_length-count.ensures.value))

pub loop-pos-preserved : goal.loop-pos-preserved
loop-pos-preserved c =
    let seen : ℕ → ℕ = λ i. observed_net c.args.parts.now (Cell c.args.chain i) in
    let i = c.loop-pos.pos in
    c.in_ok-push.ensures.items
    ∙ ap (λ (ys : List ℕ). ys ++ c.observed_net.result ∷ []) c.loop-pos.invariant
    ∙ ap (λ (n : ℕ). map seen (range_with_len 0 i) ++ n ∷ []) c.observed_net.ensures.value
    ∙ sym (map-range_with_len_more seen 0 i i (omega arith))

pub returns : goal.returns
returns c =
    let seen : ℕ → ℕ = λ i. observed_net c.args.parts.now (Cell c.args.chain i) in
    c.loop-pos.invariant ∙ ap (λ (n : ℕ). map seen (range_with_len 0 n)) (omega (arith, c.loop-pos-test.false, c.loop-pos.auto.pos-end, c.chain_length-count.ensures.value))
