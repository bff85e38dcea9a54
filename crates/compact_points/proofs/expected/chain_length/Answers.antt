use Rattle.std.proofs.Common.{◌≡◌, List, length, get_or, ap, ◌∙◌}
use Rattle.std.proofs.lemmas.List.{get_or_default}
use Rattle.scan_model.specs.declared.parts.Chain.{Chain}
use Rattle.scan_model.specs.ScanTest.{chain_at, no_chain}
use Rattle.compact_points.proofs.ChainLengths.{few_cells}
use Rattle.compact_points.proofs.expected.chain_length.Goals as goal

pub returns-clause-few : goal.returns-clause-few
returns-clause-few c =
    let t = c.args.parts.now in
    let sound = c.chains.ensures.fits in
    let is_chains = c.as_slice.ensures ∙ c.chains.ensures.value in
    let chain = c.index-as_slice-chain.result in
    let is : get_or c.as_slice.result.now c.args.chain chain ≡ chain_at t c.args.chain = ap (λ (hs : List Chain). get_or hs c.args.chain chain) is_chains ∙ get_or_default t.chains c.args.chain chain no_chain c.requires in
    let count : c.len.result ≡ length (chain_at t c.args.chain).cells = c.len.ensures ∙ ap (λ (x : Chain). length x.cells) is in
    rw count (few_cells t sound c.args.chain c.requires)
