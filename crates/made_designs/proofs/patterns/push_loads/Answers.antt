use Rattle.std.proofs.Common.{◌≡◌, ◌∙◌, ap, ◌+◌, ◌*◌, min, [], ◌∷◌, ◌++◌, append_assoc, arith}
use Rattle.made_laws.specs.Draws.{state_after}
use Rattle.made_laws.specs.MadePatterns.{load_word, drawn_digits}
use Rattle.made_designs.proofs.MorePieces.{one_more}
use Rattle.made_designs.proofs.patterns.push_loads.Goals as goal

pub loop-chain-preserved : goal.loop-chain-preserved
loop-chain-preserved c = λ seed i at.
    let so_far = c.loop-chain.invariant seed i at in
    let before : i + 5 * min (25 * c.loop-chain.chain) c.args.blocks ≡ i + 125 * c.loop-chain.chain = omega arith in
    let after : (i + 125 * c.loop-chain.chain) + 5 * c.chain_blocks.result ≡ i + 5 * min (25 * (c.loop-chain.chain + 1)) c.args.blocks = omega arith in
    let start : c.loop-chain.draws.state ≡ state_after seed (i + 125 * c.loop-chain.chain) = so_far.0 ∙ ap (state_after seed) before in
    let digits = drawn_digits seed (i + 125 * c.loop-chain.chain) (5 * c.chain_blocks.result) in (
      c.in_ok-push_digits.ensures.draws seed (i + 125 * c.loop-chain.chain) start ∙ ap (state_after seed) after,
      one_more (load_word seed c.args.blocks i) 0 c.loop-chain.chain c.loop-chain.chain _ _ _ (omega arith) so_far.1
          (c.in_ok-push_digits.ensures.text seed (i + 125 * c.loop-chain.chain) start ∙ ap (λ xs. xs ++ digits) c.in_ok-push.ensures.ok
          ∙ append_assoc c.loop-chain.text (32 ∷ []) digits
          ∙ ap (λ n. c.loop-chain.text ++ 32 ∷ drawn_digits seed (i + 125 * c.loop-chain.chain) (5 * n)) c.chain_blocks.ensures),
    )
