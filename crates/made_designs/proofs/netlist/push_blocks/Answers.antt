use Rattle.std.proofs.Common.{List, ℕ, ◌++◌, append_assoc, ap, ◌∙◌, refl, arith}
use Rattle.made_laws.specs.MadeNetlist.{block_cells, block_gates}
use Rattle.made_designs.proofs.MorePieces.{line_added}
use Rattle.made_designs.proofs.netlist.push_blocks.Goals as goal

pub loop-block-preserved : goal.loop-block-preserved
loop-block-preserved c = λ seed at.
    let n = c.loop-block.block in
    let before = c.loop-block.invariant seed at in
    let step = c.in_ok-push_gates.ensures seed before.1 in
    let added = step.0 ∙ ap (λ (bs : List ℕ). bs ++ block_gates seed n) c.in_ok-push_cells.ensures ∙ append_assoc c.loop-block.text (block_cells n) (block_gates seed n) in
    (line_added (λ b. block_cells b ++ block_gates seed b) c.args.text.now _ _ _ 0 n n (omega arith) before.0 added refl, step.1)
