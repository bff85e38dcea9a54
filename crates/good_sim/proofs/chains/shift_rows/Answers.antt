use Rattle.std.proofs.Common.{◌≡◌, ◌∙◌, [], length, arith}
use Rattle.std.specs.Prelude.{slice_index_or}
use Rattle.std.proofs.lemmas.List.{get_or_default}
use Rattle.good_sim.specs.Shifts.{shifted}
use Rattle.good_sim.proofs.Evaluated.{mapped_more}
use Rattle.good_sim.proofs.Shifting.{shifted_rows-from}
use Rattle.good_sim.proofs.chains.shift_rows.Goals as goal

pub loop-chain-preserved : goal.loop-chain-preserved
loop-chain-preserved c =
    let row = c.as_slice.ensures ∙ c.index-rows-chain.is ∙ get_or_default c.args.rows.now c.loop-chain.chain _ [] c.loop-chain-test.true in
    mapped_more (λ h. shifted c.args.direction c.args.fault h (slice_index_or c.args.rows.now h [])) c.loop-chain.chain c.loop-chain.moved.items c.push.new.self.items c.in_ok-shift_row.field-0
    c.in_ok-push.ensures.items c.loop-chain.invariant (rw row at c.in_ok-shift_row.ensures)

pub returns : goal.returns
returns c =
    let whole : c.loop-chain.chain ≡ length c.args.rows.now = omega arith in
    rw whole at c.loop-chain.invariant ∙ shifted_rows-from c.args.direction c.args.fault c.args.rows.now
