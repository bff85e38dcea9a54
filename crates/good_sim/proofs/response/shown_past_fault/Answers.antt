use Rattle.good_sim.proofs.Shifting.{sits_within}
use Rattle.good_sim.proofs.Observing.{rows_fit, have_points}
use Rattle.good_sim.proofs.response.shown_past_fault.Goals as goal

pub shift_rows-requires : goal.shift_rows-requires
shift_rows-requires c = sits_within c.args.parts.now c.args.fault c.args.held.now c.requires.fault c.requires.held

pub values_of_points-requires : goal.values_of_points-requires
values_of_points-requires c = rw (c.as_slice.ensures, c.points.ensures.value, c.deref.ensures.value)
    (have_points c.args.parts.now c.args.outputs.now c.in_ok-rows.rows.items c.requires.outputs (rows_fit c.args.parts.now c.args.fault c.args.held.now c.in_ok-rows.rows.items c.in_ok-rows.ensures c.requires.held))

pub returns : goal.returns
returns c = rw (c.as_slice.ensures, c.points.ensures.value, c.deref.ensures.value, c.in_ok-rows.ensures) at c.values_of_points.ensures
