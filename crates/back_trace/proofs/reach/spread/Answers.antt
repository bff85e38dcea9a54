use Rattle.std.proofs.Common.{◌≡◌, ◌∙◌, ℕ, ◌&&◌, ◌||◌, Bool, sym, ap, ◌+◌, ◌∷◌, ◌++◌, []}
use Rattle.scan_model.proofs.FanSweeps.{first_reads, first_reads_more}
use Rattle.lane_rows.specs.Lanes.{lane}
use Rattle.explained_lanes.specs.Traces.{lane_at}
use Rattle.back_trace.proofs.NetRows.{reads_more, eqb_turned}
use Rattle.back_trace.proofs.reach.spread.Goals as goal

pub loop-i-preserved : goal.loop-i-preserved
loop-i-preserved c =
    let circuit = c.args.circuit.now in
    let rows = c.loop-i.rows in
    let read = c.read_at.result in
    let row = c.row-row.result in
    let new = c.add_lanes.new.rows in
    let more : first_reads circuit c.args.gate (c.loop-i.i + 1) ≡ first_reads circuit c.args.gate c.loop-i.i ++ read ∷ [] =
    first_reads_more circuit c.args.gate c.loop-i.i ∙ ap (λ (x : ℕ). first_reads circuit c.args.gate c.loop-i.i ++ x ∷ []) (sym c.read_at.ensures.value) in
    record {
      len = c.add_lanes.ensures.len ∙ c.loop-i.invariant.len;
      lanes = λ j n lj. rw more (reads_more (lane_at c.args.rows.now j n) (lane row j) n read (first_reads circuit c.args.gate c.loop-i.i) (lane_at rows j n) (lane_at new j n)
          (c.loop-i.invariant.lanes j n lj)
          (c.in_ok-add_lanes.ensures.lanes j n lj ∙ ap (λ (b : Bool). lane_at rows j n || (lane row j && b)) (eqb_turned read n)));
    }
