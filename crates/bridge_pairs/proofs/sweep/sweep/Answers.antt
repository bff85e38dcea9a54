use Rattle.std.proofs.Common.{◌≡◌, ◌<◌, length, get_or, refl, ◌∙◌, arith}
use Rattle.bridge_pairs.specs.PairRows.{has_pair}
use Rattle.bridge_pairs.specs.Ranks.{start_of, target_of}
use Rattle.bridge_pairs.proofs.PairRows.{swept_lane}
use Rattle.bridge_pairs.proofs.Ranking.{start_within, target_within, swept_start, swept_target, feedback_in_order}
use Rattle.bridge_pairs.proofs.sweep.sweep.Goals as goal

pub loop-k-init : goal.loop-k-init
loop-k-init c =
    let circuit = c.args.ranked.now.circuit.now in
    let order = c.args.ranked.now.order.now in
    let ranks = c.args.ranked.now.ranks.now in
    let batch = c.args.batch.now in
    let rows = c.set_starts.new.rows in
    let len : length rows ≡ length circuit.nets = c.set_starts.ensures.len ∙ c.requires.rows in
    record {
      len = len;
      swept = λ j d lt.
          let p = get_or batch j d in
          swept_start circuit order ranks c.requires.ranked (start_of ranks p) c.window-low.result.0 (has_pair rows j) (start_within ranks (length circuit.nets) p (c.requires.nets j d lt)) (c.window-low.ensures.low j d lt) (omega arith)
          (λ n n_lt. c.in_ok-set_starts.ensures.starts j n d lt (omega arith));
    }

pub loop-k-preserved : goal.loop-k-preserved
loop-k-preserved c =
    let circuit = c.args.ranked.now.circuit.now in
    let order = c.args.ranked.now.order.now in
    let ranks = c.args.ranked.now.ranks.now in
    let batch = c.args.batch.now in
    let within : c.loop-k.k < length order = omega arith in
    record {
      len = c.pass_gate.ensures.len ∙ c.loop-k.invariant.len;
      swept = λ j d lt.
          swept_lane circuit order c.loop-k.rows c.pass_gate.new.rows (get_or order c.loop-k.k 0) c.loop-k.k (start_of ranks (get_or batch j d)) j c.requires.ranked.netlist c.requires.ranked.evaluation within refl
          (c.in_ok-pass_gate.ensures.here j (omega arith)) (c.in_ok-pass_gate.ensures.elsewhere j)
          (start_within ranks (length circuit.nets) (get_or batch j d) (c.requires.nets j d lt)) (c.loop-k.invariant.swept j d lt);
    }

pub returns-clause-lanes : goal.returns-clause-lanes
returns-clause-lanes c = λ j d lt.
    let circuit = c.args.ranked.now.circuit.now in
    let order = c.args.ranked.now.order.now in
    let ranks = c.args.ranked.now.ranks.now in
    let p = get_or c.args.batch.now j d in
    let within = c.requires.nets j d lt in
    swept_target circuit order ranks c.requires.ranked (start_of ranks p) (target_of ranks p) c.loop-k.k (has_pair c.loop-k.rows j) (target_within ranks (length circuit.nets) p within)
    (omega (arith, c.window-low.ensures.high j d lt)) (omega arith) (c.loop-k.invariant.swept j d lt)
    ∙ feedback_in_order circuit order ranks c.requires.ranked p within.0 within.1
