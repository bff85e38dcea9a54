use Rattle.std.proofs.Common.{◌≡◌, ◌∙◌, ◌<◌, ◌&&◌, length, ap, subst}
use Rattle.std.specs.List.{list_any}
use Rattle.scan_model.specs.Netlist.{Netlist, net_numbers}
use Rattle.scan_model.specs.Cone.{in_fan_in}
use Rattle.scan_model.specs.ScanTest.{point_at}
use Rattle.scan_model.specs.Suspect.{is_cell}
use Rattle.scan_model.proofs.counting.Shown.{observed_net-in_range, point_at-IsPoint}
use Rattle.explained_lanes.specs.Traces.{lane_at}
use Rattle.back_trace.specs.Keys.{observes}
use Rattle.back_trace.proofs.NetRows.{gathered_is, reached_is}
use Rattle.back_trace.proofs.tracing.trace_back.Goals as goal

pub returns-clause-trace : goal.returns-clause-trace
returns-clause-trace c =
    let t = c.args.parts.now in
    let fails = c.args.fails in
    let capture = c.args.block.now.capture in
    let sound = c.circuit.ensures.fits in
    let old = c.in_ok-reach.reach in
    let new = c.spread_back.new.rows in
    let nets_is : c.len-nets.result ≡ length t.netlist.nets = c.len-nets.ensures ∙ ap length (c.nets.ensures.value ∙ ap (λ (x : Netlist). x.nets) c.circuit.ensures.value) in
    let new_len : length new ≡ length t.netlist.nets = c.spread_back.ensures.len ∙ c.in_ok-reach.ensures.len ∙ nets_is in
    let points = c.as_slice-points.ensures in
    record {
      reach = λ j n lj ln. reached_is t fails old capture j n (lane_at new j n)
          (λ k lk. observed_net-in_range t sound (point_at t k) (point_at-IsPoint t sound k lk))
          (λ m lm. gathered_is t fails c.args.observed.now (observes t) c.requires.observed c.requires.fails capture j m (lane_at old j m) (rw points at (c.in_ok-reach.ensures.rows j m lj (rw nets_is lm))))
          (subst (λ (x : Netlist). n < length x.nets → lane_at new j n ≡ list_any (λ m. lane_at old j m && in_fan_in x n m) (net_numbers x)) c.circuit-2.ensures.value
          (λ l. c.in_ok-spread_back.ensures.lanes j n lj l) ln);
      cells = λ j n lj ln. gathered_is t fails c.args.own.now (is_cell t) c.requires.own c.requires.fails capture j n (lane_at c.in_ok-cells.cells j n) (rw points at (c.in_ok-cells.ensures.rows j n lj (rw nets_is ln)));
      firsts = rw points at c.in_ok-firsts.ensures.firsts;
      lasts = c.in_ok-lasts.ensures.lasts;
      lengths = (new_len, c.in_ok-cells.ensures.len ∙ nets_is, c.in_ok-firsts.ensures.len, c.in_ok-lasts.ensures.len);
    }
