use Rattle.std.proofs.Common.{◌≡◌, ℕ, ◌+◌, ◌*◌, ◌<◌, ◌-◌, ◌∙◌, [], length, get_or, sym, ap, arith}
use Rattle.std.proofs.lemmas.List.{get_or_default}
use Rattle.scan_model.specs.declared.parts.Chain.{Chain}
use Rattle.scan_model.specs.ScanTest.{no_pattern}
use Rattle.scan_model.specs.NetValue.{assigned}
use Rattle.scan_model.proofs.Cells.{cells_within}
use Rattle.scan_model.proofs.Loads.{row_fits, rows_more, as_many}
use Rattle.lane_rows.specs.Sources.{lane_values}
use Rattle.lane_rows.proofs.WordAssigning.{column_assigned}
use Rattle.lane_rows.proofs.sources.assign_chains.Goals as goal

pub driven_words-requires-clause-fit : goal.driven_words-requires-clause-fit
driven_words-requires-clause-fit c = λ k d lt.
    let chains = c.args.chains.now in
    let h = c.loop-h.h - 1 in
    let loads = (get_or c.args.patterns.now k d).loads in
    let fit = c.requires.fit k d lt in
    let named : h < length chains = omega arith in
    let loaded : h < length loads = omega (arith, as_many chains loads fit) in
    let row = get_or loads h [] in
    let cells : length c.as_slice-cells.result.now ≡ length c.index-chains-h.result.cells = ap length c.as_slice-cells.ensures ∙ ap (λ (each : Chain). length each.cells) (sym c.index-chains-h.is) in
    record {
      has = loaded;
      within = omega (arith, row_fits chains loads h c.index-chains-h.result row fit named c.index-chains-h.is (get_or_default loads h [] row loaded), cells);
    }

pub assign-requires-clause-in_range : goal.assign-requires-clause-in_range
assign-requires-clause-in_range c =
    rw (c.as_slice-cells.ensures, ← c.index-chains-h.is, c.loop-h.auto.rows) (cells_within (λ n. n < length c.args.rows.now) c.args.chains.now (c.loop-h.h - 1) c.index-chains-h.result (omega arith) c.index-chains-h.is c.requires.in_range)

pub loop-h-preserved : goal.loop-h-preserved
loop-h-preserved c =
    let chains = c.args.chains.now in
    let h = c.loop-h.h - 1 in
    let chain = c.index-chains-h.result in
    let words = c.in_ok-loads.loads.items in
    let named : h < length chains = omega arith in
    let cells : length c.as_slice-cells.result.now ≡ length chain.cells = ap length c.as_slice-cells.ensures ∙ ap (λ (each : Chain). length each.cells) (sym c.index-chains-h.is) in
    let there = rw (c.as_slice-cells.ensures, ← c.index-chains-h.is, c.deref.ensures.value) at c.assign.ensures.there in
    record {
      within = omega arith;
      there = λ n j lj.
          let at = 64 * c.args.word + j in
          let loads = (get_or c.args.patterns.now j no_pattern).loads in
          let fit = c.requires.fit j no_pattern lj in
          let loaded : h < length loads = omega (arith, as_many chains loads fit) in
          let row = get_or loads h [] in
          let is_row = get_or_default loads h [] row loaded in
          let fits : length chain.cells ≡ length row = row_fits chains loads h chain row fit named c.index-chains-h.is is_row in
          let written : (m : ℕ) → lane_values c.assign.new.rows at m ≡ assigned chain.cells row (lane_values c.loop-h.rows at) m = λ m.
          there m j (omega (arith, c.requires.few))
          ∙ column_assigned chain.cells words row j m (lane_values c.loop-h.rows at) (c.in_ok-loads.ensures.len ∙ cells)
          (λ i lt. c.in_ok-loads.ensures.value i j lj (omega (arith, c.in_ok-loads.ensures.len)))
          (λ i lt le is. absurd (omega (arith, fits))) in
          rows_more chains loads (lane_values c.loop-h.rows at) (lane_values c.assign.new.rows at) (lane_values c.args.rows.now at) c.loop-h.h h chain row fit named (omega arith) c.index-chains-h.is is_row
          (λ m. c.loop-h.invariant.there m j lj) written n;
      elsewhere = λ n j lj away. c.assign.ensures.elsewhere n j lj away ∙ c.loop-h.invariant.elsewhere n j lj away;
    }
