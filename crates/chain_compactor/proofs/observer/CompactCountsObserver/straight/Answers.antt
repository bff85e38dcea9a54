use Rattle.std.proofs.Common.{◌≡◌, Bool, ◌&&◌, length, get_or, sym, ap, ◌∙◌, arith}
use Rattle.std.proofs.Math.Bool.{and-true}
use Rattle.lane_rows.specs.Lanes.{lane}
use Rattle.lane_rows.specs.GoodRows.{pattern_of}
use Rattle.scan_model.specs.declared.fault.Fault.TheVariants as fault
use Rattle.scan_model.specs.Netlist.{Netlist, pin_at}
use Rattle.scan_model.specs.NetValue.{good_value}
use Rattle.scan_model.specs.Suspect.{observed_net}
use Rattle.log_rows.specs.declared.side.Side.{Side}
use Rattle.log_rows.specs.declared.side.Side.TheVariants.{Failing, Passing}
use Rattle.fault_effects.specs.FaultModel.{Table, straight_in}
use Rattle.match_counts.specs.declared.block_count.BlockCount.{BlockCount}
use Rattle.match_counts.specs.Flips.{count_on}
use Rattle.match_counts.specs.Tables.{HasTable, sum_of_table}
use Rattle.match_counts.specs.SameTables.{count_same}
use Rattle.match_counts.proofs.TableSums.{few_kept}
use Rattle.chain_compactor.specs.Flips.{straight_value}
use Rattle.chain_compactor.specs.CompactModel.{compact_model}
use Rattle.chain_compactor.specs.CompactCounts.{differs_in, within_set}
use Rattle.chain_compactor.proofs.CompactShows.{capture_lane, expected_good, pin_places}
use Rattle.chain_compactor.proofs.observer.CompactCountsObserver.straight.Goals as goal

pub show_places-requires-clause-tells : goal.show_places-requires-clause-tells
show_places-requires-clause-tells c = λ j lt on.
    let o = c.args.self.now in
    sym (capture_lane o.parts.now o.good.now c.requires.ready o.block o.block_within c.blocks-2.result.now c.index-blocks-self.result c.blocks-2.ensures j lt) ∙ on

pub show_places-requires-clause-good : goal.show_places-requires-clause-good
show_places-requires-clause-good c = λ q j within lt on.
    let o = c.args.self.now in
    expected_good o.parts.now c.circuit.ensures.fits o.compact.now o.made o.block o.expected.now o.expected_right q j within lt
    (sym (capture_lane o.parts.now o.good.now c.requires.ready o.block o.block_within c.blocks-2.result.now c.index-blocks-self.result c.blocks-2.ensures j lt) ∙ on)

pub count_in-requires : goal.count_in-requires
count_in-requires c = few_kept c.args.self.now.rows.now c.show_places.new.into _ (omega (arith, c.args.self.now.rows_len, c.points.ensures.few)) c.in_ok-show_places.ensures

pub returns : goal.returns
returns c =
    let o = c.args.self.now in
    let t = o.parts.now in
    let k = o.compact.now in
    let b = o.block in
    let p = c.args.pin in
    let v = c.args.value in
    let capture = (get_or c.blocks-2.result.now b c.index-blocks-self.result).capture in
    let table : Table = within_set c.in_ok-due.due (differs_in t k capture (λ j s. good_value t (pattern_of b j) (observed_net t s)) (λ j s. straight_value t (fault.Branch p v) (pattern_of b j) s)) in
    let net : c.net_of_pin-net.result ≡ (pin_at t.netlist p).net = c.net_of_pin-net.ensures.value ∙ ap (λ (n : Netlist). (pin_at n p).net) c.circuit.ensures.value in
    count_same (length k.points) o.rows.now (λ q j. table q j && lane c.all.result j) (straight_in (compact_model t k) b (fault.Branch p v)) o.rows_len
    (λ q j within lt. ap (λ (x : Bool). table q j && x) (c.all.ensures j lt) ∙ and-true (table q j)
    ∙ pin_places t c.circuit.ensures.fits k o.made o.good.now b capture (capture_lane t o.good.now c.requires.ready b o.block_within c.blocks-2.result.now c.index-blocks-self.result c.blocks-2.ensures)
    p v c.net_of_pin-net.result c.in_ok-due.due c.requires.pin net c.in_ok-due.ensures q j within lt)
    c.count_in.result (by_side table c.in_ok-show_places.ensures)
  where
    by_side : (table : Table) → HasTable c.args.self.now.rows.now c.show_places.new.into table → (side : Side) → count_on side c.count_in.result ≡ sum_of_table c.args.self.now.rows.now side (λ q j. table q j && lane c.all.result j)
    by_side table has Failing = ap (λ (x : BlockCount). x.tfsf) c.count_in.ensures.count ∙ has Failing (lane c.all.result)
    by_side table has Passing = ap (λ (x : BlockCount). x.tpsf) c.count_in.ensures.count ∙ has Passing (lane c.all.result)
