use Rattle.std.proofs.Common.{◌≡◌, Bool, true, false, ◌&&◌, List, length, get_or, refl, sym, ap, subst, ◌∙◌, arith}
use Rattle.std.proofs.lemmas.List.{get_or_default}
use Rattle.scan_model.specs.declared.fault.Fault.TheVariants as fault
use Rattle.scan_model.specs.Netlist.{pin_at}
use Rattle.scan_model.specs.ScanTest.{points_of, point_at}
use Rattle.scan_model.specs.Masks.{place_is_point}
use Rattle.lane_rows.specs.declared.block.Block.{Block}
use Rattle.lane_rows.specs.Lanes.{lane}
use Rattle.lane_rows.specs.GoodRows.{pattern_of, no_block}
use Rattle.lane_rows.specs.Stimuli.{AreRowsOf}
use Rattle.packed_sim.specs.declared.good.PackedGood.{PackedGood}
use Rattle.packed_sim.specs.PackedParts.{captures, block_at}
use Rattle.fault_effects.specs.FaultModel.{straight_in}
use Rattle.match_counts.specs.Tables.{seen_in}
use Rattle.match_counts.specs.SameTables.{count_same}
use Rattle.frame_rows.specs.Frames.{net_changes}
use Rattle.frame_rows.specs.SecondRows.{second_stimuli}
use Rattle.two_frame.specs.FrameModel.{frame_model}
use Rattle.two_frame.proofs.frame_observer.FrameCountsObserver.straight.Goals as goal

-- a launch in the lanes that capture
launch_bits : (l s a c o k : Bool) → l ≡ (s && a) → a ≡ c → (c ≡ true → s ≡ o) → (l && k) ≡ (c && (o && k))
launch_bits l s a false o k is same sees = rw (is, same) (none s)
  where
    none : (s : Bool) → ((s && false) && k) ≡ false
    none true = refl
    none false = refl
launch_bits l s a true o k is same sees = rw (is, same, sees refl) (both o)
  where
    both : (o : Bool) → ((o && true) && k) ≡ (o && k)
    both true = refl
    both false = refl

pub returns : goal.returns
returns c =
    let o = c.args.self.now in
    let t = o.points.parts.now in
    let g = o.points.good.now in
    let b = o.points.block in
    let p = c.args.pin in
    let Rows : PackedGood → Type 0 = λ good. AreRowsOf t.netlist (second_stimuli t) good.rows in
    let rows = subst Rows (sym o.second) c.requires.ready.second in
    let found = get_or c.blocks-2.result.now b c.index-blocks-self.result in
    let block : found ≡ block_at g b = get_or_default c.blocks-2.result.now b c.index-blocks-self.result no_block (omega (arith, ap length c.blocks-2.ensures, o.points.block_within)) ∙ ap (λ (bs : List Block). get_or bs b no_block) c.blocks-2.ensures in
    count_same (length (points_of t)) o.points.rows.now (seen_in t p c.and.result) (straight_in (frame_model t) b (fault.Branch p c.args.value)) o.points.rows_len
    (λ q j within lt.
    let w = pattern_of b j in
    launch_bits (lane c.and.result j) (lane c.pin_launched-launched.result j) (lane found.capture j) (captures t w) (net_changes t c.args.value w (pin_at t.netlist p).net) (place_is_point t (pin_at t.netlist p).place (point_at t q))
    (c.and.ensures j lt)
    (ap (λ (x : Block). lane x.capture j) block ∙ rows.capture b j o.points.block_within lt)
    (λ captured. c.pin_launched-launched.ensures j lt captured))
    c.count_pin.result c.count_pin.ensures
