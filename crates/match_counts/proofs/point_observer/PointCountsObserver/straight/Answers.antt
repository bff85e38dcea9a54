use Rattle.std.proofs.Common.{◌≡◌, ℕ, Bool, true, false, ◌&&◌, List, length, get_or, refl, ap, ◌∙◌, arith}
use Rattle.std.proofs.lemmas.List.{get_or_default}
use Rattle.scan_model.specs.declared.fault.Fault.TheVariants as fault
use Rattle.scan_model.specs.Values.{are_opposite}
use Rattle.scan_model.specs.Netlist.{Netlist, pin_at}
use Rattle.scan_model.specs.ScanTest.{points_of, point_at}
use Rattle.scan_model.specs.Faults.{stuck_value}
use Rattle.scan_model.specs.NetValue.{good_value}
use Rattle.scan_model.specs.Masks.{place_is_point}
use Rattle.lane_rows.specs.declared.block.Block.{Block}
use Rattle.lane_rows.specs.Lanes.{lane}
use Rattle.lane_rows.specs.GoodRows.{pattern_of, no_block}
use Rattle.packed_sim.specs.PackedParts.{captures, block_at}
use Rattle.fault_effects.specs.FaultModel.{point_model, straight_in}
use Rattle.match_counts.specs.Tables.{seen_in}
use Rattle.match_counts.specs.SameTables.{count_same}
use Rattle.match_counts.proofs.point_observer.PointCountsObserver.straight.Goals as goal

-- a stuck value in the lanes that capture
stuck_bits : (l s a c o k : Bool) → l ≡ (s && a) → a ≡ c → (c ≡ true → s ≡ o) → (l && k) ≡ (c && (k && o))
stuck_bits l s a false o k is same sees = rw (is, same) (none s)
  where
    none : (s : Bool) → ((s && false) && k) ≡ false
    none true = refl
    none false = refl
stuck_bits l s a true o k is same sees = rw (is, same, sees refl) (both o k)
  where
    both : (o k : Bool) → ((o && true) && k) ≡ (k && o)
    both true true = refl
    both true false = refl
    both false true = refl
    both false false = refl

pub returns : goal.returns
returns c =
    let o = c.args.self.now in
    let t = o.parts.now in
    let g = o.good.now in
    let b = o.block in
    let net = (pin_at t.netlist c.args.pin).net in
    let found = get_or c.blocks-2.result.now b c.index-blocks-self.result in
    let block : found ≡ block_at g b = get_or_default c.blocks-2.result.now b c.index-blocks-self.result no_block (omega (arith, ap length c.blocks-2.ensures, o.block_within)) ∙ ap (λ (bs : List Block). get_or bs b no_block) c.blocks-2.ensures in
    count_same (length (points_of t)) o.rows.now (seen_in t c.args.pin c.and.result) (straight_in (point_model t) b (fault.Branch c.args.pin c.args.value)) o.rows_len
    (λ q j within lt.
    let w = pattern_of b j in
    stuck_bits (lane c.and.result j) (lane c.stuck_mask-stuck.result j) (lane found.capture j) (captures t w) (are_opposite (good_value t w net) (stuck_value c.args.value)) (place_is_point t (pin_at t.netlist c.args.pin).place (point_at t q))
    (c.and.ensures j lt)
    (ap (λ (x : Block). lane x.capture j) block ∙ (c.requires.ready.rows.each b o.block_within).capture j lt)
    (λ captured. c.stuck_mask-stuck.ensures.good c.requires.ready j lt captured ∙ ap (λ (n : ℕ). are_opposite (good_value t w n) (stuck_value c.args.value)) (c.net_of_pin-net.ensures.value ∙ ap (λ (n : Netlist). (pin_at n c.args.pin).net) c.circuit.ensures.value)))
    c.count_pin.result c.count_pin.ensures
