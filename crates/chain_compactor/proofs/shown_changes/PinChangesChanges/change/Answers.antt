use Rattle.std.proofs.Common.{◌≡◌, ℕ, ◌<◌, ◌∙◌, List, true, length, get_or, sym, ap, subst, arith}
use Rattle.std.proofs.lemmas.List.{get_or_read}
use Rattle.scan_model.specs.declared.values.Tri.{Tri}
use Rattle.scan_model.specs.Values.{tri_xor}
use Rattle.scan_model.specs.Faults.{stuck_value}
use Rattle.scan_model.specs.Netlist.{pin_at}
use Rattle.scan_model.specs.NetValue.{good_value}
use Rattle.scan_model.specs.Suspect.{observed_net}
use Rattle.scan_model.specs.Masks.{place_is_point}
use Rattle.scan_model.proofs.counting.Shown.{observed_net-in_range}
use Rattle.lane_rows.specs.declared.block.Block.{Block}
use Rattle.lane_rows.specs.Planes.{Planes, held}
use Rattle.lane_rows.specs.Sources.{no_planes}
use Rattle.lane_rows.specs.GoodRows.{pattern_of, no_block}
use Rattle.packed_sim.specs.PackedParts.{block_at, good_at}
use Rattle.packed_sim.proofs.Belonging.{good_is}
use Rattle.packed_sim.proofs.Changes.{xor_back}
use Rattle.chain_compactor.proofs.shown_changes.PinChangesChanges.change.Goals as goal

pub returns : goal.returns
returns c = λ j lt captured.
    let o = c.args.self.now in
    let t = o.parts.now in
    let g = o.good.now in
    let b = o.block in
    let p = c.args.point in
    let n = observed_net t p in
    let net = c.args.net in
    let row = c.index-as_slice-net.result in
    let is : place_is_point t (pin_at t.netlist o.pin).place p ≡ true = sym c.is_pin_of.ensures ∙ c.if-not-is_pin_of.false in
    let block : c.index-blocks-self.result ≡ block_at g b = get_or_read c.blocks-2.result.now b c.index-blocks-self.result (omega (arith, ap length c.blocks-2.ensures, c.requires.ready.block)) c.index-blocks-self.is no_block
    ∙ ap (λ (bs : List Block). get_or bs b no_block) c.blocks-2.ensures in
    let values : c.as_slice.result.now ≡ (block_at g b).values = c.as_slice.ensures ∙ ap (λ (x : Block). x.values) (sym c.index-blocks-self.is ∙ block) in
    let in_range : net < length t.netlist.nets = subst (λ (m : ℕ). m < length t.netlist.nets) (sym c.requires.net) (observed_net-in_range t c.chains.ensures.fits p c.requires.point) in
    let inside : net < length c.as_slice.result.now = omega (arith, ap length values, c.requires.ready.belongs.built.rows b c.requires.ready.block, in_range) in
    let row_is : row ≡ get_or (block_at g b).values net no_planes = get_or_read c.as_slice.result.now net row inside c.index-as_slice-net.is no_planes ∙ ap (λ (xs : List Planes). get_or xs net no_planes) values in
    let good : held row j ≡ good_value t (pattern_of b j) n = ap (λ (x : Planes). held x j) row_is ∙ ap (good_at g b j) c.requires.net
    ∙ good_is t g c.requires.ready.belongs b j n c.requires.ready.block lt (observed_net-in_range t c.chains.ensures.fits p c.requires.point) captured in
    let stuck : held c.all-stuck.result j ≡ stuck_value o.value = c.all-stuck.ensures j lt ∙ c.stuck_at.ensures in
    rw is (xor_back (good_value t (pattern_of b j) n) (stuck_value o.value) (held c.xor.result j)
    (c.xor.ensures j lt ∙ ap (λ (v : Tri). tri_xor v (held c.all-stuck.result j)) good ∙ ap (tri_xor (good_value t (pattern_of b j) n)) stuck))
