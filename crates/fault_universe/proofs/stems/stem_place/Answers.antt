use Rattle.std.proofs.Common.{◌≡◌, ◌+◌, length, refl, arith}
use Rattle.scan_model.specs.declared.fault.Fault.TheVariants.{Stem}
use Rattle.fault_universe.proofs.StemPlaces.{zero_at, one_at, only_stems}
use Rattle.fault_universe.proofs.stems.stem_place.Goals as goal

pub returns-then-net-len : goal.returns-then-net-len
returns-then-net-len c = λ there.
    let below = only_stems c.args.parts.now (Stem c.args.net c.args.value) there in
    let len : c.len.result ≡ length c.args.parts.now.netlist.nets = rw (c.len.ensures, c.nets.ensures.value, c.circuit.ensures.value) refl in
    omega (arith, below)

pub returns-in-Zero : goal.returns-in-Zero
returns-in-Zero c =
    let len : c.len.result ≡ length c.args.parts.now.netlist.nets = rw (c.len.ensures, c.nets.ensures.value, c.circuit.ensures.value) refl in
    let start : 0 + c.args.net ≡ c.args.net = omega arith in
    rw c.in-Zero.is (rw start at (zero_at 0 (length c.args.parts.now.netlist.nets) c.args.net (omega arith)))

pub returns-in-One : goal.returns-in-One
returns-in-One c =
    let len : c.len.result ≡ length c.args.parts.now.netlist.nets = rw (c.len.ensures, c.nets.ensures.value, c.circuit.ensures.value) refl in
    let start : 0 + c.args.net ≡ c.args.net = omega arith in
    rw c.in-One.is (rw start at (one_at 0 (length c.args.parts.now.netlist.nets) c.args.net (omega arith)))
