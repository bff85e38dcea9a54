use Rattle.std.proofs.Common.{◌≡◌, ◌<◌, ◌+◌, ◌*◌, ◌/◌, length, arith}
use Rattle.fault_universe.proofs.StemPlaces.{length-stems_of, zero_at, one_at}
use Rattle.fault_universe.proofs.stems.stem_at.Goals as goal

pub returns-then-place-eq0 : goal.returns-then-place-eq0
returns-then-place-eq0 c = λ t lt.
    let n = length t.netlist.nets in
    let k = c.args.place / 2 in
    let within : k < n = omega (arith, length-stems_of 0 n) in
    let place : 2 * k ≡ c.args.place = omega arith in
    let start : 0 + k ≡ k = omega arith in
    ((rw (place, start) at (zero_at 0 n k within)), within)

pub returns-else-place-eq0 : goal.returns-else-place-eq0
returns-else-place-eq0 c = λ t lt.
    let n = length t.netlist.nets in
    let k = c.args.place / 2 in
    let within : k < n = omega (arith, length-stems_of 0 n) in
    let place : 2 * k + 1 ≡ c.args.place = omega arith in
    let start : 0 + k ≡ k = omega arith in
    ((rw (place, start) at (one_at 0 n k within)), within)
