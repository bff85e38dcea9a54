use Rattle.std.proofs.Common.{◌≡◌, ◌+◌, ◌*◌, ◌/◌, ◌<◌, length, arith}
use Rattle.scan_model.proofs.BitTables.{bit_inside, place_inside, known_bits}
use Rattle.scan_model.proofs.expected.Expected.known_word.Goals as goal

pub bounds-as_slice-word : goal.bounds-as_slice-word
bounds-as_slice-word c =
    let e = c.self.inside in
    let at = bit_inside e.known e.ones e.patterns e.points (64 * c.args.word) c.args.point c.args.self.now c.self.view_is c.requires.word c.requires.point in
    let word : 64 * c.args.word / 64 ≡ c.args.word = omega arith in
    rw (c.as_slice.ensures, c.self.invariant.0) (rw word at (place_inside e.patterns e.points (64 * c.args.word) c.args.point at.0 at.1))

pub offset_bounds-as_slice-word : goal.offset_bounds-as_slice-word
offset_bounds-as_slice-word c =
    let e = c.self.inside in
    let at = bit_inside e.known e.ones e.patterns e.points (64 * c.args.word) c.args.point c.args.self.now c.self.view_is c.requires.word c.requires.point in
    let word : 64 * c.args.word / 64 ≡ c.args.word = omega arith in
    let inside : c.args.word * e.points + c.args.point < length c.as_slice.result.now =
    rw (c.as_slice.ensures, c.self.invariant.0) (rw word at (place_inside e.patterns e.points (64 * c.args.word) c.args.point at.0 at.1)) in
    omega arith

pub returns : goal.returns
returns c =
    let e = c.self.inside in
    let at = bit_inside e.known e.ones e.patterns e.points (64 * c.args.word) c.args.point c.args.self.now c.self.view_is c.requires.word c.requires.point in
    rw c.as_slice.ensures (known_bits e.known e.ones e.patterns e.points c.args.word c.args.point c.args.self.now c.self.view_is at.1)
