use Rattle.std.proofs.Common.{ℕ, ◌&&◌, ◌||◌, refl, sym, ap, subst, ◌∙◌, arith}
use Rattle.std.specs.Prelude.{Contains}
use Rattle.lane_rows.specs.Lanes.{lane}
use Rattle.scan_model.specs.declared.fault.Fault.{Fault}
use Rattle.fault_effects.specs.FaultModel.{Table, shown_in, fails_in}
use Rattle.fault_effects.specs.Owners.{no_suspect}
use Rattle.fault_effects.specs.Shares.{suspect_fails}
use Rattle.fault_effects.proofs.Effects.{bridge_fails, bridge_apart, in_lanes}
use Rattle.fault_effects.proofs.net_piece.bridge_part.Goals as goal

pub mask-second_lanes-requires-clause-touched : goal.mask-second_lanes-requires-clause-touched
mask-second_lanes-requires-clause-touched g c = (1, omega arith, refl)

pub returns-clause-part : goal.returns-clause-part
returns-clause-part g c = λ i within is.
    let work = c.requires.work in
    let o = c.args.work.now.observer.now in
    let t = c.args.work.now.parts.now in
    let m = g.O.Observer.model o in
    let b = g.O.Observer.block o in
    let x = c.args.bridged.a in
    let y = c.args.bridged.b in
    let kind = c.args.bridged.kind in
    let first = c.mask-first_lanes.result in
    let second = c.mask-second_lanes.result in
    let at_first = c.mask-first_lanes.ensures in
    let at_second = c.mask-second_lanes.ensures in
    let In : Fault → Type 0 = Contains work.faults in
    let there = subst In is (work.among i no_suspect within) in
    let of_first : Table = λ q j. shown_in m b x q j && lane first j in
    let of_second : Table = λ q j. shown_in m b y q j && lane second j in
    let shown = c.requires.shown in
    let met_first = g.met.O.Observer.same o c.part-of_first.result (λ q j. shown.root q j && lane c.and.result j) of_first
    (in_lanes m b shown.root x c.args.lanes first c.and.result shown.shows c.and.ensures) (c.part-of_first.ensures shown.root shown.held) in
    let met_second : g.O.Observer.means o c.in_ok-of_second.of_second of_second =
    let Of : ℕ → Type 0 = λ n. g.O.Observer.means o c.in_ok-of_second.of_second (λ q j. shown_in m b n q j && lane second j) in
    subst Of c.requires.net c.in_ok-of_second.ensures.part in
    g.met.O.Observer.same o c.both.result (λ q j. of_first q j || of_second q j) (suspect_fails m b c.args.work.now.suspects.now i)
    (λ q j places lt. bridge_fails t work.faults m work.model b x y kind first second at_first at_second there q j places lt ∙ ap (λ (f : Fault). fails_in m b f q j) (sym is))
    (c.both.ensures of_first of_second met_first met_second
    (bridge_apart t work.faults m work.model b x y kind first second at_first at_second))
