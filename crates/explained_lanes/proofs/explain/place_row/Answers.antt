use Rattle.std.proofs.Common.{◌≡◌, ◌∙◌, ℕ, ◌<◌, ◌&&◌, Bool, true, false, List, [], length, get_or, refl, sym, ap, arith}
use Rattle.scan_model.specs.declared.circuit.PinPlace.{PinPlace}
use Rattle.std.proofs.lemmas.List.{get_or_default}
use Rattle.scan_model.specs.Suspect.{place_reaches}
use Rattle.lane_rows.specs.Lanes.{lane}
use Rattle.explained_lanes.specs.Fails.{any_fail}
use Rattle.scan_model.specs.declared.circuit.Driver.TheVariants.{Input, Flop, Gate}
use Rattle.explained_lanes.proofs.Explained.{operand_is, input_reaches_none}
use Rattle.explained_lanes.proofs.Points.{outputs_are_points, output_fails}
use Rattle.explained_lanes.proofs.explain.place_row.Goals as goal

pub bounds-as_slice-place : goal.bounds-as_slice-place
bounds-as_slice-place c =
    let lt = rw c.in-Output.is at c.requires.place in
    omega (arith, lt, outputs_are_points c.args.parts.now, c.requires.fails, ap length c.as_slice.ensures)

pub returns-in-Input : goal.returns-in-Input
returns-in-Input c = λ j lj.
    let t = c.args.parts.now in
    let C = lane c.args.block.now.capture j in
    c.none.ensures j lj
    ∙ operand_is t c.args.trace.now.fails j c.in-Operand.net c.in-Operand.index C Input false c.in-Input.ensures (input_reaches_none t c.args.trace.now.fails j c.in-Operand.net C)
    ∙ ap (λ (p : PinPlace). C && any_fail t c.args.trace.now.fails j (place_reaches t p)) (sym c.in-Operand.is)

pub returns-in-Flop : goal.returns-in-Flop
returns-in-Flop c = λ j lj.
    let t = c.args.parts.now in
    let n = c.in-Operand.net in
    let C = lane c.args.block.now.capture j in
    let lt : n < length t.netlist.nets = rw c.in-Operand.is at c.requires.place in
    let rows = c.args.trace.now.cells in
    let row = c.row.result in
    let row_is : row ≡ get_or rows n [] = c.row.ensures in
    operand_is t c.args.trace.now.fails j n c.in-Operand.index C Flop (lane row j) c.in-Flop.ensures (ap (λ (r : List ℕ). lane r j) row_is ∙ c.requires.trace.cells j n lj lt)
    ∙ ap (λ (p : PinPlace). C && any_fail t c.args.trace.now.fails j (place_reaches t p)) (sym c.in-Operand.is)

pub returns-in-Gate : goal.returns-in-Gate
returns-in-Gate c = λ j lj.
    let t = c.args.parts.now in
    let n = c.in-Operand.net in
    let C = lane c.args.block.now.capture j in
    let lt : n < length t.netlist.nets = rw c.in-Operand.is at c.requires.place in
    let rows = c.args.trace.now.reach in
    let row = c.row-in-Gate.result in
    let row_is : row ≡ get_or rows n [] = c.row-in-Gate.ensures in
    operand_is t c.args.trace.now.fails j n c.in-Operand.index C (Gate c.in-Gate.field-0) (lane row j) c.in-Gate.ensures (ap (λ (r : List ℕ). lane r j) row_is ∙ c.requires.trace.reach j n lj lt)
    ∙ ap (λ (p : PinPlace). C && any_fail t c.args.trace.now.fails j (place_reaches t p)) (sym c.in-Operand.is)

pub returns-in-Output : goal.returns-in-Output
returns-in-Output c = λ j lj.
    let t = c.args.parts.now in
    let k = c.in-Output.place in
    let fails = c.args.trace.now.fails in
    let lt : k < length t.netlist.outputs = rw c.in-Output.is at c.requires.place in
    let inside : k < length fails = omega (arith, lt, outputs_are_points t, c.requires.fails) in
    let row = c.index-as_slice-place.result in
    let row_is : row ≡ get_or fails k [] = rw c.as_slice.ensures at c.index-as_slice-place.is ∙ get_or_default fails k row [] inside in
    c.and.ensures j lj
    ∙ and_turned (lane row j) (lane c.args.block.now.capture j)
    ∙ ap (λ (b : Bool). lane c.args.block.now.capture j && b) (ap (λ (r : List ℕ). lane r j) row_is ∙ sym (output_fails t fails j k lt) ∙ ap (λ (p : PinPlace). any_fail t fails j (place_reaches t p)) (sym c.in-Output.is))
  where
    and_turned : (a b : Bool) → (a && b) ≡ (b && a)
    and_turned true true = refl
    and_turned true false = refl
    and_turned false true = refl
    and_turned false false = refl
