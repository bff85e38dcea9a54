use Rattle.std.proofs.Common.{◌≡◌, ℕ, List, length, get_or, sym, ap, subst, ◌∙◌, inl, inr, arith}
use Rattle.std.proofs.lemmas.Bool.{cases_eq}
use Rattle.scan_model.specs.declared.fault.Fault.TheVariants as fault
use Rattle.scan_model.specs.declared.parts.Point.TheVariants.{Cell}
use Rattle.scan_model.specs.Netlist.{Netlist, pin_at}
use Rattle.scan_model.specs.Response.{data_pin}
use Rattle.scan_model.specs.Suspect.{observed_net}
use Rattle.scan_model.proofs.Cells.{cell_is_flop_of}
use Rattle.fault_effects.specs.Walks.{AreFreshAt}
use Rattle.fault_effects.proofs.WalkNotes.{net_kept, renoted_join}
use Rattle.fault_effects.proofs.loaded_chain.LoadedChain.note_chain.Goals as goal

pub data_net-net-requires-clause-cell : goal.data_net-net-requires-clause-cell
data_net-net-requires-clause-cell g c =
    let self = c.args.self.now in
    let t = self.work.now.parts.now in
    let i = c.loop-cell.cell-index in
    rw (c.circuit-circuit.ensures.value, c.chain_cells-cells.ensures) (cell_is_flop_of t c.chains.ensures.fits self.chain i self.chain_within (omega (arith, c.loop-cell-test.true, ap length c.chain_cells-cells.ensures))).0

pub data_net-net-requires-clause-flop : goal.data_net-net-requires-clause-flop
data_net-net-requires-clause-flop g c =
    let self = c.args.self.now in
    let t = self.work.now.parts.now in
    let i = c.loop-cell.cell-index in
    rw (c.circuit-circuit.ensures.value, c.chain_cells-cells.ensures) (cell_is_flop_of t c.chains.ensures.fits self.chain i self.chain_within (omega (arith, c.loop-cell-test.true, ap length c.chain_cells-cells.ensures))).1

pub loop-cell-preserved : goal.loop-cell-preserved
loop-cell-preserved g c =
    let self = c.args.self.now in
    let t = self.work.now.parts.now in
    let m = g.O.Observer.model self.work.now.observer.now in
    let b = self.work.now.block in
    let h = self.chain in
    let f = fault.Cell h self.pos self.kind in
    let at = c.loop-cell.cell-index in
    let old = c.loop-cell.notes.rows.items in
    let new = c.note_net.new.notes.rows.items in
    let is : c.data_net-net.result ≡ observed_net t (Cell h at) = rw c.circuit-circuit.ensures.value at c.data_net-net.ensures.value ∙ ap (λ (cells : List ℕ). (pin_at t.netlist (data_pin t.netlist (get_or cells at 0))).net) c.chain_cells-cells.ensures in
    let At : ℕ → Type 0 = AreFreshAt t m b f new in
    let Position : ℕ → Type 0 = λ i. AreFreshAt t m b f new (observed_net t (Cell h i)) in
    record {
      notes = c.note_net.ensures.notes;
      renoted = renoted_join m b f c.args.notes.now.rows.items old new c.loop-cell.invariant.renoted c.note_net.ensures.renoted;
      fresh = λ i lt. elim (cases_eq i at) [
        | inl same ↦ subst Position (sym same) (subst At is c.note_net.ensures.fresh)
        | inr other ↦ net_kept m b f t old new c.note_net.ensures.renoted (observed_net t (Cell h i)) (c.loop-cell.invariant.fresh i (omega arith))
      ];
    }

pub note_net-requires-clause-net : goal.note_net-requires-clause-net
note_net-requires-clause-net g c = omega (arith, c.data_net-net.ensures.in_range, ap (λ (n : Netlist). length n.nets) c.circuit-circuit.ensures.value)

pub returns-clause-notes : goal.returns-clause-notes
returns-clause-notes g c = c.loop-cell.invariant.notes

pub returns-clause-renoted : goal.returns-clause-renoted
returns-clause-renoted g c = c.loop-cell.invariant.renoted

pub returns-clause-fresh : goal.returns-clause-fresh
returns-clause-fresh g c = λ i lt. c.loop-cell.invariant.fresh i (omega (arith, lt, c.loop-cell-test.false, ap length c.chain_cells-cells.ensures))
