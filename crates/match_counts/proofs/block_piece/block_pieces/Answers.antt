use Rattle.std.proofs.Common.{◌≡◌, ℕ, ◌+◌, List, [], length, get_or, ap, subst, ◌∙◌, sym, arith}
use Rattle.scan_model.specs.Netlist.{Netlist}
use Rattle.fault_effects.specs.declared.work_kind.WorkKind.TheVariants.{Nets, Pins, Cells}
use Rattle.match_counts.specs.declared.piece.Piece.{Piece}
use Rattle.match_counts.specs.WorkPieces.{AreItems}
use Rattle.match_counts.proofs.WholeBlocks.{group_owned, all_served}
use Rattle.match_counts.proofs.WorkLists.{items_none, items_more, items_kept, items_there}
use Rattle.match_counts.proofs.block_piece.block_pieces.Goals as goal

pub returns-clause-items : goal.returns-clause-items
returns-clause-items g c =
    let w = c.args.work.now in
    let t = w.parts.now in
    let suspects = w.suspects.now in
    let groups = w.owners.now in
    let nets = length t.netlist.nets in
    let count : c.len-count.result ≡ nets = c.len-count.ensures ∙ ap length (c.nets.ensures.value ∙ ap (λ (n : Netlist). n.nets) c.circuit.ensures.value) in
    let Items : List Piece → Type 0 = AreItems t suspects in
    let cells = group_owned t suspects groups c.requires.owners (nets + 1) c.group-cells.result.now (omega (arith, w.owners_len)) (c.group-cells.ensures ∙ ap (λ (n : ℕ). get_or groups (n + 1) []) count) in
    let pins = group_owned t suspects groups c.requires.owners nets c.group-pins.result.now (omega (arith, w.owners_len)) (c.group-pins.ensures ∙ ap (λ (n : ℕ). get_or groups n []) count) in
    items_more Pins c.group-pins.result.now c.cut-2.new.pieces.items c.cut-3.new.pieces.items c.in_ok-cut-3.ensures t suspects pins
    (items_more Nets c.args.nets.now c.cut.new.pieces.items c.cut-2.new.pieces.items c.in_ok-cut-2.ensures t suspects c.requires.nets
    (items_more Cells c.group-cells.result.now c.new-pieces.result.items c.cut.new.pieces.items c.in_ok-cut.ensures t suspects cells (subst Items (sym c.new-pieces.ensures.items) (items_none t suspects))))

pub returns-clause-served : goal.returns-clause-served
returns-clause-served g c =
    let w = c.args.work.now in
    let t = w.parts.now in
    let suspects = w.suspects.now in
    let groups = w.owners.now in
    let count : c.len-count.result ≡ length t.netlist.nets = c.len-count.ensures ∙ ap length (c.nets.ensures.value ∙ ap (λ (n : Netlist). n.nets) c.circuit.ensures.value) in
    let pins = c.group-pins.result.now in
    let cells = c.group-cells.result.now in
    let none = c.new-pieces.result.items in
    let first = c.cut.new.pieces.items in
    let second = c.cut-2.new.pieces.items in
    let third = c.cut-3.new.pieces.items in
    let kept_third = items_kept Pins pins second third c.in_ok-cut-3.ensures in
    let kept_second = items_kept Nets c.args.nets.now first second c.in_ok-cut-2.ensures in
    all_served t suspects groups c.requires.owners c.args.nets.now pins cells third c.requires.all
    (c.group-pins.ensures ∙ ap (λ (n : ℕ). get_or groups n []) count) (c.group-cells.ensures ∙ ap (λ (n : ℕ). get_or groups (n + 1) []) count)
    (λ n has. kept_third Nets n (items_there Nets c.args.nets.now first second c.in_ok-cut-2.ensures n has))
    (λ n has. items_there Pins pins second third c.in_ok-cut-3.ensures n has)
    (λ n has. kept_third Cells n (kept_second Cells n (items_there Cells cells none first c.in_ok-cut.ensures n has)))
