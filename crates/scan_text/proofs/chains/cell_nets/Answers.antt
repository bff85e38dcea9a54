use Rattle.std.proofs.Common.{◌≡◌, not, map, take, ap, ◌∙◌, arith}
use Rattle.std.specs.List.{list_any}
use Rattle.std.proofs.lemmas.List.{take_all}
use Rattle.scan_model.specs.ScanText.{number_of_net, is_net, is_flop_net}
use Rattle.text_parts.specs.Views.{nows}
use Rattle.scan_text.proofs.CellNets.{numbers_more, any_more}
use Rattle.scan_text.proofs.chains.cell_nets.Goals as goal

pub loop-cell-preserved : goal.loop-cell-preserved
loop-cell-preserved c =
    let nets = c.args.nets.now in
    let cells = c.args.cells.now in
    let at = c.loop-cell.cell-index in
    let net = c.cell_net-net.result in
    record {
      room = omega arith;
      numbers = numbers_more cells at _ c.loop-cell-test.true (number_of_net nets) net.number c.loop-cell.numbers.items c.push_reserved.new.self.items c.loop-cell.invariant.numbers c.cell_net-net.ensures.number c.push_reserved.ensures.items;
      lacks_net = any_more cells at _ c.loop-cell-test.true (λ w. not (is_net nets w)) (not net.is_net) c.loop-cell.lacks_net c.loop-cell.invariant.lacks_net (ap not c.cell_net-net.ensures.is_net);
      has_other = any_more cells at _ c.loop-cell-test.true (λ w. not (is_flop_net nets w)) (not net.is_flop) c.loop-cell.has_other c.loop-cell.invariant.has_other (ap not c.cell_net-net.ensures.is_flop);
    }

pub returns-clause-numbers : goal.returns-clause-numbers
returns-clause-numbers c =
    let cells = c.args.cells.now in
    c.loop-cell.invariant.numbers ∙ ap (λ xs. map (number_of_net c.args.nets.now) (nows xs)) (take_all c.loop-cell.cell-index cells c.loop-cell-test.false)

pub returns-clause-lacks_net : goal.returns-clause-lacks_net
returns-clause-lacks_net c =
    let cells = c.args.cells.now in
    c.loop-cell.invariant.lacks_net ∙ ap (λ xs. list_any (λ w. not (is_net c.args.nets.now w)) (nows xs)) (take_all c.loop-cell.cell-index cells c.loop-cell-test.false)

pub returns-clause-has_other : goal.returns-clause-has_other
returns-clause-has_other c =
    let cells = c.args.cells.now in
    c.loop-cell.invariant.has_other ∙ ap (λ xs. list_any (λ w. not (is_flop_net c.args.nets.now w)) (nows xs)) (take_all c.loop-cell.cell-index cells c.loop-cell-test.false)
