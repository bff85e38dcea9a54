use Rattle.std.proofs.Common.{◌≡◌, ◌≤◌, ◌+◌, ◌-◌, length, map, take, not}
use Rattle.std.specs.Prelude.{vec_len, vec_capacity}
use Rattle.std.specs.List.{list_any}
use Rattle.scan_model.specs.ScanText.{number_of_net, is_net, is_flop_net}
use Rattle.text_parts.specs.Views.{nows}
use Rattle.scan_text.proofs.chains.cell_nets.Given as goal

abbrev pub invariant-loop-cell : goal.invariant-loop-cell
invariant-loop-cell l =
    let seen = nows (take l.cell-index l.cells) in
    record {
      room : vec_len l.numbers + (length l.cells - l.cell-index) ≤ vec_capacity l.numbers;
      numbers : l.numbers.items ≡ map (number_of_net l.nets) seen;
      lacks_net : l.lacks_net ≡ list_any (λ w. not (is_net l.nets w)) seen;
      has_other : l.has_other ≡ list_any (λ w. not (is_flop_net l.nets w)) seen;
    }
