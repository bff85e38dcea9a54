use Rattle.std.proofs.Common.{◌≡◌, ap, ◌∙◌}
use Rattle.scan_model.specs.Netlist.{no_net}
use Rattle.scan_model.specs.NetlistText.{net_number}
use Rattle.scan_model.specs.ScanText.{number_of_net, is_flop_driver}
use Rattle.std.proofs.Common.{get_or}
use Rattle.scan_text.proofs.CellNets.{is_net_below}
use Rattle.scan_text.proofs.chains.cell_net.Goals as goal

pub returns-clause-is_net : goal.returns-clause-is_net
returns-clause-is_net c =
    let is : c.place_or_len-place.result ≡ number_of_net c.args.nets.now c.args.cell.now = c.place_or_len-place.ensures.value ∙ ap (λ ns. net_number ns c.args.cell.now) c.requires.names in
    is_net_below c.args.nets.now c.args.cell.now c.place_or_len-place.result is

pub returns-clause-is_flop : goal.returns-clause-is_flop
returns-clause-is_flop c =
    let is : c.place_or_len-place.result ≡ number_of_net c.args.nets.now c.args.cell.now = c.place_or_len-place.ensures.value ∙ ap (λ ns. net_number ns c.args.cell.now) c.requires.names in
    c.is_flop-is_flop.ensures ∙ ap (λ n. is_flop_driver (get_or c.args.nets.now n no_net).driver) is
