use Rattle.std.proofs.Common.{rules, ◌≡◌, ◌≤◌, List, Ok, Err, length, ap, ◌∙◌}
use Rattle.std.proofs.lemmas.List.{length-map}
use Rattle.scan_model.specs.declared.parts.Pair.{Pair}
use Rattle.scan_model.specs.ScanText.{net_names}
use Rattle.text_parts.specs.ReadResults.{Fails}
use Rattle.bridge_pairs.specs.NamedPairs.{AreNamed}
use Rattle.bridge_pairs.specs.PairText.{parted, records_in, naming}
use Rattle.bridge_pairs.proofs.FirstFaults.{pairs_first, pairs_none}
use Rattle.bridge_pairs.proofs.Parting.{parted_fit}
use Rattle.bridge_pairs.proofs.reading.read_pairs_named.Goals as goal

pub named_pairs-requires : goal.named_pairs-requires
named_pairs-requires c =
    let few : length (net_names c.args.circuit.now.nets) ≤ 65536 = rw length-map c.nets.ensures.circuit.nets_fit in
    rw c.requires few

pub returns-clause-fits : goal.returns-clause-fits
returns-clause-fits c =
    let circuit = c.args.circuit.now in
    let read : AreNamed (length (net_names circuit.nets)) c.in_ok-named.named.items = rw c.requires at c.in_ok-named.ensures.named in
    let named : AreNamed (length circuit.nets) c.in_ok-named.named.items = rw length-map at read in
    let is : c.in_ok-pairs.pairs ≡ parted circuit c.in_ok-named.named.items = c.in_ok-pairs.ensures ∙ ap (parted circuit) c.deref.ensures.value in
    rw is (parted_fit circuit c.in_ok-named.named.items named)

pub returns-clause-none : goal.returns-clause-none
returns-clause-none c =
    let names = net_names c.args.circuit.now.nets in
    let rows = records_in c.args.bytes.now in
    let read : naming names rows ≡ Ok c.in_ok-named.named.items = rw c.requires at c.in_ok-named.ensures.naming in
    pairs_none (λ (pairs : List Pair). pairs) names rows (Ok c.in_ok-named.named.items) read

pub returns-in_err-named-clause-first : goal.returns-in_err-named-clause-first
returns-in_err-named-clause-first c =
    let names = net_names c.args.circuit.now.nets in
    let rows = records_in c.args.bytes.now in
    let is : c.from_residual.result ≡ Err c.in_err-named.field-0.0 = search rules in
    let fails : Fails c.in_err-named.field-0.0 (naming names rows) = rw c.requires at c.in_err-named.ensures.naming in
    rw is (pairs_first (λ (pairs : List Pair). pairs) names rows (Err c.in_err-named.field-0.0) fails)
