use Rattle.std.proofs.Common.{◌≡◌, ◌≤◌, Ok, None, length, [], map, sym, ap, ◌∙◌, Err, rules, refl}
use Rattle.scan_model.specs.Lines.{text_lines}
use Rattle.scan_model.specs.TextFaults.{refused_or}
use Rattle.scan_model.specs.NetlistRules.{forms_of, early_fault, defined_names, pins_after, net_limit, pin_limit}
use Rattle.scan_model.specs.NetlistText.{circuit_of, net_number}
use Rattle.bench_reader.specs.NetUses.{use_views, undefined_use}
use Rattle.bench_reader.proofs.SecondRound.{second_fails}
use Rattle.bench_reader.proofs.UsesOfLines.{early_is, all_known, lists_are}
use Rattle.bench_reader.proofs.CircuitOfLines.{circuit_is_sound}
use Rattle.bench_reader.proofs.reading.CircuitDraft.read.Goals as goal

pub returns-clause-fault : goal.returns-clause-fault
returns-clause-fault c =
    let ls = text_lines c.args.bytes.now in
    let draft = c.in_ok-draft.draft in
    let read = c.in_ok-draft.ensures.read in
    let pins = rw c.deref.ensures.value at c.in_ok-pins.ensures.pins in
    let known = rw c.deref.ensures.value at c.in_ok-pins.ensures.known in
    let outputs = c.in_ok-outputs.ensures ∙ ap (map (net_number draft.defined)) c.as_slice.ensures in
    let early : early_fault ls ≡ None = early_is ls (use_views draft.uses.items) draft.defined None c.in_ok-draft.ensures.fault read.after.uses read.after.defined known in
    ap (λ f. refused_or f (circuit_of c.args.bytes.now)) early
    ∙ ap Ok (sym (lists_are draft (forms_of ls) c.from_vec.result c.in_ok-pins.pins c.from_vec-2.result c.in_ok-outputs.outputs read c.from_vec.ensures c.from_vec-2.ensures pins outputs))

pub returns-clause-draft : goal.returns-clause-draft
returns-clause-draft c =
    let fs = forms_of (text_lines c.args.bytes.now) in
    let draft = c.in_ok-draft.draft in
    let read = c.in_ok-draft.ensures.read in
    let pins = rw c.deref.ensures.value at c.in_ok-pins.ensures.pins in
    let known = rw c.deref.ensures.value at c.in_ok-pins.ensures.known in
    let outputs = c.in_ok-outputs.ensures ∙ ap (map (net_number draft.defined)) c.as_slice.ensures in
    let few_nets : length (defined_names fs) ≤ net_limit = rw (← read.after.defined) read.within.nets in
    let few_pins : length (pins_after [] fs) ≤ pin_limit = rw (← read.after.pins) read.within.pins in
    record {
      lists = lists_are draft fs c.from_vec.result c.in_ok-pins.pins c.from_vec-2.result c.in_ok-outputs.outputs read c.from_vec.ensures c.from_vec-2.ensures pins outputs;
      circuit = circuit_is_sound fs read.clean (all_known fs (rw (read.after.uses, read.after.defined) at known)) few_nets few_pins;
      names = read.after.defined;
      differ = read.clean.differ;
      net_lines = read.after.net_lines;
    }

pub returns-in_err-pins-clause-fault : goal.returns-in_err-pins-clause-fault
returns-in_err-pins-clause-fault c =
    let ls = text_lines c.args.bytes.now in
    let draft = c.in_ok-draft.draft in
    let is : c.from_residual-in_err-pins.result ≡ Err c.in_err-pins.field-0.0 = search rules in
    let fault = rw c.deref.ensures.value at c.in_err-pins.ensures.fault in
    rw is (second_fails c.in_err-pins.field-0.0 (early_fault ls) (undefined_use draft.defined (use_views draft.uses.items)) (circuit_of c.args.bytes.now) (early_is ls (use_views draft.uses.items) draft.defined _ c.in_ok-draft.ensures.fault c.in_ok-draft.ensures.read.after.uses c.in_ok-draft.ensures.read.after.defined refl) fault)
