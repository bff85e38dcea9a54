use Rattle.std.proofs.Common.{rules, ◌≡◌, ℕ, ◌<◌, List, [], Ok, Err, None, length, get_or, sym, ap, subst, ◌∙◌, arith}
use Rattle.std.proofs.lemmas.List.{get_or_default}
use Rattle.scan_model.specs.Netlist.{Netlist, netlist}
use Rattle.scan_model.specs.ScanText.{net_names}
use Rattle.scan_model.specs.Walks.{HasLevels, IsLeastWithoutLevel}
use Rattle.scan_model.specs.Lines.{text_lines}
use Rattle.scan_model.specs.TextFaults.{refused_or}
use Rattle.scan_model.specs.NetlistRules.{forms_of, early_fault}
use Rattle.scan_model.specs.NetlistText.{circuit_of, netlist_reading}
use Rattle.scan_model.specs.declared.rules.TheConstants.{WITHOUT_LEVEL}
use Rattle.bench_reader.specs.declared.reading.CircuitDraft.{CircuitDraft}
use Rattle.bench_reader.specs.CircuitDrafts.{IsDraft}
use Rattle.bench_reader.proofs.SecondRound.{not_refused}
use Rattle.bench_reader.proofs.CircuitOfLines.{length-nets_after, names_after}
use Rattle.bench_reader.proofs.ThirdRound.{reads_circuit, reads_level_fault, length-net_lines_from}
use Rattle.bench_reader.proofs.FirstFaults.{reads_first, reads_none, early_first}
use Rattle.text_parts.specs.declared.fault.ReadFault.TheVariants.{Text}
use Rattle.bench_reader.proofs.reading.read_netlist_named.Goals as goal

module _ (bytes : List ℕ) (d : CircuitDraft) (read : refused_or (early_fault (text_lines bytes)) (circuit_of bytes) ≡ Ok (netlist d.nets d.pins d.inputs d.outputs)) (draft : IsDraft d (forms_of (text_lines bytes))) where
  early : early_fault (text_lines bytes) ≡ None
  early = not_refused (early_fault (text_lines bytes)) (circuit_of bytes) (netlist d.nets d.pins d.inputs d.outputs) read

  with_levels : (c : Netlist) → c ≡ netlist d.nets d.pins d.inputs d.outputs → HasLevels (netlist d.nets d.pins d.inputs d.outputs) → netlist_reading bytes ≡ Ok c
  with_levels c is levels = reads_circuit bytes early (subst HasLevels draft.lists levels) ∙ ap Ok (sym (is ∙ draft.lists))

  names_of_nets : (c : Netlist) → c ≡ netlist d.nets d.pins d.inputs d.outputs → d.names ≡ net_names c.nets
  names_of_nets c is = draft.names ∙ sym (names_after [] 0 (forms_of (text_lines bytes))) ∙ sym (ap (λ (x : Netlist). net_names x.nets) (is ∙ draft.lists))

  module _ (net : ℕ) (least : IsLeastWithoutLevel (netlist d.nets d.pins d.inputs d.outputs) net) where
    least_in : IsLeastWithoutLevel (circuit_of bytes) net
    least_in = subst (λ c. IsLeastWithoutLevel c net) draft.lists least

    has_line : net < length d.net_lines.items
    has_line = omega (arith, least_in.in_range, length-nets_after (forms_of (text_lines bytes)), length-net_lines_from 1 (forms_of (text_lines bytes)), ap length draft.net_lines)

    without_level : (line : ℕ) → line ≡ get_or d.net_lines.items net line → netlist_reading bytes ≡ Err (line, WITHOUT_LEVEL)
    without_level line is =
        reads_level_fault bytes early net line draft.differ least_in
        (is ∙ get_or_default d.net_lines.items net line 0 has_line ∙ ap (λ ls. get_or ls net 0) draft.net_lines)

pub returns-in_err-draft-clause-first : goal.returns-in_err-draft-clause-first
returns-in_err-draft-clause-first c =
    let is : c.from_residual.result ≡ Err c.in_err-draft.field-0.0 = search rules in
    rw is (early_first c.args.bytes.now c.in_err-draft.field-0.0 c.in_err-draft.ensures.fault)

pub returns-in-Ok-clause-reading : goal.returns-in-Ok-clause-reading
returns-in-Ok-clause-reading c = with_levels c.args.bytes.now c.in_ok-draft.draft c.in_ok-draft.ensures.fault c.in_ok-draft.ensures.draft c.in-Ok.circuit c.in-Ok.ensures.ok c.in-Ok.ensures.levels

pub returns-in-Ok-clause-none : goal.returns-in-Ok-clause-none
returns-in-Ok-clause-none c = reads_none c.args.bytes.now (Ok c.in-Ok.circuit) (returns-in-Ok-clause-reading c)

pub returns-in-Ok-clause-names : goal.returns-in-Ok-clause-names
returns-in-Ok-clause-names c = names_of_nets c.args.bytes.now c.in_ok-draft.draft c.in_ok-draft.ensures.fault c.in_ok-draft.ensures.draft c.in-Ok.circuit c.in-Ok.ensures.ok

pub index-line-requires : goal.index-line-requires
index-line-requires c =
    let least = rw c.in-Err-NoLevel.field-0-is at c.in-Err-NoLevel.ensures.no_level in
    omega (arith, has_line c.args.bytes.now c.in_ok-draft.draft c.in_ok-draft.ensures.fault c.in_ok-draft.ensures.draft c.in-Err-NoLevel.net least)

pub returns-in-Err-NoLevel-clause-reading : goal.returns-in-Err-NoLevel-clause-reading
returns-in-Err-NoLevel-clause-reading c =
    let least = rw c.in-Err-NoLevel.field-0-is at c.in-Err-NoLevel.ensures.no_level in
    without_level c.args.bytes.now c.in_ok-draft.draft c.in_ok-draft.ensures.fault c.in_ok-draft.ensures.draft c.in-Err-NoLevel.net least c.index-line.result.now c.index-line.ensures

pub returns-in-Err-NoLevel-clause-first : goal.returns-in-Err-NoLevel-clause-first
returns-in-Err-NoLevel-clause-first c =
    reads_first c.args.bytes.now (Err (Text (record { line = c.index-line.result.now; rule = WITHOUT_LEVEL }))) (returns-in-Err-NoLevel-clause-reading c)
