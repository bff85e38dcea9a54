use Rattle.std.proofs.Common.{◌≡◌, ◌-◌, length, map, refl, sym, ap, ◌∙◌, Ok, arith}
use Rattle.csv.specs.Records.{fields_of}
use Rattle.csv.specs.Reading.{default_config, records, strip_bom}
use Rattle.text_parts.specs.TextEnd.{ended}
use Rattle.bridge_pairs.specs.PairText.{trimmed, records_in, nets_named, with_pair}
use Rattle.bridge_pairs.proofs.PairLoop.{none_named, record_is_faulty, no_fault_more, pairs_more, named_more, list_is_whole, rows_trimmed}
use Rattle.bridge_pairs.proofs.reading.named_pairs.Goals as goal

pub loop-i-init : goal.loop-i-init
loop-i-init c =
    let names = c.args.names.now in
    let rows = records_in c.args.bytes.now in
    let all : length rows - 0 ≡ length rows = omega arith in
    record { no_fault_yet = rw all refl; after = c.new-named.ensures; named = rw c.new-named.ensures (none_named (length names)) }

pub returns-in-Some-clause-naming : goal.returns-in-Some-clause-naming
returns-in-Some-clause-naming c =
    let names = c.args.names.now in
    let rows = records_in c.args.bytes.now in
    let items = c.deref-record-items.result.now in
    let same : map (λ x. map trimmed (fields_of x)) items ≡ rows = rows_trimmed items (records default_config (strip_bom (ended c.args.bytes.now))) (ap (map fields_of) c.deref-record-items.ensures.value ∙ c.in_ok-records.ensures) in
    record_is_faulty names rows items c.loop-i.i c.record-item.result c.loop-i.named c.record-item.is same c.loop-i.invariant.no_fault_yet c.loop-i.invariant.after c.in-Some.rule c.loop-i-test.true (sym c.in-Some.is ∙ c.in_ok-rule.ensures.rule)

pub loop-i-preserved : goal.loop-i-preserved
loop-i-preserved c =
    let names = c.args.names.now in
    let rows = records_in c.args.bytes.now in
    let items = c.deref-record-items.result.now in
    let same : map (λ x. map trimmed (fields_of x)) items ≡ rows = rows_trimmed items (records default_config (strip_bom (ended c.args.bytes.now))) (ap (map fields_of) c.deref-record-items.ensures.value ∙ c.in_ok-records.ensures) in
    let none = sym c.in_default.is ∙ c.in_ok-rule.ensures.rule in
    let fields = map trimmed (fields_of c.record-item.result) in
    let taken : c.take_record.new.self ≡ with_pair names c.loop-i.named c.loop-i.i (nets_named c.loop-i.i fields) = c.take_record.ensures.taken (c.in_ok-rule.was ∙ ap Ok c.in_default.is) in
    record {
      no_fault_yet = no_fault_more names rows items c.loop-i.i c.record-item.result c.loop-i.named c.record-item.is same c.loop-i.invariant.no_fault_yet c.loop-i.invariant.after c.loop-i-test.true none;
      after = pairs_more names rows items c.loop-i.i c.record-item.result c.loop-i.named c.record-item.is same c.loop-i.invariant.no_fault_yet c.loop-i.invariant.after c.take_record.new.self c.loop-i-test.true taken;
      named = rw taken (named_more names rows items c.loop-i.i c.record-item.result c.loop-i.named c.record-item.is same c.loop-i.invariant.no_fault_yet c.loop-i.invariant.after c.loop-i-test.true none c.loop-i.invariant.named);
    }

pub returns : goal.returns
returns c =
    let names = c.args.names.now in
    let rows = records_in c.args.bytes.now in
    let items = c.deref-record-items.result.now in
    let same : map (λ x. map trimmed (fields_of x)) items ≡ rows = rows_trimmed items (records default_config (strip_bom (ended c.args.bytes.now))) (ap (map fields_of) c.deref-record-items.ensures.value ∙ c.in_ok-records.ensures) in
    record {
      naming = list_is_whole names rows items c.loop-i.i c.loop-i.named same c.loop-i.invariant.no_fault_yet c.loop-i.invariant.after c.loop-i-test.false c.loop-i.auto.i-end ∙ ap Ok (sym c.into_vec.ensures);
      named = rw c.into_vec.ensures c.loop-i.invariant.named;
    }
