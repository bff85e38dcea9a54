use Rattle.std.proofs.Common.{◌≡◌, ◌-◌, [], length, arith, ap, subst, ◌∙◌, sym, refl, Ok}
use Rattle.text_parts.specs.Views.{nows}
use Rattle.scan_model.specs.TextFaults.{refused_or, fault_from}
use Rattle.scan_model.specs.NetlistRules.{forms_of, first_rule}
use Rattle.bench_reader.specs.NetUses.{uses_after}
use Rattle.bench_reader.specs.FaultlessLines.{IsRead}
use Rattle.bench_reader.proofs.FirstRound.{clean_none, line_is_faulty, no_fault_more, after_more, clean_after, round_is_over}
use Rattle.bench_reader.proofs.reading.take_lines.Goals as goal

pub returns-in-Some-clause-fault : goal.returns-in-Some-clause-fault
returns-in-Some-clause-fault c =
    ap (λ f. refused_or f (uses_after 1 0 [] (forms_of (nows c.args.texts.now)))) (line_is_faulty (nows c.args.texts.now) c.args.texts.now c.loop-i.i _ c.loop-i.draft refl c.loop-i.invariant.no_fault_yet c.loop-i.invariant.read.after c.in-Some.rule c.loop-i-test.true (sym c.in-Some.is ∙ c.in_ok-rule.ensures.rule))

pub loop-i-init : goal.loop-i-init
loop-i-init c =
    let ls = nows c.args.texts.now in
    let all : length ls - 0 ≡ length ls = omega arith in
    record { no_fault_yet = ap (fault_from (first_rule ls) 0) all; read = record { after = c.requires.after; within = c.requires.within; clean = clean_none } }

pub loop-i-preserved : goal.loop-i-preserved
loop-i-preserved c =
    let taken = c.in_ok-rule.was ∙ ap Ok c.in_default.is in
    let none = sym c.in_default.is ∙ c.in_ok-rule.ensures.rule in
    record {
      no_fault_yet = no_fault_more (nows c.args.texts.now) c.args.texts.now c.loop-i.i _ c.loop-i.draft refl c.loop-i.invariant.no_fault_yet c.loop-i.invariant.read.after c.loop-i-test.true none;
      read = record {
        after = after_more (nows c.args.texts.now) c.args.texts.now c.loop-i.i _ c.loop-i.draft refl c.loop-i.invariant.no_fault_yet c.loop-i.invariant.read.after c.take_line.new.self c.loop-i-test.true (c.take_line.ensures.taken taken);
        within = c.take_line.ensures.within taken;
        clean = clean_after (nows c.args.texts.now) c.args.texts.now c.loop-i.i _ c.loop-i.draft refl c.loop-i.invariant.no_fault_yet c.loop-i.invariant.read.after c.loop-i-test.true none c.loop-i.invariant.read.clean;
      };
    }

pub returns-clause-fault : goal.returns-clause-fault
returns-clause-fault c =
    let over = round_is_over (nows c.args.texts.now) c.args.texts.now c.loop-i.i (record { ref_ptr = (0, 0); now = [] }) c.loop-i.draft refl c.loop-i.invariant.no_fault_yet c.loop-i.invariant.read.after c.loop-i-test.false in
    ap (λ f. refused_or f (uses_after 1 0 [] (forms_of (nows c.args.texts.now)))) over.0
    ∙ ap Ok (sym (c.loop-i.invariant.read.after.uses ∙ ap (λ ls. uses_after 1 0 [] (forms_of ls)) over.1))

pub returns-clause-read : goal.returns-clause-read
returns-clause-read c =
    let over = round_is_over (nows c.args.texts.now) c.args.texts.now c.loop-i.i (record { ref_ptr = (0, 0); now = [] }) c.loop-i.draft refl c.loop-i.invariant.no_fault_yet c.loop-i.invariant.read.after c.loop-i-test.false in
    subst (λ ls. IsRead c.loop-i.draft (forms_of ls)) over.1 c.loop-i.invariant.read
