use Rattle.std.proofs.Common.{rules, ◌≡◌}
use Rattle.diagnosis.specs.Designs.{facts_of}
use Rattle.diagnosis.specs.Subjects.{subject_case, subject_candidates}
use Rattle.diagnosis.proofs.Reports.{places, in_order}
use Rattle.diagnosis.proofs.diagnosed.diagnosis_over.Goals as goal

pub report_over-requires-clause-places : goal.report_over-requires-clause-places
report_over-requires-clause-places g c κs within =
    let k = subject_case c.args.subject.now in
    let all : c.in_ok-rows.rows ≡ subject_candidates c.args.subject.now = search rules in
    places k.test (facts_of k.logs) c.in_ok-rows.rows c.rank_in_threads.new.rows all c.rank_in_threads.ensures.same

pub report_over-requires-clause-ranked : goal.report_over-requires-clause-ranked
report_over-requires-clause-ranked g c κs within =
    let k = subject_case c.args.subject.now in
    let all : c.in_ok-rows.rows ≡ subject_candidates c.args.subject.now = search rules in
    in_order k.test (facts_of k.logs) c.in_ok-rows.rows c.rank_in_threads.new.rows all c.rank_in_threads.ensures.one

pub returns-clause-candidates : goal.returns-clause-candidates
returns-clause-candidates g c =
    let k = subject_case c.args.subject.now in
    let all : c.in_ok-rows.rows ≡ subject_candidates c.args.subject.now = search rules in
    in_order k.test (facts_of k.logs) c.in_ok-rows.rows c.rank_in_threads.new.rows all c.rank_in_threads.ensures.one
