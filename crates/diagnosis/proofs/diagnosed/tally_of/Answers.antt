use Rattle.std.proofs.Common.{◌≡◌, ◌∙◌, ◌^◌, ℕ, Result, Ok, Err, length, ap, subst, arith}
use Rattle.std.specs.Prelude.{IfOk}
use Rattle.scan_model.specs.Coverage.{bits_of, bits_over}
use Rattle.scan_model.specs.Classes.{class_with}
use Rattle.log_join.proofs.Fitting.{fits_expected}
use Rattle.diag_report.specs.BitTally.{tally_over, IsTallyOf}
use Rattle.diagnosis.specs.Designs.{facts_of}
use Rattle.diagnosis.specs.Subjects.{subject_case}
use Rattle.diagnosis.proofs.diagnosed.tally_of.Goals as goal

pub tally_bits-requires-clause-expected : goal.tally_bits-requires-clause-expected
tally_bits-requires-clause-expected c =
    let s = c.args.subject.now in
    fits_expected s.parts.now s.expected.now c.args.joined.now c.requires.subject.expected_of_test c.requires.joined.size

pub tally_bits-requires-clause-patterns : goal.tally_bits-requires-clause-patterns
tally_bits-requires-clause-patterns c = omega (arith, c.requires.joined.size.0, c.patterns.ensures.fits.patterns.few)

-- what two facts of a value show of it
both_of : {T E : Type 0} (r : Result T E) (P Q R : T → Type 0) → ((value : T) → P value → Q value → R value) → IfOk r P → IfOk r Q → IfOk r R
both_of (Ok value) P Q R shows p q = shows value p q
both_of (Err error) P Q R shows p q = tt

pub returns : goal.returns
returns c =
    let s = c.args.subject.now in
    let joined = c.args.joined.now in
    let size = c.requires.joined.size in
    let classes = class_with s.expected.now (facts_of (subject_case s).logs) in
    let same : bits_over joined.patterns joined.points ≡ bits_of s.parts.now =
    ap (λ (n : ℕ). bits_over n joined.points) size.0 ∙ ap (λ (k : ℕ). bits_over (length s.parts.now.patterns) k) size.1 in
    both_of c.tally_bits.result _ _ _
    (λ tally is all. record { classes = is ∙ ap (tally_over classes) same; points = subst (λ (k : ℕ). IsTallyOf k (2 ^ 62) tally) size.1 all })
    (c.tally_bits.ensures.classes (facts_of (subject_case s).logs) c.requires.joined.stands) c.tally_bits.ensures.tally
