use Rattle.std.proofs.Common.{◌≡◌, ℕ, ◌+◌, ◌-◌, ◌*◌, ◌<◌, ◌++◌, map, sym, subst, ap, ◌∙◌, arith}
use Rattle.scan_model.specs.Coverage.{bit_of}
use Rattle.scan_model.specs.Classes.{class_with}
use Rattle.fault_universe.specs.BitRows.{row_bits}
use Rattle.diag_report.specs.BitTally.{block_bits, listed_over, HaveSameAside}
use Rattle.diag_report.proofs.TallySteps.{block_more, list_more, list_same}
use Rattle.diag_report.proofs.tally.list_word.Goals as goal

pub loop-pattern-preserved : goal.loop-pattern-preserved
loop-pattern-preserved c =
    let word = c.args.word in
    let w = c.loop-pattern.pattern in
    let j = w - 64 * word in
    let points = c.args.points in
    let inv = c.loop-pattern.invariant in
    let inside : w < c.args.joined.now.patterns = omega (arith, c.loop-pattern-test.true, c.min-end.ensures, c.requires.patterns) in
    let few : j < 64 = omega (arith, c.loop-pattern-test.true, c.min-end.ensures, c.saturating_add.ensures) in
    let place : 64 * word + j ≡ w = omega arith in
    let next : j + 1 ≡ w + 1 - 64 * word = omega arith in
    record {
      listed = λ logs stands.
          let classes = class_with c.args.expected.now logs in
          let found = c.as_slice.result.now in
          let same : HaveSameAside classes (map (bit_of w) found) (row_bits w points) =
          rw c.as_slice.ensures (subst (λ (v : ℕ). HaveSameAside classes (map (bit_of v) c.in_ok-found.found) (row_bits v points)) place (c.in_ok-found.ensures.aside logs stands j few (omega (arith, inside)))) in
          let row : c.list_row.new.tally ≡ listed_over classes (row_bits w points) c.loop-pattern.tally =
          list_same classes (map (bit_of w) found) (row_bits w points) c.loop-pattern.tally c.list_row.new.tally same (c.in_ok-list_row.ensures.listed logs stands) in
          list_more classes (block_bits (64 * word) j points) (row_bits w points) c.args.tally.now c.loop-pattern.tally c.list_row.new.tally (inv.listed logs stands) row
          ∙ ap (λ bits. listed_over classes bits c.args.tally.now)
          (ap (λ (v : ℕ). block_bits (64 * word) j points ++ row_bits v points) (sym place) ∙ sym (block_more points (64 * word) j) ∙ ap (λ (m : ℕ). block_bits (64 * word) m points) next);
      tally = λ n all. c.in_ok-list_row.ensures.tally n (inv.tally n all);
    }
