use Rattle.std.proofs.Common.{◌≡◌, ℕ, ◌+◌, ◌<◌, [], ◌++◌, length, get_or, refl, subst, ◌∙◌, arith}
use Rattle.std.proofs.lemmas.List.{get_or_default}
use Rattle.scan_model.specs.declared.values.Tri.TheVariants.{Unknown}
use Rattle.scan_model.specs.Values.{are_opposite}
use Rattle.scan_model.specs.ChainShift.{value_at}
use Rattle.fault_universe.specs.BitRows.{row_bits}
use Rattle.match_counts.specs.Tally.{counts_over}
use Rattle.match_counts.proofs.BitCounting.{row_more, AreAtMost-le}
use Rattle.match_counts.proofs.tally.count_row.Goals as goal

pub loop-point-preserved : goal.loop-point-preserved
loop-point-preserved c =
    let w = c.args.pattern in
    let k = c.loop-point.point in
    let values = c.args.values.now in
    let row = get_or c.args.expected.now w [] in
    let inside : k < length values = omega arith in
    let predicted : c.is_fail-predicted.result ≡ are_opposite (value_at row k) (value_at values k) = c.is_fail-predicted.ensures ∙ rw (c.get.ensures, get_or_default values k _ Unknown inside) refl in
    record {
      counts = λ logs good bad bits stands is_row is_values start.
          row_more logs good bad bits w k row values c.loop-point.sum c.count_bit-sum.result c.class-class.result c.is_fail-predicted.result
          (c.loop-point.invariant.counts logs good bad bits stands is_row is_values start) is_row is_values (c.class-class.ensures logs stands) predicted c.count_bit-sum.ensures.counts;
      at_most = λ n most. AreAtMost-le (n + k + 1) (n + (k + 1)) c.count_bit-sum.result (omega arith) (c.count_bit-sum.ensures.at_most (n + k) (c.loop-point.invariant.at_most n most));
    }

pub returns-clause-counts : goal.returns-clause-counts
returns-clause-counts c = λ logs good bad bits stands is_row is_values start.
    let whole : c.loop-point.point ≡ c.args.joined.now.points = omega arith in
    subst (λ (n : ℕ). c.loop-point.sum ≡ counts_over logs good bad (bits ++ row_bits c.args.pattern n)) whole (c.loop-point.invariant.counts logs good bad bits stands is_row is_values start)
