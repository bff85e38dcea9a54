use Rattle.std.proofs.Common.{◌≡◌, ◌∙◌, List, length, sym, ap, subst}
use Rattle.std.proofs.lemmas.Result.{IfOk-weaker}
use Rattle.scan_model.specs.declared.values.Tri.{Tri}
use Rattle.log_join.specs.Joining.{JoinedBits, IsJoinedOf, FitsExpected}
use Rattle.compact_points.specs.Compaction.{compact_rows}
use Rattle.compact_points.proofs.CompactRows.{length-compact_rows, compact_places, rows_fit}
use Rattle.compact_points.proofs.expected.compact_expected_over.Goals as goal

pub expected_of-requires-clause-patterns : goal.expected_of-requires-clause-patterns
expected_of-requires-clause-patterns c = length-compact_rows c.args.parts.now c.args.compact.now ∙ sym (c.len.ensures ∙ ap length c.patterns.ensures.value)

pub expected_of-requires-clause-whole : goal.expected_of-requires-clause-whole
expected_of-requires-clause-whole c = λ k d lt. compact_places c.args.parts.now c.args.compact.now k d lt ∙ sym c.points.ensures.count

pub returns-clause-fits : goal.returns-clause-fits
returns-clause-fits c =
    let t = c.args.parts.now in
    let k = c.args.compact.now in
    let Fits : List (List Tri) → Type 0 = λ rows. (joined : JoinedBits) → IsJoinedOf (length t.patterns) (length k.points) joined → FitsExpected rows joined in
    IfOk-weaker c.expected_of.result (λ rows. rows ≡ compact_rows t k) Fits (λ rows is. subst Fits (sym is) (rows_fit t k)) c.expected_of.ensures
