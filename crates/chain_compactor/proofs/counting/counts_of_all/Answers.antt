use Rattle.std.proofs.Common.{◌≡◌, ◌<◌, ◌^◌, ℕ, List, length, sym, ap, subst, ◌∙◌}
use Rattle.std.specs.Prelude.{All, IfOk}
use Rattle.scan_model.specs.declared.logs.Scored.{Scored}
use Rattle.scan_model.specs.Universe.{universe}
use Rattle.fail_logs.proofs.Whole.{range_below}
use Rattle.match_counts.specs.Totals.{candidates_in}
use Rattle.match_counts.proofs.CandidateRows.{all_candidates}
use Rattle.chain_compactor.specs.CompactMatches.{compact_bits, compact_class, predicts_compact_fail}
use Rattle.chain_compactor.proofs.counting.counts_of_all.Goals as goal

pub counts_at-requires-clause-places : goal.counts_at-requires-clause-places
counts_at-requires-clause-places c =
    let n = length (universe c.args.parts.now) in
    subst (λ (ps : List ℕ). All (λ p. p < n) ps) (sym (c.deref.ensures.value ∙ c.in_ok-places.ensures.all)) (range_below n)

pub counts_at-requires-clause-few : goal.counts_at-requires-clause-few
counts_at-requires-clause-few c = subst (λ (ps : List ℕ). length ps < 2 ^ 32) (sym c.deref.ensures.value) c.in_ok-places.ensures.few

pub returns : goal.returns
returns c = λ logs stands.
    let t = c.args.parts.now in
    let k = c.args.compact.now in
    let Listed : List Scored → Type 0 = λ rows. IfOk c.counts_at.result (λ found. found ≡ rows) in
    subst Listed (ap (candidates_in (universe t) (compact_bits t k) (compact_class t k logs) (predicts_compact_fail t k)) (c.deref.ensures.value ∙ c.in_ok-places.ensures.all)
    ∙ all_candidates (universe t) (compact_bits t k) (compact_class t k logs) (predicts_compact_fail t k))
    (c.counts_at.ensures logs stands)
