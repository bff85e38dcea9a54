use Rattle.std.proofs.Common.{◌≡◌, ◌<◌, ◌^◌, ℕ, List, Some, length, sym, ap, subst, ◌∙◌}
use Rattle.std.specs.Prelude.{All, Contains, IfOk, slice_get}
use Rattle.scan_model.specs.declared.fault.Fault.{Fault}
use Rattle.scan_model.specs.declared.logs.LogFacts.{LogFacts}
use Rattle.scan_model.specs.declared.logs.Scored.{Scored}
use Rattle.scan_model.specs.Universe.{universe}
use Rattle.scan_model.specs.Suspect.{suspects}
use Rattle.match_counts.specs.Totals.{candidates_in}
use Rattle.match_counts.proofs.CandidateRows.{suspects_below}
use Rattle.chain_compactor.specs.CompactMatches.{compact_bits, compact_class, compact_counts_of, predicts_compact_fail}
use Rattle.chain_compactor.proofs.AmongSuspects.{among_suspects}
use Rattle.chain_compactor.proofs.counting.compact_counts.Goals as goal

pub counts_at-requires-clause-places : goal.counts_at-requires-clause-places
counts_at-requires-clause-places g c =
    let t = c.args.parts.now in
    let found : (plain : List LogFacts) × (c.in-Some.places ≡ suspects t plain) = rw c.in-Some.is at c.in_ok-places.ensures.suspects in
    subst (λ (ps : List ℕ). All (λ p. p < length (universe t)) ps) (sym (c.as_slice.ensures ∙ found.1)) (suspects_below t found.0)

pub counts_at-requires-clause-few : goal.counts_at-requires-clause-few
counts_at-requires-clause-few g c =
    let few : length c.in-Some.places < 2 ^ 32 = rw c.in-Some.is at c.in_ok-places.ensures.few in
    subst (λ (ps : List ℕ). length ps < 2 ^ 32) (sym c.as_slice.ensures) few

pub returns-in-Some-clause-counts : goal.returns-in-Some-clause-counts
returns-in-Some-clause-counts g c = λ logs stands.
    let t = c.args.parts.now in
    let k = c.args.compact.now in
    let bits = compact_bits t k in
    let classes = compact_class t k logs in
    let found : (plain : List LogFacts) × (c.in-Some.places ≡ suspects t plain) = rw c.in-Some.is at c.in_ok-places.ensures.suspects in
    let Outside : List ℕ → Type 0 = λ ps. (p : ℕ) (f : Fault) → slice_get (universe t) p ≡ Some f → ¬ (Contains ps p) → (compact_counts_of t k logs f).tfsf ≡ 0 in
    let outside : Outside c.in-Some.places = rw c.in-Some.is at (c.in_ok-places.ensures.outside logs stands) in
    let Listed : List Scored → Type 0 = λ rows. IfOk c.counts_at.result (λ counted. counted ≡ rows) in
    subst Listed (ap (candidates_in (universe t) bits classes (predicts_compact_fail t k)) (c.as_slice.ensures ∙ found.1)
    ∙ among_suspects t found.0 bits classes (predicts_compact_fail t k) (subst Outside found.1 outside))
    (c.counts_at.ensures logs stands)
