use Rattle.std.proofs.Common.{◌≡◌, ℕ, ◌≤◌, List, Some, length, ap, subst, ◌∙◌, arith}
use Rattle.std.specs.Prelude.{Contains, slice_get, IfOk}
use Rattle.scan_model.specs.declared.fault.Fault.{Fault}
use Rattle.scan_model.specs.declared.logs.Scored.{Scored}
use Rattle.scan_model.specs.MatchCounts.{counts_of}
use Rattle.scan_model.specs.Suspect.{suspects}
use Rattle.scan_model.specs.Universe.{universe}
use Rattle.fault_effects.specs.Owners.{places_of}
use Rattle.match_counts.specs.Totals.{candidates_at}
use Rattle.match_counts.proofs.BlockSums.{suspects_few}
use Rattle.match_counts.proofs.CandidateRows.{suspects_below, suspects_candidates}
use Rattle.match_counts.proofs.suspect_counts.counts.Goals as goal

pub owners_of-requires-clause-few : goal.owners_of-requires-clause-few
owners_of-requires-clause-few g c = omega (arith, ap length c.as_slice-2.ensures, c.in_ok-suspects.ensures.few, c.few_places-places.ensures.few)

pub returns : goal.returns
returns g c = λ logs stands.
    let t = c.args.parts.now in
    let traced : c.as_slice.result.now ≡ suspects t logs = c.as_slice.ensures ∙ c.in_ok-traced.ensures.suspects logs stands in
    let few : length c.as_slice.result.now ≤ length (universe t) = omega (arith, ap length traced, suspects_few t logs) in
    let places : c.few_places-places.result.now ≡ suspects t logs = c.few_places-places.ensures.same few ∙ traced in
    let found : places_of c.as_slice-3.result.now ≡ suspects t logs = ap places_of c.as_slice-3.ensures ∙ c.in_ok-suspects.ensures.places (rw places (suspects_below t logs)) ∙ places in
    let Outside : List ℕ → Type 0 = λ ps. (k : ℕ) (f : Fault) → slice_get (universe t) k ≡ Some f → ¬ (Contains ps k) → (counts_of t logs f).tfsf ≡ 0 in
    let outside : Outside (suspects t logs) = subst Outside (c.in_ok-traced.ensures.suspects logs stands) (c.in_ok-traced.ensures.outside logs stands) in
    let Listed : List Scored → Type 0 = λ rows. IfOk c.counts_over.result (λ found. found ≡ rows) in
    subst Listed (ap (candidates_at t logs) found ∙ suspects_candidates t logs outside) (c.counts_over.ensures logs stands)
