use Rattle.std.proofs.Common.{◌≡◌, List, Some, length, sym, ap, subst, ◌∙◌, arith}
use Rattle.std.specs.Prelude.{All, IfOk, slice_get}
use Rattle.std.proofs.lemmas.List.Elements.{All-weaker}
use Rattle.scan_model.specs.declared.logs.Scored.{Scored}
use Rattle.scan_model.specs.Universe.{universe}
use Rattle.fault_effects.specs.declared.suspect.Suspect.{Suspect}
use Rattle.fault_effects.specs.Owners.{IsSuspectOf, places_of}
use Rattle.match_counts.specs.Totals.{AreTotals, candidates_in}
use Rattle.chain_compactor.specs.CompactMatches.{compact_bits, compact_class, predicts_compact_fail}
use Rattle.chain_compactor.proofs.counting.counts_at.Goals as goal

pub owners_of-requires-clause-few : goal.owners_of-requires-clause-few
owners_of-requires-clause-few c = omega (arith, ap length c.as_slice.ensures, c.in_ok-suspects.ensures.few, c.requires.few)

pub returns : goal.returns
returns c = λ logs stands.
    let t = c.args.parts.now in
    let k = c.args.compact.now in
    let suspects : List Suspect = c.in_ok-suspects.suspects in
    let found : places_of suspects ≡ c.args.places.now = c.in_ok-suspects.ensures.places c.requires.places in
    let same : c.as_slice-3.result.now ≡ suspects = c.as_slice-3.ensures in
    let Counted : List Suspect → Type 0 = λ xs. AreTotals (compact_bits t k) (compact_class t k logs) (predicts_compact_fail t k) xs c.in_ok-totals.totals in
    let Standing : List Suspect → Type 0 = All (λ s. slice_get (universe t) s.place ≡ Some s.fault) in
    let Listed : List Scored → Type 0 = λ rows. IfOk c.list_candidates.result (λ found. found ≡ rows) in
    let standing : Standing suspects = All-weaker (IsSuspectOf t) (λ (s : Suspect). slice_get (universe t) s.place ≡ Some s.fault) (λ s is. is.at) suspects c.in_ok-suspects.ensures.each in
    subst Listed (ap (λ (xs : List Suspect). candidates_in (universe t) (compact_bits t k) (compact_class t k logs) (predicts_compact_fail t k) (places_of xs)) same
    ∙ ap (candidates_in (universe t) (compact_bits t k) (compact_class t k logs) (predicts_compact_fail t k)) found)
    (c.list_candidates.ensures (universe t) (compact_bits t k) (compact_class t k logs) (predicts_compact_fail t k)
    (subst Standing (sym same) standing)
    (subst Counted (c.as_slice-2.ensures ∙ sym same) (c.in_ok-totals.ensures.whole logs stands)))
