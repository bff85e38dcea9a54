use Rattle.std.proofs.Common.{◌≡◌, ◌/◌, ◌%◌, ◌<◌, ◌≤◌, ℕ, List, length, take, get_or, Some, sym, ap, ◌∙◌}
use Rattle.std.specs.Prelude.{slice_get}
use Rattle.std.proofs.lemmas.Option.{slice_get_past}
use Rattle.scan_model.specs.declared.parts.Pair.{Pair}
use Rattle.scan_model.specs.declared.fault.Profile.{Profile}
use Rattle.scan_model.specs.declared.fault.Fault.{Fault}
use Rattle.scan_model.specs.ScanTest.{ScanTest}
use Rattle.scan_model.specs.Universe.{bridges, bridge_faults, bridges_per_pair}
use Rattle.fault_universe.specs.KeptPairs.{no_pair}
use Rattle.fault_universe.proofs.BridgePlaces.{bridges_past, bridge_at_is}
use Rattle.fault_universe.proofs.bridges.bridge_at.Goals as goal

past : (t : ScanTest) (pairs : List Pair) (profile : Profile) (count place : ℕ) → pairs ≡ t.pairs.kept → profile ≡ t.profile → count ≡ bridges_per_pair profile → length pairs ≤ place / count → length (bridges t) ≤ place
past t pairs profile count place kept of_test counted le = bridges_past t.profile t.pairs.kept place (rw (kept, counted, of_test) at le)

there : (t : ScanTest) (pairs : List Pair) (profile : Profile) (count place : ℕ) (all : List Fault) (e : Fault) → pairs ≡ t.pairs.kept → profile ≡ t.profile → count ≡ bridges_per_pair profile → place / count < length pairs
    → take (bridges_per_pair t.profile) all ≡ bridge_faults t.profile (get_or pairs (place / count) no_pair) → Some (get_or (take count all) (place % count) e) ≡ slice_get (bridges t) place
there t pairs profile count place all e kept of_test counted lt is =
    let n = bridges_per_pair t.profile in
    let count_is : count ≡ n = counted ∙ ap bridges_per_pair of_test in
    let inside : place / n < length t.pairs.kept = rw (kept, count_is) at lt in
    ap (λ (m : ℕ). Some (get_or (take m all) (place % m) e)) count_is
    ∙ ap (λ (fs : List Fault). Some (get_or fs (place % n) e)) is
    ∙ ap (λ (ps : List Pair). Some (get_or (bridge_faults t.profile (get_or ps (place / count) no_pair)) (place % n) e)) kept
    ∙ ap (λ (m : ℕ). Some (get_or (bridge_faults t.profile (get_or t.pairs.kept (place / m) no_pair)) (place % n) e)) count_is
    ∙ sym (bridge_at_is t.profile t.pairs.kept place no_pair e inside)

pub returns-then-at-pairs : goal.returns-then-at-pairs
returns-then-at-pairs c =
    sym (slice_get_past (bridges c.args.parts.now) c.args.place (past c.args.parts.now c.kept_pairs-pairs.result.now c.profile.result c.faults_per_pair-count.result c.args.place c.kept_pairs-pairs.ensures.kept c.profile.ensures.value c.faults_per_pair-count.ensures.count c.if-at-pairs.true))

pub returns : goal.returns
returns c =
    there c.args.parts.now c.kept_pairs-pairs.result.now c.profile.result c.faults_per_pair-count.result c.args.place c.faults_of_pair-all.result _ c.kept_pairs-pairs.ensures.kept c.profile.ensures.value c.faults_per_pair-count.ensures.count
    c.if-at-pairs.false (c.faults_of_pair-all.ensures c.args.parts.now.profile)
