use Rattle.std.proofs.Common.{◌≡◌, ◌+◌, ◌*◌, ◌<◌, ℕ, List, length, take, get_or, Some, sym, ap, subst, ◌∙◌, arith}
use Rattle.std.specs.Prelude.{slice_get, Contains}
use Rattle.std.proofs.lemmas.Option.{slice_get_within}
use Rattle.scan_model.specs.declared.parts.Pair.{Pair}
use Rattle.scan_model.specs.declared.fault.Profile.{Profile}
use Rattle.scan_model.specs.declared.fault.Fault.{Fault}
use Rattle.scan_model.specs.ScanTest.{ScanTest}
use Rattle.scan_model.specs.Universe.{bridges, bridge_faults, bridges_per_pair}
use Rattle.fault_universe.specs.KeptPairs.{no_pair}
use Rattle.fault_universe.proofs.BridgePlaces.{bridge_in_block, faults_counted, no_fault_found}
use Rattle.fault_universe.proofs.bridges.place_in_pair.Goals as goal

-- the faults that are searched are those of the pair
faults_are : (t : ScanTest) (pairs : List Pair) (profile : Profile) (count at : ℕ) (all : List Fault) → pairs ≡ t.pairs.kept → profile ≡ t.profile → count ≡ bridges_per_pair profile
    → take (bridges_per_pair t.profile) all ≡ bridge_faults t.profile (get_or pairs at no_pair) → take count all ≡ bridge_faults t.profile (get_or t.pairs.kept at no_pair)
faults_are t pairs profile count at all kept of_test counted is =
    ap (λ (m : ℕ). take m all) (counted ∙ ap bridges_per_pair of_test) ∙ is ∙ ap (λ (ps : List Pair). bridge_faults t.profile (get_or ps at no_pair)) kept

-- the place of one of them in the list of all
place_is : (t : ScanTest) (profile : Profile) (count at number : ℕ) (faults : List Fault) (f : Fault) → profile ≡ t.profile → count ≡ bridges_per_pair profile → at < length t.pairs.kept
    → faults ≡ bridge_faults t.profile (get_or t.pairs.kept at no_pair) → slice_get faults number ≡ Some f → slice_get (bridges t) (count * at + number) ≡ Some f
place_is t profile count at number faults f of_test counted lt are found =
    let n = bridges_per_pair t.profile in
    let pair = get_or t.pairs.kept at no_pair in
    let there : slice_get (bridge_faults t.profile pair) number ≡ Some f = ap (λ (fs : List Fault). slice_get fs number) (sym are) ∙ found in
    let small : number < n = omega (arith, slice_get_within (bridge_faults t.profile pair) number f there, faults_counted t.profile pair) in
    bridge_in_block t.profile t.pairs.kept at number (count * at + number) no_pair lt small (ap (λ (m : ℕ). m * at + number) (sym (counted ∙ ap bridges_per_pair of_test))) ∙ there

pub returns-in_err-number-clause-place : goal.returns-in_err-number-clause-place
returns-in_err-number-clause-place c =
    let t = c.args.parts.now in
    let are = faults_are t c.kept_pairs.result.now c.profile.result c.faults_per_pair-count.result c.in_ok-at.at c.faults_of_pair-all.result c.kept_pairs.ensures.kept c.profile.ensures.value c.faults_per_pair-count.ensures.count (c.faults_of_pair-all.ensures t.profile) in
    let pair = get_or t.pairs.kept c.in_ok-at.at no_pair in
    rw c.from_residual-in_err-number.ensures (no_fault_found t c.args.a c.args.b c.args.fault pair c.in_ok-at.ensures.pair.1 (λ has. c.in_err-number.ensures (subst (λ (fs : List Fault). Contains fs c.args.fault) (sym are) has)))

pub returns-clause-place : goal.returns-clause-place
returns-clause-place c =
    let t = c.args.parts.now in
    let are = faults_are t c.kept_pairs.result.now c.profile.result c.faults_per_pair-count.result c.in_ok-at.at c.faults_of_pair-all.result c.kept_pairs.ensures.kept c.profile.ensures.value c.faults_per_pair-count.ensures.count (c.faults_of_pair-all.ensures t.profile) in
    place_is t c.profile.result c.faults_per_pair-count.result c.in_ok-at.at c.in_ok-number.number _ c.args.fault c.profile.ensures.value c.faults_per_pair-count.ensures.count c.in_ok-at.ensures.pair.0 are c.in_ok-number.ensures
