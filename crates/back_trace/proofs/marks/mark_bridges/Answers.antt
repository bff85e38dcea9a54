use Rattle.std.proofs.Common.{◌≡◌, ◌∙◌, ℕ, ◌+◌, ◌*◌, ◌<◌, ◌≤◌, List, Bool, length, get_or, refl, ap, sym, subst, arith}
use Rattle.std.specs.Prelude.{slice_get}
use Rattle.std.proofs.lemmas.Option.{slice_get-get_or}
use Rattle.scan_model.specs.declared.parts.Pair.{Pair}
use Rattle.scan_model.specs.declared.parts.Pairs.{Pairs}
use Rattle.scan_model.specs.ScanTest.{ScanTest, IsScanTest}
use Rattle.scan_model.specs.Universe.{universe, stems, branches, bridges, bridge_faults, bridges_per_pair}
use Rattle.fault_universe.specs.KeptPairs.{no_pair}
use Rattle.fault_universe.proofs.BridgePlaces.{pair_more, pairs_within}
use Rattle.back_trace.specs.SuspectMarks.{MarksOn, StandAt}
use Rattle.back_trace.proofs.Standing.{bridge_stands, bridge_count, universe_count}
use Rattle.back_trace.proofs.marks.mark_bridges.Goals as goal

-- the faults of the pair at a place of the list stand there
stands : (t : ScanTest) (pairs : List Pair) (first i count : ℕ) → pairs ≡ t.pairs.kept → first ≡ length (stems t) + length (branches t) → count ≡ bridges_per_pair t.profile → i < length pairs
    → StandAt t (first + count * i) (bridge_faults t.profile (get_or pairs i no_pair))
stands t pairs first i count are is counted lt =
    subst (λ (n : ℕ). StandAt t (first + n * i) (bridge_faults t.profile (get_or pairs i no_pair))) (sym counted)
    (bridge_stands t first i (get_or pairs i no_pair) is (ap (λ (xs : List Pair). slice_get xs i) (sym are) ∙ slice_get-get_or pairs i no_pair lt))

-- it ends within the list
within_list : (t : ScanTest) (pairs : List Pair) (first i count : ℕ) → pairs ≡ t.pairs.kept → first ≡ length (stems t) + length (branches t) → count ≡ bridges_per_pair t.profile → i < length pairs
    → first + count * i ≤ length (universe t)
within_list t pairs first i count are is counted lt =
    let inside : i < length t.pairs.kept = rw are at lt in
    rw counted (omega (arith, is, pairs_within t.profile i (length t.pairs.kept) inside, bridge_count t, universe_count t))

nets_there : (t : ScanTest) (pairs : List Pair) (i : ℕ) → IsScanTest t → pairs ≡ t.pairs.kept → i < length pairs
    → ((get_or pairs i no_pair).a < length t.netlist.nets) × ((get_or pairs i no_pair).b < length t.netlist.nets)
nets_there t pairs i sound are lt = rw are (sound.pairs.kept_nets i no_pair (rw are at lt))

pub mark_pair-requires-clause-faults : goal.mark_pair-requires-clause-faults
mark_pair-requires-clause-faults c =
    let t = c.args.parts.now in
    let pairs = c.as_slice-pairs.result.now in
    let pairs_are : pairs ≡ t.pairs.kept = c.as_slice-pairs.ensures ∙ ap (λ (x : Pairs). x.kept) c.pairs.ensures.value in
    let counted : c.faults_per_pair-count.result ≡ bridges_per_pair t.profile = c.faults_per_pair-count.ensures.count ∙ ap bridges_per_pair c.profile.ensures.value in
    stands t pairs c.args.first c.loop-i.i c.faults_per_pair-count.result pairs_are c.requires.first counted c.loop-i-test.true

pub mark_pair-requires-clause-nets : goal.mark_pair-requires-clause-nets
mark_pair-requires-clause-nets c =
    let t = c.args.parts.now in
    let pairs_are : c.as_slice-pairs.result.now ≡ t.pairs.kept = c.as_slice-pairs.ensures ∙ ap (λ (x : Pairs). x.kept) c.pairs.ensures.value in
    nets_there t c.as_slice-pairs.result.now c.loop-i.i c.requires.traced.sound pairs_are c.loop-i-test.true

pub loop-i-preserved : goal.loop-i-preserved
loop-i-preserved c = λ b good within initial so_far.
    let t = c.args.parts.now in
    let n = bridges_per_pair t.profile in
    let i = c.loop-i.i in
    let first = c.args.first in
    let counted : c.faults_per_pair-count.result ≡ n = c.faults_per_pair-count.ensures.count ∙ ap bridges_per_pair c.profile.ensures.value in
    let next : first + n * i + n ≡ first + n * (i + 1) = omega (arith, pair_more t.profile i) in
    let here = subst (λ (m : ℕ). MarksOn t c.args.block.now c.args.trace.now (first + m * i) (first + m * i + n) c.loop-i.marks c.mark_pair.new.marks) counted c.mark_pair.ensures in
    subst (λ (m : ℕ). MarksOn t c.args.block.now c.args.trace.now (first + n * i) m c.loop-i.marks c.mark_pair.new.marks) next here b good within initial (c.loop-i.invariant b good within initial so_far)

pub returns : goal.returns
returns c =
    let t = c.args.parts.now in
    let n = bridges_per_pair t.profile in
    let pairs = c.as_slice-pairs.result.now in
    let pairs_are : pairs ≡ t.pairs.kept = c.as_slice-pairs.ensures ∙ ap (λ (x : Pairs). x.kept) c.pairs.ensures.value in
    let all : c.loop-i.i ≡ length t.pairs.kept = omega (arith, ap length pairs_are, c.loop-i.auto.i-end, c.loop-i-test.false) in
    let whole : c.args.first + n * c.loop-i.i ≡ c.args.first + length (bridges t) = ap (λ (k : ℕ). c.args.first + n * k) all ∙ ap (λ (m : ℕ). c.args.first + m) (sym (bridge_count t)) in
    subst (λ (m : ℕ). MarksOn t c.args.block.now c.args.trace.now c.args.first m c.args.marks.now c.loop-i.marks) whole c.loop-i.invariant
