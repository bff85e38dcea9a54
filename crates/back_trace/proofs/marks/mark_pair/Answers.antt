use Rattle.std.proofs.Common.{◌≡◌, ◌∙◌, ℕ, ◌+◌, List, length, take, ap, sym, subst}
use Rattle.scan_model.specs.declared.fault.Fault.{Fault}
use Rattle.scan_model.specs.declared.fault.Profile.{Profile}
use Rattle.scan_model.specs.declared.parts.Pair.{Pair}
use Rattle.scan_model.specs.Universe.{bridge_faults, bridges_per_pair}
use Rattle.fault_universe.proofs.BridgePlaces.{faults_counted}
use Rattle.back_trace.specs.SuspectMarks.{MarksOn, StandAt}
use Rattle.back_trace.proofs.Unreached.{bridge_stays}
use Rattle.back_trace.proofs.marks.mark_pair.Goals as goal

-- the first faults of the list, as many as the profile has
first_faults : (profile profile' : Profile) (pair : Pair) (count : ℕ) (all : List Fault) → count ≡ bridges_per_pair profile' → profile' ≡ profile → take (bridges_per_pair profile) all ≡ bridge_faults profile pair
    → take count all ≡ bridge_faults profile pair
first_faults profile profile' pair count all counted same are = ap (λ (n : ℕ). take n all) (counted ∙ ap bridges_per_pair same) ∙ are

pub returns-then-is_empty_at-2 : goal.returns-then-is_empty_at-2
returns-then-is_empty_at-2 c = bridge_stays c.args.parts.now c.args.block.now c.args.trace.now c.requires.traced c.args.pair.now c.args.first c.args.marks.now c.requires.nets (c.is_empty_at.ensures.empty c.if-is_empty_at.true) (c.is_empty_at-then-is_empty_at.ensures.empty c.if-is_empty_at-2.true) c.requires.faults

pub mark_each-requires-clause-faults : goal.mark_each-requires-clause-faults
mark_each-requires-clause-faults c =
    let t = c.args.parts.now in
    let are = first_faults t.profile c.profile.result c.args.pair.now c.faults_per_pair-count.result c.faults_of_pair-all.result c.faults_per_pair-count.ensures.count c.profile.ensures.value (c.faults_of_pair-all.ensures t.profile) in
    subst (λ (fs : List Fault). StandAt t c.args.first fs) (sym are) c.requires.faults

pub returns : goal.returns
returns c =
    let t = c.args.parts.now in
    let are = first_faults t.profile c.profile.result c.args.pair.now c.faults_per_pair-count.result c.faults_of_pair-all.result c.faults_per_pair-count.ensures.count c.profile.ensures.value (c.faults_of_pair-all.ensures t.profile) in
    subst (λ (n : ℕ). MarksOn t c.args.block.now c.args.trace.now c.args.first (c.args.first + n) c.args.marks.now c.mark_each.new.marks) (ap length are ∙ faults_counted t.profile c.args.pair.now) c.mark_each.ensures
