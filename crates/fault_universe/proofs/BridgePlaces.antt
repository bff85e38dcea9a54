-- The bridge faults: where each stands, and whose they are.
use Rattle.std.proofs.Common.{rules, ◌≡◌, ℕ, ◌+◌, ◌*◌, ◌/◌, ◌%◌, ◌<◌, ◌≤◌, true, false, List, length, get_or, Some, refl, subst, ◌∙◌, inl, inr, arith}
use Rattle.std.specs.Prelude.{flat_map, slice_get, Contains, ◌⊎◌, All}
use Rattle.std.specs.List.{AllByRecursion}
use Rattle.std.proofs.lemmas.Bool.{eqb-true, eq-eqb, both_ways}
use Rattle.std.proofs.lemmas.Option.{slice_get-get_or}
use Rattle.std.proofs.lemmas.List.Elements.{All-contains, All-from_recursion}
use Rattle.scan_model.specs.declared.parts.Pair.{Pair}
use Rattle.scan_model.specs.declared.fault.BridgeKind.{BridgeKind}
use Rattle.scan_model.specs.declared.fault.Profile.{Profile}
use Rattle.scan_model.specs.declared.fault.Profile.TheVariants.{One, Two}
use Rattle.scan_model.specs.declared.fault.Fault.{Fault}
use Rattle.scan_model.specs.declared.fault.Fault.TheVariants.{Stem, Branch, Bridge, Cell}
use Rattle.scan_model.specs.ScanTest.{ScanTest}
use Rattle.scan_model.specs.Universe.{bridges, bridge_faults, bridges_per_pair}
use Rattle.fault_universe.specs.KeptPairs.{is_pair, IsNoneOfPair}
use Rattle.fault_universe.proofs.Blocks.{length-blocks, block_at, block_of, owner}

pub faults_counted : (profile : Profile) (p : Pair) → length (bridge_faults profile p) ≡ bridges_per_pair profile
faults_counted One p = refl
faults_counted Two p = refl

pub length-bridges_of : (profile : Profile) (pairs : List Pair) → length (flat_map (bridge_faults profile) pairs) ≡ bridges_per_pair profile * length pairs
length-bridges_of profile pairs = length-blocks (bridge_faults profile) (bridges_per_pair profile) pairs (faults_counted profile)

pub few_bridges : (profile : Profile) (n : ℕ) → n ≤ 65536 → bridges_per_pair profile * n ≤ 524288
few_bridges One n few = omega (arith, few)
few_bridges Two n few = omega (arith, few)

pub bridge_in_block : (profile : Profile) (pairs : List Pair) (i j k : ℕ) (d : Pair) → i < length pairs → j < bridges_per_pair profile → bridges_per_pair profile * i + j ≡ k
    → slice_get (flat_map (bridge_faults profile) pairs) k ≡ slice_get (bridge_faults profile (get_or pairs i d)) j
bridge_in_block profile pairs i j k d lt small is =
    block_at (bridge_faults profile) (bridges_per_pair profile) pairs i j k (get_or pairs i d) (faults_counted profile) (slice_get-get_or pairs i d lt) small is

pub pairs_within : (profile : Profile) (i n : ℕ) → i < n → bridges_per_pair profile * i + bridges_per_pair profile ≤ bridges_per_pair profile * n
pairs_within One i n lt = omega (arith, lt)
pairs_within Two i n lt = omega (arith, lt)

pub pair_more : (profile : Profile) (i : ℕ) → bridges_per_pair profile * (i + 1) ≡ bridges_per_pair profile * i + bridges_per_pair profile
pair_more One i = omega arith
pair_more Two i = omega arith

-- a place is a pair's place and a number in its list
pub parted : (profile : Profile) (k : ℕ) → bridges_per_pair profile * (k / bridges_per_pair profile) + k % bridges_per_pair profile ≡ k
parted One k = omega arith
parted Two k = omega arith

pub number_inside : (profile : Profile) (k : ℕ) → k % bridges_per_pair profile < bridges_per_pair profile
number_inside One k = omega arith
number_inside Two k = omega arith

pub bridge_at_is : (profile : Profile) (pairs : List Pair) (k : ℕ) (d : Pair) (e : Fault) → k / bridges_per_pair profile < length pairs
    → slice_get (flat_map (bridge_faults profile) pairs) k ≡ Some (get_or (bridge_faults profile (get_or pairs (k / bridges_per_pair profile) d)) (k % bridges_per_pair profile) e)
bridge_at_is profile pairs k d e lt =
    let n = bridges_per_pair profile in
    let faults = bridge_faults profile (get_or pairs (k / n) d) in
    bridge_in_block profile pairs (k / n) (k % n) k d lt (number_inside profile k) (parted profile k)
    ∙ slice_get-get_or faults (k % n) e (omega (arith, number_inside profile k, faults_counted profile (get_or pairs (k / n) d)))

-- where the pairs end
pub bridges_past : (profile : Profile) (pairs : List Pair) (k : ℕ) → length pairs ≤ k / bridges_per_pair profile → length (flat_map (bridge_faults profile) pairs) ≤ k
bridges_past One pairs k past = omega (arith, past, length-bridges_of One pairs)
bridges_past Two pairs k past = omega (arith, past, length-bridges_of Two pairs)

-- a bridge fault is that of a pair, whose nets it has
abbrev pub IsBridgeOf : Pair → Fault → Type 0
IsBridgeOf p (Stem n v) = ⊥
IsBridgeOf p (Branch q v) = ⊥
IsBridgeOf p (Bridge a b kind) = ((p.a ≡ a) × (p.b ≡ b)) ⊎ ((p.b ≡ a) × (p.a ≡ b))
IsBridgeOf p (Cell h i kind) = ⊥

nets_there : (profile : Profile) (p : Pair) → AllByRecursion (IsBridgeOf p) (bridge_faults profile p)
nets_there One p = (inl (refl, refl), (inr (refl, refl), (inl (refl, refl), (inl (refl, refl), tt))))
nets_there Two p = (inl (refl, refl), (inr (refl, refl), (inl (refl, refl), (inl (refl, refl), (inl (refl, refl), (inr (refl, refl), (inl (refl, refl), (inr (refl, refl), tt))))))))

pub bridge_owner : (profile : Profile) (pairs : List Pair) (f : Fault) → Contains (flat_map (bridge_faults profile) pairs) f → (p : Pair) × Contains pairs p × IsBridgeOf p f
bridge_owner profile pairs f there = owner (bridge_faults profile) IsBridgeOf pairs f (nets_there profile) there

-- no place where no pair of the two nets has the fault
pub no_bridge : (t : ScanTest) (a b : ℕ) (kind : BridgeKind) → IsNoneOfPair t a b (Bridge a b kind) → IsNoneOfPair t b a (Bridge a b kind) → Contains (bridges t) (Bridge a b kind) → ⊥
no_bridge t a b kind straight turned there =
    let whose = block_of (bridge_faults t.profile) t.pairs.kept (Bridge a b kind) there in
    let p = whose.0 in
    let nets : IsBridgeOf p (Bridge a b kind) = All-contains (IsBridgeOf p) (bridge_faults t.profile p) (Bridge a b kind) (All-from_recursion (IsBridgeOf p) (bridge_faults t.profile p) (nets_there t.profile p)) whose.2 in
    elim nets [
      | inl same ↦ straight p whose.1 (rw (eq-eqb p.a a same.0, eq-eqb p.b b same.1) refl) whose.2
      | inr other ↦ turned p whose.1 (rw (eq-eqb p.a b other.1, eq-eqb p.b a other.0) refl) whose.2
    ]

nets_of : (a b : ℕ) (p : Pair) → is_pair a b p ≡ true → (p.a ≡ a) × (p.b ≡ b)
nets_of a b p e = search (rules, eqb-true)

-- pairs of the same two nets have the same faults
pub same_faults : (profile : Profile) (a b : ℕ) (p q : Pair) → is_pair a b p ≡ true → is_pair a b q ≡ true → bridge_faults profile p ≡ bridge_faults profile q
same_faults profile a b p q at_p at_q =
    let first = nets_of a b p at_p in
    let second = nets_of a b q at_q in
    go profile first second
  where
    go : (profile : Profile) → (p.a ≡ a) × (p.b ≡ b) → (q.a ≡ a) × (q.b ≡ b) → bridge_faults profile p ≡ bridge_faults profile q
    go One first second = rw (first.0, first.1, second.0, second.1) refl
    go Two first second = rw (first.0, first.1, second.0, second.1) refl

-- no pair of the two nets where the search finds none
pub no_pair_found : (t : ScanTest) (a b : ℕ) (f : Fault) → All (λ q. is_pair a b q ≡ false) t.pairs.kept → IsNoneOfPair t a b f
no_pair_found t a b f none p there is has = both_ways (is_pair a b p) (All-contains (λ q. is_pair a b q ≡ false) t.pairs.kept p none there) is

-- no fault where the pair that the search finds hasn't it
pub no_fault_found : (t : ScanTest) (a b : ℕ) (f : Fault) (q : Pair) → is_pair a b q ≡ true → (Contains (bridge_faults t.profile q) f → ⊥) → IsNoneOfPair t a b f
no_fault_found t a b f q at none p there is has = none (subst (λ fs. Contains fs f) (same_faults t.profile a b p q is at) has)
