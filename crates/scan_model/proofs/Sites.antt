-- The faults of the universe sit at nets, pins and cells that are there.
use Rattle.std.proofs.Common.{◌≡◌, ℕ, zero, suc, ◌+◌, ◌<◌, Bool, true, false, cond, List, [], ◌∷◌, ◌++◌, length, get_or, refl, ap, subst, arith}
use Rattle.std.specs.Prelude.{All, Contains, filter, flat_map}
use Rattle.std.specs.List.{range_with_len, enumerate_from, AllByRecursion}
use Rattle.std.proofs.lemmas.List.Elements.{All-from_recursion, recursion_from_All, All-contains}
use Rattle.scan_model.specs.declared.parts.Chain.{Chain}
use Rattle.scan_model.specs.declared.fault.Fault.{Fault}
use Rattle.scan_model.specs.declared.fault.Profile.{Profile}
use Rattle.scan_model.specs.declared.fault.Profile.TheVariants.{One, Two}
use Rattle.scan_model.specs.declared.parts.Pair.{Pair}
use Rattle.scan_model.specs.Netlist.{net_numbers, pin_numbers, is_branch}
use Rattle.scan_model.specs.ScanTest.{ScanTest, IsScanTest, chain_at, no_chain, HasSite}
use Rattle.scan_model.specs.Universe.{universe, stems, branches, bridges, cells, stem_faults, branch_faults, bridge_faults, cell_faults, chain_faults}

append : {A : Type 0} (P : A → Type 0) (xs ys : List A) → AllByRecursion P xs → AllByRecursion P ys → AllByRecursion P (xs ++ ys)
append P [] ys a b = b
append P (x ∷ xs) ys a b = (a.0, append P xs ys a.1 b)

in_flat_map : {A B : Type 0} (P : B → Type 0) (Q : A → Type 0) (f : A → List B) (xs : List A) → ((x : A) → Q x → AllByRecursion P (f x)) → AllByRecursion Q xs → AllByRecursion P (flat_map f xs)
in_flat_map P Q f [] each all = tt
in_flat_map P Q f (x ∷ xs) each all = append P (f x) (flat_map f xs) (each x all.0) (in_flat_map P Q f xs each all.1)

in_filter : {A : Type 0} (P : A → Type 0) (p : A → Bool) (xs : List A) → AllByRecursion P xs → AllByRecursion P (filter p xs)
in_filter P p [] all = tt
in_filter {A} P p (x ∷ xs) all = elim (p x) as (λ b. AllByRecursion P (cond b (x ∷ filter p xs) (filter p xs))) [ true ↦ (all.0, in_filter P p xs all.1) | false ↦ in_filter P p xs all.1 ]

in_range : (a n : ℕ) → AllByRecursion (λ k. k < a + n) (range_with_len a n)
in_range a zero = tt
in_range a (suc n) = (omega arith, subst (λ (m : ℕ). AllByRecursion (λ k. k < m) (range_with_len (a + 1) n)) (omega arith) (in_range (a + 1) n))

in_chains : (t : ScanTest) (h : ℕ) (cs : List Chain) → ((j : ℕ) → j < length cs → (h + j < length t.chains) × (get_or cs j no_chain ≡ chain_at t (h + j))) → AllByRecursion (λ e. (e.0 < length t.chains) × (e.1 ≡ chain_at t e.0)) (enumerate_from h cs)
in_chains t h [] each = tt
in_chains t h (c ∷ cs) each =
    let s : h + 0 ≡ h = omega arith in
    let here : (h < length t.chains) × (c ≡ chain_at t h) = subst (λ (n : ℕ). (n < length t.chains) × (c ≡ chain_at t n)) s (each 0 (omega arith)) in (
      here,
      in_chains t (h + 1) cs (λ j lt.
          let s : h + suc j ≡ (h + 1) + j = omega arith in
          subst (λ (n : ℕ). (n < length t.chains) × (get_or cs j no_chain ≡ chain_at t n)) s (each (suc j) (omega arith))),
    )

cells_there : (t : ScanTest) (e : ℕ × Chain) → (e.0 < length t.chains) × (e.1 ≡ chain_at t e.0) → AllByRecursion (HasSite t) (chain_faults e)
cells_there t e there = in_flat_map (HasSite t) (λ i. i < 0 + length e.1.cells) (cell_faults e.0) (range_with_len 0 (length e.1.cells))
    (λ i lt. let site : (e.0 < length t.chains) × (i < length (chain_at t e.0).cells) = (there.0, omega (arith, ap (λ (c : Chain). length c.cells) there.1)) in (site, (site, (site, (site, tt)))))
    (in_range 0 (length e.1.cells))

pair_there : (t : ScanTest) (profile : Profile) (p : Pair) → (p.a < length t.netlist.nets) × (p.b < length t.netlist.nets) → AllByRecursion (HasSite t) (bridge_faults profile p)
pair_there t One p site = (site, ((site.1, site.0), (site, (site, tt))))
pair_there t Two p site = (site, ((site.1, site.0), (site, (site, (site, ((site.1, site.0), (site, ((site.1, site.0), tt))))))))

pub universe_there : (t : ScanTest) → IsScanTest t → All (HasSite t) (universe t)
universe_there t sound = All-from_recursion (HasSite t) (universe t)
    (append (HasSite t) (stems t ++ branches t ++ bridges t) (cells t)
    (append (HasSite t) (stems t ++ branches t) (bridges t)
    (append (HasSite t) (stems t) (branches t)
    (in_flat_map (HasSite t) (λ n. n < 0 + length t.netlist.nets) stem_faults (net_numbers t.netlist) (λ n lt. (omega arith, (omega arith, tt))) (in_range 0 (length t.netlist.nets)))
    (in_flat_map (HasSite t) (λ p. p < 0 + length t.netlist.pins) branch_faults (filter (is_branch t.netlist) (pin_numbers t.netlist)) (λ p lt. (omega arith, (omega arith, tt))) (in_filter (λ p. p < 0 + length t.netlist.pins) (is_branch t.netlist) (pin_numbers t.netlist) (in_range 0 (length t.netlist.pins)))))
    (in_flat_map (HasSite t) (λ p. (p.a < length t.netlist.nets) × (p.b < length t.netlist.nets)) (bridge_faults t.profile) t.pairs.kept (pair_there t t.profile) (recursion_from_All (λ p. (p.a < length t.netlist.nets) × (p.b < length t.netlist.nets)) t.pairs.kept sound.pairs.kept_nets)))
    (in_flat_map (HasSite t) (λ e. (e.0 < length t.chains) × (e.1 ≡ chain_at t e.0)) chain_faults (enumerate_from 0 t.chains) (cells_there t)
    (in_chains t 0 t.chains (λ j lt. let s : 0 + j ≡ j = omega arith in rw s (lt, refl)))))

-- a fault of the universe has its site
pub site_of : (t : ScanTest) (f : Fault) → IsScanTest t → Contains (universe t) f → HasSite t f
site_of t f sound in' = All-contains (HasSite t) (universe t) f (universe_there t sound) in'
