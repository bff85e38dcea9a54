-- The places of the faults of each kind in the list of all, and their sites.
use Rattle.std.proofs.Common.{◌≡◌, ℕ, ◌+◌, ◌-◌, ◌<◌, ◌≤◌, List, ◌++◌, length, Option, Some, None, sym, ap, ◌∙◌, inl, inr, arith, length-append}
use Rattle.std.specs.Prelude.{slice_get, IfSome, option_map, filter}
use Rattle.std.specs.List.{enumerate_from}
use Rattle.std.proofs.lemmas.List.Elements.{Contains-append_cases}
use Rattle.scan_model.specs.declared.fault.Stuck.{Stuck}
use Rattle.scan_model.specs.declared.fault.BridgeKind.{BridgeKind}
use Rattle.scan_model.specs.declared.fault.CellKind.{CellKind}
use Rattle.scan_model.specs.declared.fault.Fault.{Fault}
use Rattle.scan_model.specs.declared.fault.Fault.TheVariants.{Stem, Branch, Bridge, Cell}
use Rattle.scan_model.specs.Netlist.{is_branch, pin_numbers}
use Rattle.scan_model.specs.ScanTest.{ScanTest, IsScanTest, HasSite}
use Rattle.scan_model.specs.Universe.{universe, stems, branches, bridges, cells}
use Rattle.scan_model.proofs.Sites.{site_of}
use Rattle.fault_universe.specs.FaultPlaces.{FindsPlace}
use Rattle.fault_universe.proofs.Blocks.{Contains-at, slice_get-left, slice_get-right, found_before, found_after}
use Rattle.fault_universe.proofs.StemPlaces.{only_stems}
use Rattle.fault_universe.proofs.BranchPlaces.{branch_owner}
use Rattle.fault_universe.proofs.BridgePlaces.{bridge_owner}
use Rattle.fault_universe.proofs.CellPlaces.{only_cells}

pub site_at : (t : ScanTest) (o : Option Fault) (k : ℕ) → IsScanTest t → o ≡ slice_get (universe t) k → IfSome o (HasSite t)
site_at t None k sound is = tt
site_at t (Some f) k sound is = site_of t f sound (Contains-at (universe t) k f (sym is))

-- a place in one of four lists laid end to end

module _ {X : Type 0} (a b c d : List X) where
  pub in_first : (k : ℕ) → k < length a → slice_get (a ++ b ++ c ++ d) k ≡ slice_get a k
  in_first k lt = slice_get-left (a ++ b ++ c) d k (omega (arith, length-append (a ++ b) c, length-append a b))
      ∙ slice_get-left (a ++ b) c k (omega (arith, length-append a b)) ∙ slice_get-left a b k lt

  pub in_second : (k na : ℕ) → na ≡ length a → na ≤ k → k - na < length b → slice_get (a ++ b ++ c ++ d) k ≡ slice_get b (k - na)
  in_second k na is_a past lt =
      let same : k - length a ≡ k - na = omega (arith, is_a) in
      slice_get-left (a ++ b ++ c) d k (omega (arith, is_a, length-append (a ++ b) c, length-append a b))
      ∙ slice_get-left (a ++ b) c k (omega (arith, is_a, length-append a b)) ∙ slice_get-right a b k (omega (arith, is_a)) ∙ ap (slice_get b) same

  pub in_third : (k na nb : ℕ) → na ≡ length a → nb ≡ length b → na ≤ k → nb ≤ k - na → k - na - nb < length c → slice_get (a ++ b ++ c ++ d) k ≡ slice_get c (k - na - nb)
  in_third k na nb is_a is_b past after lt =
      let same : k - length (a ++ b) ≡ k - na - nb = omega (arith, is_a, is_b, length-append a b) in
      slice_get-left (a ++ b ++ c) d k (omega (arith, is_a, is_b, length-append (a ++ b) c, length-append a b))
      ∙ slice_get-right (a ++ b) c k (omega (arith, is_a, is_b, length-append a b)) ∙ ap (slice_get c) same

  pub in_fourth : (k na nb nc : ℕ) → na ≡ length a → nb ≡ length b → nc ≡ length c → na ≤ k → nb ≤ k - na → nc ≤ k - na - nb → slice_get (a ++ b ++ c ++ d) k ≡ slice_get d (k - na - nb - nc)
  in_fourth k na nb nc is_a is_b is_c past after last =
      let same : k - length (a ++ b ++ c) ≡ k - na - nb - nc = omega (arith, is_a, is_b, is_c, length-append (a ++ b) c, length-append a b) in
      slice_get-right (a ++ b ++ c) d k (omega (arith, is_a, is_b, is_c, length-append (a ++ b) c, length-append a b)) ∙ ap (slice_get d) same

-- the place in the list of all from the place among those of its kind

pub finds_stem : (t : ScanTest) (n : ℕ) (v : Stuck) (o : Option ℕ) → FindsPlace (stems t) (Stem n v) o → FindsPlace (universe t) (Stem n v) o
finds_stem t n v o found =
    let f = Stem n v in
    found_before (stems t ++ branches t ++ bridges t) (cells t) f o (only_cells (enumerate_from 0 t.chains) f)
    (found_before (stems t ++ branches t) (bridges t) f o (λ there. (bridge_owner t.profile t.pairs.kept f there).2)
    (found_before (stems t) (branches t) f o (λ there. (branch_owner (filter (is_branch t.netlist) (pin_numbers t.netlist)) f there).2) found))

pub finds_branch : (t : ScanTest) (p : ℕ) (v : Stuck) (o : Option ℕ) → FindsPlace (branches t) (Branch p v) o → FindsPlace (universe t) (Branch p v) (option_map (λ k. length (stems t) + k) o)
finds_branch t p v o found =
    let f = Branch p v in
    let moved : Option ℕ = option_map (λ k. length (stems t) + k) o in
    found_before (stems t ++ branches t ++ bridges t) (cells t) f moved (only_cells (enumerate_from 0 t.chains) f)
    (found_before (stems t ++ branches t) (bridges t) f moved (λ there. (bridge_owner t.profile t.pairs.kept f there).2)
    (found_after (stems t) (branches t) f o (only_stems t f) found))

pub finds_bridge : (t : ScanTest) (a b : ℕ) (kind : BridgeKind) (o : Option ℕ) → FindsPlace (bridges t) (Bridge a b kind) o → FindsPlace (universe t) (Bridge a b kind) (option_map (λ k. length (stems t ++ branches t) + k) o)
finds_bridge t a b kind o found =
    let f = Bridge a b kind in
    found_before (stems t ++ branches t ++ bridges t) (cells t) f (option_map (λ k. length (stems t ++ branches t) + k) o) (only_cells (enumerate_from 0 t.chains) f)
    (found_after (stems t ++ branches t) (bridges t) f o (λ there. elim (Contains-append_cases (stems t) (branches t) f there) [
      | inl here ↦ only_stems t f here
      | inr later ↦ (branch_owner (filter (is_branch t.netlist) (pin_numbers t.netlist)) f later).2
    ]) found)

pub finds_cell : (t : ScanTest) (h i : ℕ) (kind : CellKind) (o : Option ℕ) → FindsPlace (cells t) (Cell h i kind) o → FindsPlace (universe t) (Cell h i kind) (option_map (λ k. length (stems t ++ branches t ++ bridges t) + k) o)
finds_cell t h i kind o found =
    let f = Cell h i kind in
    found_after (stems t ++ branches t ++ bridges t) (cells t) f o (λ there. elim (Contains-append_cases (stems t ++ branches t) (bridges t) f there) [
      | inl front ↦ elim (Contains-append_cases (stems t) (branches t) f front) [
        | inl here ↦ only_stems t f here
        | inr later ↦ (branch_owner (filter (is_branch t.netlist) (pin_numbers t.netlist)) f later).2
      ]
      | inr later ↦ (bridge_owner t.profile t.pairs.kept f later).2
    ]) found
