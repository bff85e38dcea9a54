-- Where the faults of each site stand in the list of all.
use Rattle.std.proofs.Common.{◌≡◌, ℕ, ◌+◌, ◌-◌, ◌*◌, ◌<◌, List, [], ◌++◌, length, get_or, take, Some, refl, sym, ap, ◌∙◌, arith, length-append}
use Rattle.std.specs.Prelude.{filter, slice_get}
use Rattle.std.specs.List.{range_with_len}
use Rattle.std.proofs.lemmas.List.{take_more, flat_map_more}
use Rattle.std.proofs.lemmas.List.FromFn.{length-range_with_len, get_or-range_with_len}
use Rattle.std.proofs.lemmas.Option.{slice_get-get_or, get_or_from_slice_get, slice_get_within}
use Rattle.scan_model.specs.declared.parts.Chain.{Chain}
use Rattle.scan_model.specs.declared.parts.Pair.{Pair}
use Rattle.scan_model.specs.declared.fault.Fault.{Fault}
use Rattle.scan_model.specs.Netlist.{is_branch, pin_numbers, net_numbers}
use Rattle.scan_model.specs.ScanTest.{ScanTest, IsScanTest, HasSite, cells_of}
use Rattle.scan_model.specs.Universe.{universe, stems, branches, bridges, cells, stem_faults, branch_faults, bridge_faults, bridges_per_pair, cell_faults}
use Rattle.scan_model.proofs.Sites.{site_of}
use Rattle.fault_universe.proofs.Blocks.{Contains-at, block_at}
use Rattle.fault_universe.proofs.StemPlaces.{length-stems_of}
use Rattle.fault_universe.proofs.BranchPlaces.{length-branches_of}
use Rattle.fault_universe.proofs.BridgePlaces.{length-bridges_of, faults_counted, pairs_within}
use Rattle.fault_universe.proofs.CellPlaces.{length-cells_from, cell_stands, chain_room}
use Rattle.fault_universe.proofs.UniversePlaces.{in_first, in_second, in_third, in_fourth}
use Rattle.back_trace.specs.SuspectMarks.{no_fault, StandAt}

module _ (t : ScanTest) where
  abbrev pins : List ℕ
  pins = filter (is_branch t.netlist) (pin_numbers t.netlist)

  -- ---- each fault of a list that stands there

  module _ (first : ℕ) (faults : List Fault) (stand : StandAt t first faults) (k : ℕ) (lt : k < length faults) (d : Fault) where
    here : slice_get (universe t) (first + k) ≡ Some (get_or faults k d)
    here = stand k lt ∙ slice_get-get_or faults k d lt

    pub place_there : first + k < length (universe t)
    place_there = slice_get_within (universe t) (first + k) (get_or faults k d) here

    pub fault_there : get_or (universe t) (first + k) no_fault ≡ get_or faults k d
    fault_there = get_or_from_slice_get (universe t) (first + k) (get_or faults k d) no_fault here

    pub site_there : IsScanTest t → HasSite t (get_or faults k d)
    site_there sound = site_of t (get_or faults k d) sound (Contains-at (universe t) (first + k) (get_or faults k d) here)

  -- ---- site by site

  pub stem_count : length (stems t) ≡ 2 * length t.netlist.nets
  stem_count = length-stems_of 0 (length t.netlist.nets)

  pub branch_count : length (branches t) ≡ 2 * length pins
  branch_count = length-branches_of pins

  pub bridge_count : length (bridges t) ≡ bridges_per_pair t.profile * length t.pairs.kept
  bridge_count = length-bridges_of t.profile t.pairs.kept

  pub cell_count : length (cells t) ≡ 4 * length (cells_of t.chains)
  cell_count = length-cells_from 0 t.chains

  pub universe_count : length (universe t) ≡ length (stems t) + length (branches t) + length (bridges t) + length (cells t)
  universe_count = omega (arith, length-append (stems t ++ branches t ++ bridges t) (cells t), length-append (stems t ++ branches t) (bridges t), length-append (stems t) (branches t))

  pub stem_stands : (n : ℕ) → n < length t.netlist.nets → StandAt t (2 * n) (stem_faults n)
  stem_stands n lt k lk =
      let small : k < 2 = lk in
      let there : slice_get (net_numbers t.netlist) n ≡ Some n = slice_get-get_or (range_with_len 0 (length t.netlist.nets)) n 0 (omega (arith, lt, length-range_with_len 0 (length t.netlist.nets))) ∙ ap Some (get_or-range_with_len 0 (length t.netlist.nets) n 0 lt ∙ omega arith) in
      in_first (stems t) (branches t) (bridges t) (cells t) (2 * n + k) (omega (arith, lt, small, stem_count)) ∙ block_at stem_faults 2 (net_numbers t.netlist) n k (2 * n + k) n (λ m. refl) there small refl

  pub branch_stands : (first i pin : ℕ) → first ≡ length (stems t) → slice_get pins i ≡ Some pin → StandAt t (first + 2 * i) (branch_faults pin)
  branch_stands first i pin is there k lk =
      let small : k < 2 = lk in
      let at = first + 2 * i + k in
      let lt : i < length pins = slice_get_within pins i pin there in
      in_second (stems t) (branches t) (bridges t) (cells t) at first is (omega arith) (omega (arith, lt, small, branch_count))
      ∙ block_at branch_faults 2 pins i k (at - first) pin (λ p. refl) there small (omega arith)

  pub bridge_stands : (first i : ℕ) (pair : Pair) → first ≡ length (stems t) + length (branches t) → slice_get t.pairs.kept i ≡ Some pair → StandAt t (first + bridges_per_pair t.profile * i) (bridge_faults t.profile pair)
  bridge_stands first i pair is there k lk =
      let count = bridges_per_pair t.profile in
      let small : k < count = omega (arith, lk, faults_counted t.profile pair) in
      let at = first + count * i + k in
      let lt : i < length t.pairs.kept = slice_get_within t.pairs.kept i pair there in
      let rest : count * i + k ≡ at - length (stems t) - length (branches t) = omega (arith, is) in
      in_third (stems t) (branches t) (bridges t) (cells t) at (length (stems t)) (length (branches t)) refl refl (omega (arith, is)) (omega (arith, is)) (omega (arith, is, small, pairs_within t.profile i (length t.pairs.kept) lt, bridge_count))
      ∙ block_at (bridge_faults t.profile) count t.pairs.kept i k (at - length (stems t) - length (branches t)) pair (faults_counted t.profile) there small rest

  pub cell_stands_at : (first place h i : ℕ) (d : Chain) → first ≡ length (stems t) + length (branches t) + length (bridges t) → place ≡ first + 4 * length (cells_of (take h t.chains)) → h < length t.chains → i < length (get_or t.chains h d).cells
      → StandAt t (place + 4 * i) (cell_faults h i)
  cell_stands_at first place h i d is at_chain lt inside k lk =
      let small : k < 4 = lk in
      let at = place + 4 * i + k in
      let S = length (stems t) in
      let R = length (branches t) in
      let B = length (bridges t) in
      in_fourth (stems t) (branches t) (bridges t) (cells t) at S R B refl refl refl (omega (arith, is, at_chain)) (omega (arith, is, at_chain)) (omega (arith, is, at_chain))
      ∙ cell_stands 0 t.chains h i k (at - S - R - B) d lt inside small (omega (arith, is, at_chain)) ∙ ap (λ n. slice_get (cell_faults n i) k) (omega arith)

  pub chain_more : (h : ℕ) (d : Chain) → h < length t.chains → length (cells_of (take (h + 1) t.chains)) ≡ length (cells_of (take h t.chains)) + length (get_or t.chains h d).cells
  chain_more h d lt = ap (λ (cs : List Chain). length (cells_of cs)) (take_more t.chains h d lt) ∙ ap length (sym (flat_map_more (λ (x : Chain). x.cells) [] (take h t.chains) (get_or t.chains h d))) ∙ length-append (cells_of (take h t.chains)) (get_or t.chains h d).cells

  pub chain_inside : (first place h : ℕ) (d : Chain) → first ≡ length (stems t) + length (branches t) + length (bridges t) → place ≡ first + 4 * length (cells_of (take h t.chains)) → h < length t.chains
      → place + 4 * length (get_or t.chains h d).cells < length (universe t) + 1
  chain_inside first place h d is at_chain lt = omega (arith, is, at_chain, universe_count, cell_count, chain_room t.chains h d lt)
