-- What drives the cells in a pattern that captures: the source of a chain fault by cell.
use Rattle.std.proofs.Common.{◌≡◌, ◌≢◌, ℕ, suc, ◌+◌, ◌-◌, ◌<◌, ◌≤◌, List, [], ◌∷◌, length, map, get_or, Option, Some, None, refl, sym, ap, ◌∙◌, inl, inr, arith}
use Rattle.std.specs.Prelude.{flat_map}
use Rattle.std.specs.List.{enumerate_from}
use Rattle.std.proofs.lemmas.Bool.{cases_lt, cases_eq, eq-eqb, ne_eqb}
use Rattle.std.proofs.lemmas.List.{get_or-map}
use Rattle.std.proofs.lemmas.List.FromFn.{length-enumerate_from, get_or-enumerate_from}
use Rattle.scan_model.specs.declared.values.Tri.{Tri}
use Rattle.scan_model.specs.declared.values.Tri.TheVariants.{Unknown}
use Rattle.scan_model.specs.declared.parts.Chain.{Chain}
use Rattle.scan_model.specs.declared.parts.PatternKind.TheVariants.{Capture}
use Rattle.scan_model.specs.declared.fault.CellKind.{CellKind}
use Rattle.scan_model.specs.declared.fault.Fault.{Fault}
use Rattle.scan_model.specs.declared.fault.Fault.TheVariants.{Cell}
use Rattle.scan_model.specs.ChainShift.{value_at, passed, loaded_at}
use Rattle.scan_model.specs.ScanTest.{ScanTest, IsScanTest, FitsPattern, input_count, chain_at, pattern_at, cells_of, no_chain, no_pattern}
use Rattle.scan_model.specs.Faults.{loaded}
use Rattle.scan_model.specs.NetValue.{assigned, loads_of, source_of}
use Rattle.scan_model.specs.Loads.{FitChains, load, cell}
use Rattle.scan_model.proofs.Assigned.{assigned_agree, assigned-append}
use Rattle.scan_model.proofs.Loads.{same_len, as_many, length-loaded, row_drives}
use Rattle.scan_model.proofs.counting.Chains.{load_at, load_stays, load_moves, load_above, load_below}

-- ---- values by net

row_agree : (ms : List ℕ) (vs ws : List Tri) (f : ℕ → Tri) (n : ℕ) → length ms ≡ length vs → length ms ≡ length ws
    → ((i : ℕ) → i < length ms → get_or ms i 0 ≡ n → value_at vs i ≡ value_at ws i) → assigned ms vs f n ≡ assigned ms ws f n
row_agree [] vs ws f n e d same = refl
row_agree (m ∷ ms) [] ws f n e d same = absurd (omega arith)
row_agree (m ∷ ms) (v ∷ vs) [] f n e d same = absurd (omega arith)
row_agree (m ∷ ms) (v ∷ vs) (w ∷ ws) f n e d same = elim (cases_eq n m) [
  | inl is ↦ rw (eq-eqb n m is) (same 0 (omega arith) (sym is))
  | inr other ↦ rw (ne_eqb n m other) (row_agree ms vs ws f n (omega arith) (omega arith) (λ i lt is. same (suc i) (omega arith) is))
]

rows_agree : (chains : List Chain) (rows others : List (List Tri)) (f : ℕ → Tri) (n : ℕ) → FitChains chains rows → FitChains chains others
    → ((h i : ℕ) → h < length chains → i < length (get_or chains h no_chain).cells → get_or (get_or chains h no_chain).cells i 0 ≡ n → value_at (get_or rows h []) i ≡ value_at (get_or others h []) i)
    → assigned (cells_of chains) (flat_map (λ row. row) rows) f n ≡ assigned (cells_of chains) (flat_map (λ row. row) others) f n
rows_agree [] rows others f n e d same = refl
rows_agree (c ∷ cs) [] others f n e d same = absurd cc
rows_agree (c ∷ cs) (r ∷ rs) [] f n e d same = absurd cc
rows_agree (c ∷ cs) (r ∷ rs) (o ∷ os) f n e d same =
    let len : length c.cells ≡ length r = cc in
    let len' : length c.cells ≡ length o = cc in
    let rest : FitChains cs rs = cc in
    let rest' : FitChains cs os = cc in
    rw (assigned-append c.cells (cells_of cs) r (flat_map (λ row. row) rs) f n len, assigned-append c.cells (cells_of cs) o (flat_map (λ row. row) os) f n len')
    (row_agree c.cells r o (assigned (cells_of cs) (flat_map (λ row. row) rs) f) n len len' (λ i lt is. same 0 i (omega arith) lt is)
    ∙ assigned_agree c.cells o (assigned (cells_of cs) (flat_map (λ row. row) rs) f) (assigned (cells_of cs) (flat_map (λ row. row) os) f) n
    (rows_agree cs rs os f n rest rest' (λ h i lt within is. same (suc h) i (omega arith) within is)))

-- ---- the rows that a fault makes of the loads

lengths_kept : (f : Option Fault) (k : ℕ) (rows : List (List Tri)) → map length (map (λ e. loaded f e.0 e.1) (enumerate_from k rows)) ≡ map length rows
lengths_kept f k [] = refl
lengths_kept f k (r ∷ rs) = rw (length-loaded f k r, lengths_kept f (k + 1) rs) refl

row_of_chain : (f : Option Fault) (rows : List (List Tri)) (h : ℕ) → h < length rows → get_or (map (λ e. loaded f e.0 e.1) (enumerate_from 0 rows)) h [] ≡ loaded f h (get_or rows h [])
row_of_chain f rows h lt =
    let none : ℕ × List Tri = (0, []) in
    let zero_add : 0 + h ≡ h = omega arith in
    get_or-map (λ (e : ℕ × List Tri). loaded f e.0 e.1) (enumerate_from 0 rows) h none [] (omega (arith, length-enumerate_from 0 rows))
    ∙ ap (λ (e : ℕ × List Tri). loaded f e.0 e.1) (get_or-enumerate_from 0 rows h none lt)
    ∙ ap (λ (n : ℕ). loaded f n (get_or rows h [])) zero_add

module _ (t : ScanTest) (w : ℕ) (sound : IsScanTest t) (lt : w < length t.patterns) (captures : (pattern_at t w).kind ≡ Capture) where
  pattern_fits : FitsPattern t.netlist t.chains (pattern_at t w)
  pattern_fits = sound.patterns.each w no_pattern lt

  -- each chain has its load, with a value for each cell
  pub loads_fit : (f : Option Fault) → FitChains t.chains (loads_of t f w)
  loads_fit f = lengths_kept f 0 (pattern_at t w).loads ∙ pattern_fits.loads

  pub length-load : (h : ℕ) → h < length t.chains → length (chain_at t h).cells ≡ length (load t w h)
  length-load h in' = same_len t.chains (pattern_at t w).loads h no_chain [] pattern_fits.loads in'

  inputs_len : length t.netlist.inputs ≡ length (pattern_at t w).inputs
  inputs_len = sym (pattern_fits.inputs ∙ ap (input_count t.netlist) captures)

  behind_inputs : (f : Option Fault) (n : ℕ) → source_of t f w n ≡ assigned t.netlist.inputs (pattern_at t w).inputs (assigned (cells_of t.chains) (flat_map (λ row. row) (loads_of t f w)) (λ m. Unknown)) n
  behind_inputs f n = assigned-append t.netlist.inputs (cells_of t.chains) (pattern_at t w).inputs (flat_map (λ row. row) (loads_of t f w)) (λ m. Unknown) n inputs_len

  load_of_chain : (f : Option Fault) (h : ℕ) → h < length t.chains → get_or (loads_of t f w) h [] ≡ loaded f h (load t w h)
  load_of_chain f h in' = row_of_chain f (pattern_at t w).loads h (omega (arith, as_many t.chains (pattern_at t w).loads pattern_fits.loads))

  -- two faults that load a cell's value alike have the same source there
  pub source_agrees : (f g : Option Fault) (n : ℕ)
      → ((h i : ℕ) → h < length t.chains → i < length (chain_at t h).cells → cell t h i ≡ n → value_at (loaded f h (load t w h)) i ≡ value_at (loaded g h (load t w h)) i)
      → source_of t f w n ≡ source_of t g w n
  source_agrees f g n same =
      behind_inputs f n
      ∙ assigned_agree t.netlist.inputs (pattern_at t w).inputs (assigned (cells_of t.chains) (flat_map (λ row. row) (loads_of t f w)) (λ m. Unknown)) (assigned (cells_of t.chains) (flat_map (λ row. row) (loads_of t g w)) (λ m. Unknown)) n
      (rows_agree t.chains (loads_of t f w) (loads_of t g w) (λ m. Unknown) n (loads_fit f) (loads_fit g) (λ h i in' within is.
      ap (λ (row : List Tri). value_at row i) (load_of_chain f h in') ∙ same h i in' within is ∙ sym (ap (λ (row : List Tri). value_at row i) (load_of_chain g h in'))))
      ∙ sym (behind_inputs g n)

  -- the source of a cell is what its chain is loaded with
  pub source_own : (f : Option Fault) (h i : ℕ) → h < length t.chains → i < length (chain_at t h).cells → source_of t f w (cell t h i) ≡ value_at (loaded f h (load t w h)) i
  source_own f h i in' within =
      behind_inputs f (cell t h i)
      ∙ row_drives t (pattern_at t w).inputs (loads_of t f w) h i sound (loads_fit f) in' within
      ∙ ap (λ (row : List Tri). value_at row i) (load_of_chain f h in')

  module _ (h : ℕ) (K : CellKind) (in_range : h < length t.chains) where
    own_row : (c i : ℕ) → i < length (chain_at t h).cells → value_at (loaded (Some (Cell h c K)) h (load t w h)) i ≡ loaded_at K c (load t w h) i
    own_row c i within = rw (eq-eqb h h refl) (load_at K c i (load t w h) (omega (arith, length-load h in_range)))

    -- the sources of two neighbouring faults differ at the net of cell c + 1 alone
    pub source_stays : (c n : ℕ) → n ≢ cell t h (c + 1) → source_of t (Some (Cell h c K)) w n ≡ source_of t (Some (Cell h (c + 1) K)) w n
    source_stays c n other = source_agrees (Some (Cell h c K)) (Some (Cell h (c + 1) K)) n (λ g i in' within is. elim (cases_eq g h) [
      | inl same ↦
          let within' : i < length (chain_at t h).cells = omega (arith, ap (λ (k : ℕ). length (chain_at t k).cells) same) in
          let apart : i ≢ c + 1 = λ at. other (sym is ∙ ap (λ (k : ℕ). cell t k i) same ∙ ap (cell t h) at) in
          rw same (own_row c i within' ∙ load_stays K c i (load t w h) apart ∙ sym (own_row (c + 1) i within'))
      | inr differs ↦ rw (ne_eqb g h differs) refl
    ])

    pub source_moves : (c : ℕ) → c + 1 < length (chain_at t h).cells → source_of t (Some (Cell h c K)) w (cell t h (c + 1)) ≡ passed K (load t w h) (c + 1)
    source_moves c within = source_own (Some (Cell h c K)) h (c + 1) in_range within ∙ own_row c (c + 1) within ∙ load_moves K c (load t w h)

    pub source_above : (c i : ℕ) → c < i → i < length (chain_at t h).cells → source_of t (Some (Cell h c K)) w (cell t h i) ≡ passed K (load t w h) i
    source_above c i above within = source_own (Some (Cell h c K)) h i in_range within ∙ own_row c i within ∙ load_above K c i (load t w h) above

    -- but for the cells above c the source is that without fault
    pub source_free : (c n : ℕ) → ((i : ℕ) → c < i → i < length (chain_at t h).cells → cell t h i ≢ n) → source_of t (Some (Cell h c K)) w n ≡ source_of t None w n
    source_free c n apart = source_agrees (Some (Cell h c K)) None n (λ g i in' within is. elim (cases_eq g h) [
      | inl same ↦
          let within' : i < length (chain_at t h).cells = omega (arith, ap (λ (k : ℕ). length (chain_at t k).cells) same) in
          let below : i ≤ c = below_from i (λ above. apart i above within' (ap (λ (k : ℕ). cell t k i) (sym same) ∙ is)) in
          rw same (own_row c i within' ∙ load_below K c i (load t w h) below)
      | inr differs ↦ rw (ne_eqb g h differs) refl
    ])
      where
        below_from : (i : ℕ) → (c < i → ⊥) → i ≤ c
        below_from i never = elim (cases_lt c i) [ inl above ↦ absurd (never above) | inr below ↦ below ]

    -- a fault behind the last cell leaves the source as it is
    pub source_last : (n : ℕ) → source_of t (Some (Cell h (length (chain_at t h).cells - 1) K)) w n ≡ source_of t None w n
    source_last n = source_free (length (chain_at t h).cells - 1) n (λ i above within. absurd (omega arith))
