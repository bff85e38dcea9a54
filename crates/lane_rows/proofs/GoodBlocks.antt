-- A block of fault-free values, and one block more.
use Rattle.std.proofs.Common.{false, ◌≡◌, ℕ, ◌+◌, ◌<◌, ◌++◌, ◌&&◌, Bool, List, [], ◌∷◌, length, get_or, nat_lt, ap, ◌∙◌, inl, inr, arith}
use Rattle.std.proofs.lemmas.Bool.{cases_eq, lt-ltb, ltb-true}
use Rattle.std.proofs.lemmas.List.{get_or_append_left, get_or-append-add}
use Rattle.scan_model.specs.declared.parts.PatternKind.{PatternKind}
use Rattle.scan_model.specs.declared.parts.PatternKind.TheVariants.{Capture, Shift}
use Rattle.scan_model.specs.ScanTest.{ScanTest, IsScanTest, chain_at, pattern_at}
use Rattle.scan_model.specs.NetValue.{values_of, nothing_forced}
use Rattle.lane_rows.specs.declared.block.Block.{Block}
use Rattle.value_rows.specs.Lanes.{lane, pattern_of}
use Rattle.value_rows.specs.Planes.{Planes}
use Rattle.lane_rows.specs.Sources.{lane_values, row_source, row_value}
use Rattle.lane_rows.specs.GoodRows.{AreBlockRows, AreLanesOf, no_block}
use Rattle.value_rows.specs.Kinds.{same_kind}
use Rattle.lane_rows.proofs.GoodValues.{capture_is_good, same_sources}
use Rattle.scan_model.specs.ScanTest.{no_pattern}
use Rattle.scan_model.proofs.Cells.{cell_is_flop_of, cell_is_leaf}
use Rattle.scan_model.proofs.Loads.{row_drives}
use Rattle.scan_model.specs.Netlist.{is_gate}
use Rattle.std.specs.Prelude.{slice_index}

-- the lanes of a block, from those below its number of patterns
lanes_are : (t : ScanTest) (b count : ℕ) (kind : PatternKind) (row : List ℕ) → ((j : ℕ) → j < 512 → nat_lt j count ≡ nat_lt (pattern_of b j) (length t.patterns))
    → ((j : ℕ) → j < 512 → lane row j ≡ (nat_lt j count && same_kind kind (pattern_at t (pattern_of b j)).kind)) → AreLanesOf t b kind row
lanes_are t b count kind row all is j lt = is j lt ∙ ap (λ (x : Bool). x && same_kind kind (pattern_at t (pattern_of b j)).kind) (all j lt)

pub block_is : (t : ScanTest) (b count : ℕ) (sources values : List Planes) (capture shift : List ℕ) → IsScanTest t → length values ≡ length t.netlist.nets
    → ((j n : ℕ) → j < count → is_gate t.netlist n ≡ false → lane_values sources j n ≡ row_source t (pattern_of b j) n)
    → ((j n : ℕ) → j < 512 → n < length t.netlist.nets → lane_values values j n ≡ values_of t.netlist (lane_values sources j) nothing_forced n)
    → ((j n : ℕ) → j < 512 → n < length t.netlist.nets → is_gate t.netlist n ≡ false → lane_values values j n ≡ lane_values sources j n)
    → ((j : ℕ) → j < 512 → nat_lt j count ≡ nat_lt (pattern_of b j) (length t.patterns))
    → ((j : ℕ) → j < 512 → lane capture j ≡ (nat_lt j count && same_kind Capture (pattern_at t (pattern_of b j)).kind))
    → ((j : ℕ) → j < 512 → lane shift j ≡ (nat_lt j count && same_kind Shift (pattern_at t (pattern_of b j)).kind))
    → AreBlockRows t b (record { values = values; capture = capture; shift = shift })
block_is t b count sources values capture shift sound len sourced evaluated stays all captures shifts =
    let counted : (j : ℕ) → j < 512 → pattern_of b j < length t.patterns → j < count = λ j lj inside. ltb-true j count (all j lj ∙ lt-ltb (pattern_of b j) (length t.patterns) inside) in
    let value : (j n : ℕ) → j < 512 → n < length t.netlist.nets → pattern_of b j < length t.patterns → lane_values values j n ≡ row_value t (pattern_of b j) n = λ j n lj ln inside.
    evaluated j n lj ln ∙ same_sources t (pattern_of b j) (lane_values sources j) (λ m leaf. sourced j m (counted j lj inside) leaf) n in
    record {
      len = len;
      value = value;
      good = λ j n lj ln inside is. value j n lj ln inside ∙ capture_is_good t (pattern_of b j) sound inside is n;
      load = λ j h i lj inside lh li.
          let cell = cell_is_flop_of t sound h i lh li in
          let n = slice_index (chain_at t h).cells i in
          let leaf = cell_is_leaf t.netlist n cell.1 in
          stays j n lj cell.0 leaf ∙ sourced j n (counted j lj inside) leaf ∙ row_drives t (pattern_at t (pattern_of b j)).inputs (pattern_at t (pattern_of b j)).loads h i sound (sound.patterns.each (pattern_of b j) no_pattern inside).loads lh li;
      capture = lanes_are t b count Capture capture all captures;
      shift = lanes_are t b count Shift shift all shifts;
    }

pub each_more : (t : ScanTest) (k : ℕ) (old new : List Block) (x : Block) → new ≡ old ++ x ∷ [] → length old ≡ k
    → ((b : ℕ) → b < k → AreBlockRows t b (get_or old b no_block)) → AreBlockRows t k x → (b : ℕ) → b < k + 1 → AreBlockRows t b (get_or new b no_block)
each_more t k old new x pushed len each is b lt = rw pushed (elim (cases_eq b k) [
  | inl same ↦
      let last : get_or (old ++ x ∷ []) k no_block ≡ x = ap (λ n. get_or (old ++ x ∷ []) n no_block) (omega (arith, len)) ∙ get_or-append-add old (x ∷ []) 0 no_block in
      rw (same, last) is
  | inr other ↦ rw (get_or_append_left old (x ∷ []) no_block b (omega (arith, len, other))) (each b (omega (arith, other)))
])
