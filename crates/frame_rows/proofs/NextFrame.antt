-- What drives the second frame, read off the rows of the first, gives its values.
use Rattle.std.proofs.Common.{◌≡◌, ℕ, ◌+◌, ◌<◌, ◌++◌, true, List, [], ◌∷◌, length, get_or, None, refl, sym, ap, subst, ◌∙◌, inl, inr, arith}
use Rattle.std.proofs.lemmas.Bool.{cases_eq}
use Rattle.std.proofs.lemmas.List.{get_or_append_left, get_or_push}
use Rattle.scan_model.specs.declared.values.Tri.{Tri}
use Rattle.scan_model.specs.declared.circuit.Driver.{Driver}
use Rattle.scan_model.specs.declared.circuit.Driver.TheVariants.{Input, Flop, Gate}
use Rattle.scan_model.specs.Netlist.{Netlist, IsNetlist, driver_of, pin_at}
use Rattle.scan_model.specs.Walks.{IsEvaluationOrder}
use Rattle.scan_model.specs.ScanTest.{ScanTest, IsScanTest, IsFlop}
use Rattle.scan_model.specs.NetValue.{driven, values_of, source_of, nothing_forced, good_value}
use Rattle.scan_model.specs.Response.{data_pin}
use Rattle.scan_model.proofs.NetValues.{values_of-is}
use Rattle.scan_model.proofs.Cells.{data_pin-in_range}
use Rattle.scan_model.proofs.counting.Valuations.{valuation_is}
use Rattle.lane_rows.specs.declared.block.Block.{Block}
use Rattle.lane_rows.specs.Lanes.{lane}
use Rattle.lane_rows.specs.Planes.{Planes}
use Rattle.lane_rows.specs.Sources.{lane_values}
use Rattle.lane_rows.specs.GoodRows.{AreBlockRows, AreGoodRows, pattern_of, no_block}
use Rattle.lane_rows.specs.Stimuli.{AreRowsOf, captures}
use Rattle.lane_rows.proofs.RowsOfTest.{captures_there, captures_kind}
use Rattle.frame_rows.specs.Frames.{second_of, second_source}
use Rattle.frame_rows.specs.SecondRows.{next_of, next_value, second_stimuli, IsNextBlock}

-- values under sources that agree on the nets
same_values : (c : Netlist) (order : List ℕ) → IsNetlist c → IsEvaluationOrder c order → (r s : ℕ → Tri) → ((n : ℕ) → n < length c.nets → r n ≡ s n) → (n : ℕ) → n < length c.nets → values_of c r nothing_forced n ≡ values_of c s nothing_forced n
same_values c order sound ordered r s same n lt = valuation_is c order sound ordered s nothing_forced V (λ k in'. values_of-is c order r nothing_forced ordered k in' ∙ node k in' (driver_of c k)) n lt
  where
    V : ℕ → Tri
    V = values_of c r nothing_forced

    node : (k : ℕ) → k < length c.nets → (d : Driver) → driven c r nothing_forced d (values_of c r nothing_forced) k ≡ driven c s nothing_forced d (values_of c r nothing_forced) k
    node k in' Input = same k in'
    node k in' Flop = same k in'
    node k in' (Gate kind) = refl

module _ (t : ScanTest) (sound : IsScanTest t) (order : List ℕ) (ordered : IsEvaluationOrder t.netlist order) (b : ℕ) (first : Block) (rows : AreBlockRows t b first) where
  net_sound : IsNetlist t.netlist
  net_sound = sound.circuit.netlist

  good : (j n : ℕ) → j < 512 → n < length t.netlist.nets → captures t (pattern_of b j) ≡ true → lane_values first.values j n ≡ good_value t (pattern_of b j) n
  good j n lane_lt lt is = rows.good j n lane_lt lt (captures_there t (pattern_of b j) is) (captures_kind t (pattern_of b j) is)

  next_is : (j n : ℕ) → j < 512 → n < length t.netlist.nets → captures t (pattern_of b j) ≡ true → next_value t.netlist (lane_values first.values j) n ≡ second_source t (pattern_of b j) n
  next_is j n lane_lt lt is = go (driver_of t.netlist n) refl
    where
      go : (d : Driver) → driver_of t.netlist n ≡ d → next_of t.netlist (lane_values first.values j) d n ≡ second_of t (pattern_of b j) d n
      go Input drives = good j n lane_lt lt is ∙ values_of-is t.netlist order (source_of t None (pattern_of b j)) nothing_forced ordered n lt
          ∙ ap (λ (d : Driver). driven t.netlist (source_of t None (pattern_of b j)) nothing_forced d (good_value t (pattern_of b j)) n) drives
      go Flop drives =
          let flop : IsFlop (driver_of t.netlist n) = subst IsFlop (sym drives) tt in
          good j (pin_at t.netlist (data_pin t.netlist n)).net lane_lt (net_sound.pin_nets (data_pin t.netlist n) (data_pin-in_range t.netlist n net_sound lt flop)) is
      go (Gate kind) drives = refl

  pub next_block_is : (sources values : List Planes) (capture shift : List ℕ) → capture ≡ first.capture → length values ≡ length t.netlist.nets
      → ((j n : ℕ) → j < 512 → n < length t.netlist.nets → lane_values sources j n ≡ next_value t.netlist (lane_values first.values j) n)
      → ((j n : ℕ) → j < 512 → n < length t.netlist.nets → lane_values values j n ≡ values_of t.netlist (lane_values sources j) nothing_forced n)
      → IsNextBlock t b (record { values = values; capture = capture; shift = shift })
  next_block_is sources values capture shift same len sourced evaluated = record {
    len = len;
    capture = λ j lt. ap (λ (r : List ℕ). lane r j) same ∙ rows.capture j lt;
    value = λ j n lane_lt lt is. evaluated j n lane_lt lt
        ∙ same_values t.netlist order net_sound ordered (lane_values sources j) (second_source t (pattern_of b j)) (λ m in'. sourced j m lane_lt in' ∙ next_is j m lane_lt in' is) n lt;
  }

-- one block more
pub next_more : (t : ScanTest) (k : ℕ) (old new : List Block) (x : Block) → new ≡ old ++ x ∷ [] → length old ≡ k
    → ((b : ℕ) → b < k → IsNextBlock t b (get_or old b no_block)) → IsNextBlock t k x → (b : ℕ) → b < k + 1 → IsNextBlock t b (get_or new b no_block)
next_more t k old new x pushed len each is b lt = rw pushed (elim (cases_eq b k) [
  | inl same ↦ rw (same, get_or_push old x no_block k len) is
  | inr other ↦ rw (get_or_append_left old (x ∷ []) no_block b (omega (arith, len, other))) (each b (omega (arith, other)))
])

-- all blocks
pub next_rows : (t : ScanTest) (first blocks : List Block) → AreGoodRows t first → length blocks ≡ length first → ((b : ℕ) → b < length first → IsNextBlock t b (get_or blocks b no_block)) → AreRowsOf t.netlist (second_stimuli t) blocks
next_rows t first blocks good len each =
    let at : (b : ℕ) → b < length blocks → IsNextBlock t b (get_or blocks b no_block) = λ b lt. each b (omega (arith, len)) in
    record {
      count = len ∙ good.count;
      rows = λ b lt. (at b lt).len;
      capture = λ b j lt lane_lt. (at b lt).capture j lane_lt;
      value = λ b j n lt lane_lt in_range is. (at b lt).value j n lane_lt in_range is;
    }

-- and each of them
pub block_of_rows : (t : ScanTest) (blocks : List Block) (b : ℕ) → AreRowsOf t.netlist (second_stimuli t) blocks → b < length blocks → IsNextBlock t b (get_or blocks b no_block)
block_of_rows t blocks b rows lt = record {
  len = rows.rows b lt;
  capture = λ j lane_lt. rows.capture b j lt lane_lt;
  value = λ j n lane_lt in_range is. rows.value b j n lt lane_lt in_range is;
}
