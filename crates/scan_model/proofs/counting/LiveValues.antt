-- Values that meet the equations of the nets that matter, where these are closed under reads.
use Rattle.std.proofs.Common.{List, length, get_or, ◌≡◌, ℕ, zero, suc, ◌<◌, ◌≤◌, Bool, true, false, sym, ap, ◌∙◌, inl, inr, arith}
use Rattle.std.specs.Prelude.{Contains}
use Rattle.std.proofs.lemmas.Bool.{cases_Bool, both_ways}
use Rattle.std.proofs.lemmas.List.{get_or_default}
use Rattle.scan_model.specs.declared.values.Tri.{Tri}
use Rattle.scan_model.specs.Netlist.{Netlist, IsNetlist, reads, is_gate}
use Rattle.scan_model.specs.Walks.{IsEvaluationOrder}
use Rattle.scan_model.specs.NetValue.{Forced, net_node, values_of}
use Rattle.scan_model.proofs.Along.{in_front}
use Rattle.scan_model.proofs.NetValues.{values_of-is, net_node_local}
use Rattle.scan_model.proofs.FanSweeps.{reads_in_range}
use Rattle.scan_model.proofs.counting.Settling.{IsOpen}

-- what a gate that matters reads matters
abbrev pub IsClosed : Netlist → (ℕ → Bool) → Type 0
IsClosed c matters = (n m : ℕ) → n < length c.nets → matters n ≡ true → is_gate c n ≡ true → Contains (reads c n) m → matters m ≡ true

module _ (c : Netlist) (order : List ℕ) (sound : IsNetlist c) (ordered : IsEvaluationOrder c order) (s : ℕ → Tri) (F : Forced) (matters : ℕ → Bool) (closed : IsClosed c matters) (f : ℕ → Tri) where
  abbrev V : ℕ → Tri
  V = values_of c s F

  module _ (meets : (n : ℕ) → n < length c.nets → matters n ≡ true → f n ≡ net_node c s F n f) where
    step : (n : ℕ) → n < length c.nets → matters n ≡ true → ((m : ℕ) → is_gate c n ≡ true → Contains (reads c n) m → f m ≡ V m) → f n ≡ V n
    step n lt matter agree = meets n lt matter ∙ net_node_local c s F n f V agree ∙ sym (values_of-is c order s F ordered n lt)

    leaf : (n : ℕ) → n < length c.nets → is_gate c n ≡ false → matters n ≡ true → f n ≡ V n
    leaf n lt no_gate matter = step n lt matter (λ m gate read. absurd (both_ways (is_gate c n) no_gate gate))

    before : (k i : ℕ) → k ≤ length order → i < k → matters (get_or order i 0) ≡ true → f (get_or order i 0) ≡ V (get_or order i 0)
    before zero i le lt matter = absurd (omega arith)
    before (suc k) i le lt matter =
        let n = get_or order i 0 in
        let here = ordered.gates i (omega arith) in
        step n here.0 matter (λ m gate read. elim (cases_Bool (is_gate c m)) [
          | inl inner ↦
              let at = in_front order i m (omega arith) (ordered.after_read i m (omega arith) read inner) in
              ap f (sym at.2) ∙ before k at.0 (omega arith) (omega (arith, at.1)) (ap matters at.2 ∙ closed n m here.0 matter gate read) ∙ ap V at.2
          | inr no_gate ↦ leaf m (reads_in_range c n m sound here.0 read) no_gate (closed n m here.0 matter gate read)
        ])

    pub live_values : (n : ℕ) → n < length c.nets → matters n ≡ true → f n ≡ V n
    live_values n lt matter = elim (cases_Bool (is_gate c n)) [
      | inl gate ↦
          let at = ordered.all n lt gate in
          let e : get_or order at.0 0 ≡ n = get_or_default order at.0 0 n at.1 ∙ at.2 in
          ap f (sym e) ∙ before (length order) at.0 (omega arith) at.1 (ap matters e ∙ matter) ∙ ap V e
      | inr no_gate ↦ leaf n lt no_gate matter
    ]

  -- a worklist that is empty
  pub settled_values : (waits : ℕ → Bool) → IsOpen c s F matters waits f → ((n : ℕ) → waits n ≡ false) → (n : ℕ) → n < length c.nets → matters n ≡ true → f n ≡ V n
  settled_values waits open' none = live_values (λ n lt matter. elim (open' n lt matter) [
    | inl waiting ↦ absurd (both_ways (waits n) (none n) waiting)
    | inr meets ↦ meets
  ])
