-- What one forced net, or one forced pin, shows over the values of a circuit under any source.
use Rattle.std.proofs.Common.{◌≡◌, ◌≢◌, ℕ, zero, suc, ◌+◌, ◌<◌, false, ◌&&◌, List, length, map, None, refl, sym, ap, ◌∙◌, inl, inr, arith}
use Rattle.std.specs.List.{range_with_len}
use Rattle.std.proofs.lemmas.Bool.{cases_Bool, ne_eqb, both_ways}
use Rattle.scan_model.specs.declared.values.Tri.{Tri}
use Rattle.scan_model.specs.declared.circuit.Driver.{Driver}
use Rattle.scan_model.specs.declared.circuit.Driver.TheVariants.{Input, Flop, Gate}
use Rattle.scan_model.specs.declared.circuit.GateKind.{GateKind}
use Rattle.scan_model.specs.declared.circuit.PinPlace.TheVariants as place
use Rattle.scan_model.specs.declared.fault.Stuck.{Stuck}
use Rattle.scan_model.specs.declared.fault.Fault.TheVariants as fault
use Rattle.scan_model.specs.Values.{are_opposite, tri_not, gate_value}
use Rattle.scan_model.specs.Netlist.{Netlist, IsNetlist, is_gate, is_gate_driver, driver_of, net_at, pin_at, operands}
use Rattle.scan_model.specs.Walks.{IsEvaluationOrder}
use Rattle.scan_model.specs.Faults.{stuck_value}
use Rattle.scan_model.specs.NetValue.{Forced, seen, driven, values_of, nothing_forced}
use Rattle.scan_model.specs.Force.{force}
use Rattle.scan_model.specs.Masks.{flip_shows_from, forced_output_from}
use Rattle.scan_model.proofs.NetValues.{values_of-is}
use Rattle.scan_model.proofs.counting.Valuations.{valuation_is}
use Rattle.scan_model.proofs.counting.Branches.{force_pin, branch_is_force}
use Rattle.scan_model.proofs.counting.OneSite.{opposite_is_not, unflipped}

-- a forced pin that no operand is leaves what the operands see
pub unforced : (c : Netlist) (F : Forced) (p : ℕ) (f : ℕ → Tri) (first count : ℕ) → ((q : ℕ) → q ≢ p → F.pin q ≡ None) → ((j : ℕ) → j < count → (first + j) ≢ p) → map (seen c F f) (range_with_len first count) ≡ map (seen c nothing_forced f) (range_with_len first count)
unforced c F p f first zero free apart = refl
unforced c F p f first (suc count) free apart =
    let here : F.pin first ≡ None = free first (λ same. apart 0 (omega arith) (omega (arith, same))) in
    let rest = unforced c F p f (first + 1) count free (λ j lt same. apart (suc j) (omega arith) (omega (arith, same))) in
    rw (here, rest) refl

module _ (c : Netlist) (order : List ℕ) (sound : IsNetlist c) (ordered : IsEvaluationOrder c order) (s : ℕ → Tri) where
  abbrev good : ℕ → Tri
  good = values_of c s nothing_forced

  -- a forced net is flipped, or nothing shows
  pub force_shows_from : (m : ℕ) (x : Tri) (o : ℕ) → o < length c.nets → are_opposite (good o) (values_of c s (force m x) o) ≡ (are_opposite (good m) x && flip_shows_from c s m o)
  force_shows_from m x o lt = elim (cases_Bool (are_opposite (good m) x)) [
    | inl flips ↦
        let is : x ≡ tri_not (good m) = opposite_is_not (good m) x flips in
        rw flips (ap (λ (y : Tri). are_opposite (good o) (values_of c s (force m y) o)) is)
    | inr miss ↦ rw miss (unflipped c order sound ordered s m x miss o lt)
  ]

  -- a pin that no gate reads changes no net
  pub unread_is_good : (p : ℕ) (x : Tri) → ((n i : ℕ) → (pin_at c p).place ≡ place.Operand n i → is_gate c n ≡ false) → (m : ℕ) → m < length c.nets → values_of c s (force_pin p x) m ≡ good m
  unread_is_good p x unread m lt = valuation_is c order sound ordered s nothing_forced (values_of c s (force_pin p x))
      (λ n in'. values_of-is c order s (force_pin p x) ordered n in' ∙ go n in' (driver_of c n) refl) m lt
    where
      go : (n : ℕ) → n < length c.nets → (d : Driver) → driver_of c n ≡ d → driven c s (force_pin p x) d (values_of c s (force_pin p x)) n ≡ driven c s nothing_forced d (values_of c s (force_pin p x)) n
      go n in' Input drives = refl
      go n in' Flop drives = refl
      go n in' (Gate kd) drives = ap (gate_value kd) (unforced c (force_pin p x) p (values_of c s (force_pin p x)) (net_at c n).first_pin (net_at c n).pin_count
          (λ q other. rw (ne_eqb q p other) refl)
          (λ j below same. both_ways (is_gate c n) (unread n j (ap (λ (q : ℕ). (pin_at c q).place) (sym same) ∙ sound.operand_places n j in' below)) (ap is_gate_driver drives)))

  -- a stuck operand flips its gate, or nothing shows
  pub gate_shows_from : (p n i : ℕ) (v : Stuck) (kind : GateKind) (o : ℕ) → n < length c.nets → (pin_at c p).place ≡ place.Operand n i → driver_of c n ≡ Gate kind → o < length c.nets
      → are_opposite (good o) (values_of c s (force_pin p (stuck_value v)) o) ≡ (are_opposite (good n) (forced_output_from c s (fault.Branch p v) n) && flip_shows_from c s n o)
  gate_shows_from p n i v kind o in' at drives lt =
      let output : forced_output_from c s (fault.Branch p v) n ≡ gate_value kind (map (seen c (force_pin p (stuck_value v)) good) (operands c n)) = ap (λ (d : Driver). driven c s (force_pin p (stuck_value v)) d good n) drives in
      ap (are_opposite (good o)) (branch_is_force c order sound ordered s p n i (stuck_value v) kind in' at drives o lt)
      ∙ ap (λ (y : Tri). are_opposite (good o) (values_of c s (force n y) o)) (sym output)
      ∙ force_shows_from n (forced_output_from c s (fault.Branch p v) n) o lt
