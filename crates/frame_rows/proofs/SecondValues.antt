-- Values of the second frame, with a slow fault or without one: each net's hangs on those that it
-- reads. Without a fault they are those of the circuit.
use Rattle.std.proofs.Common.{◌≡◌, ℕ, ◌<◌, true, List, [], ◌∷◌, length, map, Option, None, refl, sym, ap, ◌∙◌, arith}
use Rattle.std.specs.Prelude.{Contains}
use Rattle.scan_model.specs.declared.values.Tri.{Tri}
use Rattle.scan_model.specs.declared.values.Tri.TheVariants.{Unknown}
use Rattle.scan_model.specs.declared.circuit.Driver.{Driver}
use Rattle.scan_model.specs.declared.circuit.Driver.TheVariants.{Input, Flop, Gate}
use Rattle.scan_model.specs.declared.fault.Stuck.{Stuck}
use Rattle.scan_model.specs.declared.fault.Fault.{Fault}
use Rattle.scan_model.specs.Values.{gate_value}
use Rattle.scan_model.specs.Netlist.{IsNetlist, reads, is_gate_driver, driver_of, pin_at, operands}
use Rattle.scan_model.specs.Walks.{IsEvaluationOrder}
use Rattle.scan_model.specs.ScanTest.{ScanTest, IsScanTest}
use Rattle.scan_model.specs.NetValue.{driven, values_of, nothing_forced, good_value}
use Rattle.scan_model.proofs.Along.{IsLocal, settled}
use Rattle.scan_model.proofs.Orders.{Contains-cons}
use Rattle.scan_model.proofs.counting.Valuations.{valuation_is}
use Rattle.frame_rows.specs.Frames.{changes, second_source, slow_pin, slow_stem, second_driven, second_node, second_value, net_changes}

-- ---- locality

pins_agree : (h : ℕ → Tri → Tri) (net : ℕ → ℕ) (f g : ℕ → Tri) (ps : List ℕ) → ((m : ℕ) → Contains (map net ps) m → f m ≡ g m) → map (λ p. h p (f (net p))) ps ≡ map (λ p. h p (g (net p))) ps
pins_agree h net f g [] agree = refl
pins_agree h net f g (p ∷ ps) agree =
    let first : f (net p) ≡ g (net p) = agree (net p) (0, omega arith, refl) in
    let rest = pins_agree h net f g ps (λ m in'. agree m (Contains-cons (net p) (map net ps) m in')) in
    rw (first, rest) refl

module _ (t : ScanTest) (w : ℕ) where
  pub driven_local : (F : Option Fault) (n : ℕ) (f g : ℕ → Tri) (d : Driver) → ((m : ℕ) → is_gate_driver d ≡ true → Contains (reads t.netlist n) m → f m ≡ g m) → second_driven t F w d f n ≡ second_driven t F w d g n
  driven_local F n f g Input agree = refl
  driven_local F n f g Flop agree = refl
  driven_local F n f g (Gate kind) agree = ap (gate_value kind) (pins_agree (λ p now. slow_pin F p (good_value t w (pin_at t.netlist p).net) now) (λ p. (pin_at t.netlist p).net) f g (operands t.netlist n) (λ m in'. agree m refl in'))

  node_local : (F : Option Fault) → IsLocal t.netlist (second_node t F w)
  node_local F n f g agree = ap (slow_stem F n (good_value t w n)) (driven_local F n f g (driver_of t.netlist n) agree)

-- ---- values

module _ (t : ScanTest) (sound : IsScanTest t) (order : List ℕ) (ordered : IsEvaluationOrder t.netlist order) (w : ℕ) where
  net_sound : IsNetlist t.netlist
  net_sound = sound.circuit.netlist

  abbrev good2 : ℕ → Tri
  good2 = values_of t.netlist (second_source t w) nothing_forced

  pub meets : (F : Option Fault) (n : ℕ) → n < length t.netlist.nets → second_value t F w n ≡ second_node t F w n (second_value t F w)
  unfolding second_value
  meets F n lt = settled t.netlist order Unknown (second_node t F w) ordered (node_local t w F) n lt

  -- without a slow pin, what drives a net is as ever
  none_driven : (n : ℕ) (f : ℕ → Tri) (d : Driver) → driver_of t.netlist n ≡ d → second_driven t None w d f n ≡ driven t.netlist (second_source t w) nothing_forced d f n
  none_driven n f Input is = refl
  none_driven n f Flop is = refl
  none_driven n f (Gate kind) is = refl

  pub none_is : (n : ℕ) → n < length t.netlist.nets → second_value t None w n ≡ good2 n
  none_is n lt = valuation_is t.netlist order net_sound ordered (second_source t w) nothing_forced (second_value t None w)
      (λ k in'. meets None k in' ∙ none_driven k (second_value t None w) (driver_of t.netlist k) refl) n lt

  -- what the values of both frames tell is whether the net changes
  pub changes_is : (v : Stuck) (n : ℕ) → n < length t.netlist.nets → changes v (good_value t w n) (good2 n) ≡ net_changes t v w n
  changes_is v n lt = ap (changes v (good_value t w n)) (sym (none_is n lt))
