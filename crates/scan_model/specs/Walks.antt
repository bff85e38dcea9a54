-- Backward walks through gates, levels, and orders in which gates can be evaluated.
use Rattle.std.specs.Prelude.{◌≡◌, ℕ, zero, suc, ◌<◌, ◌≤◌, Bool, false, not, List, [], ◌∷◌, length, take, count_by, IsTrue, Contains, slice_index}
use Rattle.std.specs.List.{list_any}
use Rattle.scan_model.specs.declared.circuit.Driver.{Driver}
use Rattle.scan_model.specs.declared.circuit.Driver.TheVariants.{Input, Flop, Gate}
use Rattle.scan_model.specs.Netlist.{Netlist, reads, is_gate, driver_of, net_numbers}

-- a list of gates in which each reads the next through one of its operands
abbrev pub IsWalk : Netlist → List ℕ → Type 0
IsWalk c [] = Unit {0}
IsWalk c (g ∷ []) = IsTrue (is_gate c g)
IsWalk c (g ∷ h ∷ gs) = IsTrue (is_gate c g) × Contains (reads c g) h × IsWalk c (h ∷ gs)

-- no backward walk that begins at the gate has more gates than the circuit has nets
abbrev pub HasLevel : Netlist → ℕ → Type 0
HasLevel c g = (gs : List ℕ) → IsWalk c (g ∷ gs) → length (g ∷ gs) ≤ length c.nets

-- the test holds of a net that the gate reads; inputs and flops read nothing here
abbrev pub any_read : Netlist → Driver → (ℕ → Bool) → ℕ → Bool
any_read c Input test n = false
any_read c Flop test n = false
any_read c (Gate kind) test n = list_any test (reads c n)

-- a backward walk begins at the gate and goes on for so many more gates
abbrev pub walks_on : Netlist → ℕ → ℕ → Bool
walks_on c zero g = is_gate c g
walks_on c (suc n) g = any_read c (driver_of c g) (walks_on c n) g

-- Whether the net has a level: no backward walk from it has more gates than the circuit has nets.
abbrev pub has_level : Netlist → ℕ → Bool
has_level c g = not (walks_on c (length c.nets) g)

-- the least net whose backward walk does not end
pub record IsLeastWithoutLevel (c : Netlist) (n : ℕ) : Type 0 where
  pub in_range : n < length c.nets
  pub gate : IsTrue (is_gate c n)
  pub no_level : ¬ (HasLevel c n)
  pub least : (g : ℕ) → g < n → IsTrue (is_gate c g) → HasLevel c g

-- each gate has a level
abbrev pub HasLevels : Netlist → Type 0
HasLevels c = (g : ℕ) → g < length c.nets → IsTrue (is_gate c g) → HasLevel c g

-- each gate once, after the gates that it reads
pub record IsEvaluationOrder (c : Netlist) (order : List ℕ) : Type 0 where
  pub gates : (k : ℕ) → k < length order → (slice_index order k < length c.nets) × IsTrue (is_gate c (slice_index order k))
  pub all : (g : ℕ) → g < length c.nets → IsTrue (is_gate c g) → Contains order g
  pub count : length order ≡ count_by (is_gate c) (net_numbers c)
  pub after_read : (k h : ℕ) → k < length order → Contains (reads c (slice_index order k)) h → IsTrue (is_gate c h) → Contains (take k order) h

-- A value for each net, from the values of the nets that it reads: node n below is that of net n, where
-- below gives the values of the nets that n reads. Past the depth there is nothing.
abbrev pub along : {A : Type 0} → A → (ℕ → (ℕ → A) → A) → ℕ → ℕ → A
along nothing node zero n = nothing
along nothing node (suc depth) n = node n (λ m. along nothing node depth m)
