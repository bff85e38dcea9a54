-- What the search for an order of the gates keeps true.
use Rattle.std.specs.Prelude.{◌≡◌, ℕ, ◌+◌, ◌-◌, ◌<◌, ◌≤◌, List, [], ◌∷◌, length, reverse, take, count_by, IsTrue, Contains, slice_index, slice_index_or}
use Rattle.std.specs.List.{sum_by}
use Rattle.scan_model.specs.declared.circuit.Driver.{Driver}
use Rattle.scan_model.specs.declared.circuit.Driver.TheVariants.{Input, Flop, Gate}
use Rattle.scan_model.specs.declared.circuit.Net.{Net}
use Rattle.scan_model.specs.declared.circuit.Pin.{Pin}
use Rattle.scan_model.specs.declared.evaluation.Mark.{Mark}
use Rattle.scan_model.specs.declared.evaluation.Mark.TheVariants.{Fresh, Open, Settled}
use Rattle.scan_model.specs.Netlist.{Netlist, netlist, net_at, pin_at, reads, is_gate, net_numbers}

-- levels and orders depend on the nets and the pins alone
abbrev pub wiring : List Net → List Pin → Netlist
wiring nets pins = netlist nets pins [] []

-- each net's operands are pins, and each pin is that of a net
pub record IsWired (c : Netlist) : Type 0 where
  pub nets_fit : length c.nets ≤ 65536
  pub operand_range : (n : ℕ) → n < length c.nets → (net_at c n).first_pin + (net_at c n).pin_count ≤ length c.pins
  pub pin_nets : (p : ℕ) → p < length c.pins → (pin_at c p).net < length c.nets

-- the net that a net reads at one of its operands
abbrev pub operand : Netlist → ℕ → ℕ → ℕ
operand c g i = (pin_at c ((net_at c g).first_pin + i)).net

-- for each net, how many of its operands are still to be looked at, and how far it has come; the path; the order
pub record State : Type 0 where
  pub left : List ℕ
  pub marks : List Mark
  pub path : List ℕ
  pub order : List ℕ

abbrev pub state : List ℕ → List Mark → List ℕ → List ℕ → State
state left marks path order = record { left = left; marks = marks; path = path; order = order }

abbrev pub first_mark : Driver → Mark
first_mark Input = Settled
first_mark Flop = Settled
first_mark (Gate kind) = Fresh

abbrev pub mark_at : List Mark → ℕ → Mark
mark_at marks g = slice_index_or marks g Settled

-- how often a mark still changes
abbrev pub changes_left : Mark → ℕ
changes_left Fresh = 2
changes_left Open = 1
changes_left Settled = 0

-- 1 for a gate that is not in the order
abbrev pub unsettled : Mark → ℕ
unsettled Fresh = 1
unsettled Open = 1
unsettled Settled = 0

-- how many steps the search has left at most
abbrev pub steps_left : State → ℕ
steps_left s = sum_by (λ n. n) s.left + sum_by changes_left s.marks

-- each gate stands after the gates that it reads
pub record IsPartOrder (c : Netlist) (order : List ℕ) : Type 0 where
  pub gates : (k : ℕ) → k < length order → (slice_index order k < length c.nets) × IsTrue (is_gate c (slice_index order k))
  pub after_read : (k h : ℕ) → k < length order → Contains (reads c (slice_index order k)) h → IsTrue (is_gate c h) → Contains (take k order) h

-- the gate stands at the end of the path
pub record IsTop (path : List ℕ) (g : ℕ) : Type 0 where
  pub some : 0 < length path
  pub last : slice_index path (length path - 1) ≡ g

-- the walk came to the gate from the gate before it, or begins there
abbrev pub IsReached : Netlist → ℕ → List ℕ → List ℕ → ℕ → Type 0
IsReached c root left [] g = root ≡ g
IsReached c root left (f ∷ fs) g = (0 < slice_index left f) × (operand c f (slice_index left f - 1) ≡ g)

-- different open gates, the last first, of which each reads the one before it in the list
abbrev pub IsLine : Netlist → ℕ → List ℕ → List Mark → List ℕ → Type 0
IsLine c root left marks [] = Unit {0}
IsLine c root left marks (g ∷ gs) = (g < length c.nets) × (mark_at marks g ≡ Open) × (Contains gs g → ⊥) × IsReached c root left gs g × IsLine c root left marks gs

-- the gates below the root are in the order, and the path leads from the root
pub record IsSearch (c : Netlist) (root : ℕ) (s : State) : Type 0 where
  pub left_size : length s.left ≡ length c.nets
  pub marks_size : length s.marks ≡ length c.nets
  pub left_fits : (g : ℕ) → g < length c.nets → slice_index s.left g ≤ (net_at c g).pin_count
  pub passed : (g i : ℕ) → g < length c.nets → slice_index s.left g ≤ i → i < (net_at c g).pin_count → mark_at s.marks (operand c g i) ≡ Settled
  pub gates : (g : ℕ) → g < length c.nets → (mark_at s.marks g ≡ Settled → ⊥) → IsTrue (is_gate c g)
  pub settled : (g : ℕ) → g < length c.nets → IsTrue (is_gate c g) → mark_at s.marks g ≡ Settled → Contains s.order g
  pub ordered : IsPartOrder c s.order
  pub counted : length s.order + sum_by unsettled s.marks ≡ count_by (is_gate c) (net_numbers c)
  pub smaller : (g : ℕ) → g < root → mark_at s.marks g ≡ Settled
  pub line : IsLine c root s.left s.marks (reverse s.path)
  pub open_on_path : (g : ℕ) → mark_at s.marks g ≡ Open → Contains (reverse s.path) g

-- no gate is on the path
pub record IsAtRest (c : Netlist) (root : ℕ) (s : State) : Type 0 where
  pub search : IsSearch c root s
  pub empty : s.path ≡ []

-- a step of the search was done
pub record Advances (c : Netlist) (root : ℕ) (old new : State) : Type 0 where
  pub search : IsSearch c root new
  pub fresh : (g : ℕ) → mark_at new.marks g ≡ Fresh → mark_at old.marks g ≡ Fresh
  pub fewer : steps_left new < steps_left old
