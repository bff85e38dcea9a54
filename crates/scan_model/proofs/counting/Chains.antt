-- One position of a faulty chain at a time: what a fault behind the next lower position loads and unloads anew.
use Rattle.std.proofs.Common.{◌≡◌, ◌≢◌, ℕ, ◌+◌, ◌-◌, ◌<◌, ◌≤◌, Bool, false, cond, ltb, leb, List, length, refl, sym, ap, ◌∙◌, inl, inr, arith}
use Rattle.std.proofs.lemmas.Bool.{cases_lt, lt-ltb, le-ltb, le-leb, lt-leb}
use Rattle.std.proofs.lemmas.List.FromFn.{get_or-map-range_with_len}
use Rattle.scan_model.specs.declared.values.Tri.{Tri}
use Rattle.scan_model.specs.declared.values.Tri.TheVariants.{Unknown}
use Rattle.scan_model.specs.declared.fault.CellKind.{CellKind}
use Rattle.scan_model.specs.declared.fault.CellKind.TheVariants.{Stuck0, Stuck1, SlowRise, SlowFall}
use Rattle.scan_model.specs.ChainShift.{value_at, passed, loaded_at, load_with, unload_passes, unloaded_at, unload_with}

ltb_moves : (c i : ℕ) → i ≢ c + 1 → ltb c i ≡ ltb (c + 1) i
ltb_moves c i other = elim (cases_lt c i) [
  | inl above ↦ lt-ltb c i above ∙ sym (lt-ltb (c + 1) i (omega arith))
  | inr below ↦ le-ltb c i below ∙ sym (le-ltb (c + 1) i (omega arith))
]

ltb_moves_left : (c i : ℕ) → i ≢ c → ltb i c ≡ ltb i (c + 1)
ltb_moves_left c i other = elim (cases_lt i c) [
  | inl below ↦ lt-ltb i c below ∙ sym (lt-ltb i (c + 1) (omega arith))
  | inr above ↦ le-ltb i c above ∙ sym (le-ltb i (c + 1) (omega arith))
]

leb_moves : (c i : ℕ) → i ≢ c + 1 → leb i c ≡ leb i (c + 1)
leb_moves c i other = elim (cases_lt c i) [
  | inl above ↦ lt-leb i c above ∙ sym (lt-leb i (c + 1) (omega arith))
  | inr below ↦ le-leb i c below ∙ sym (le-leb i (c + 1) (omega arith))
]

-- the loads of two neighbouring faults differ at position c + 1 alone
pub load_stays : (K : CellKind) (c i : ℕ) (row : List Tri) → i ≢ c + 1 → loaded_at K c row i ≡ loaded_at K (c + 1) row i
load_stays K c i row other = ap (λ (b : Bool). cond b (passed K row i) (value_at row i)) (ltb_moves c i other)

pub load_moves : (K : CellKind) (c : ℕ) (row : List Tri) → loaded_at K c row (c + 1) ≡ passed K row (c + 1)
load_moves K c row = rw (lt-ltb c (c + 1) (omega arith)) refl

pub load_before : (K : CellKind) (c : ℕ) (row : List Tri) → loaded_at K (c + 1) row (c + 1) ≡ value_at row (c + 1)
load_before K c row = rw (le-ltb (c + 1) (c + 1) (omega arith)) refl

-- above the fault, and up to it
pub load_above : (K : CellKind) (c i : ℕ) (row : List Tri) → c < i → loaded_at K c row i ≡ passed K row i
load_above K c i row above = rw (lt-ltb c i above) refl

pub load_below : (K : CellKind) (c i : ℕ) (row : List Tri) → i ≤ c → loaded_at K c row i ≡ value_at row i
load_below K c i row below = rw (le-ltb c i below) refl

-- behind the last position nothing changes
pub last_position : (K : CellKind) (i : ℕ) (row : List Tri) → i < length row → loaded_at K (length row - 1) row i ≡ value_at row i
last_position K i row lt = load_below K (length row - 1) i row (omega arith)

-- the position whose way out becomes another: a stuck path spoils its own position too
abbrev pub turned : CellKind → ℕ → ℕ
turned Stuck0 c = c + 1
turned Stuck1 c = c + 1
turned SlowRise c = c
turned SlowFall c = c

-- the way out changes at one position; elsewhere a position's value depends on two captured ones
pub passes_stays : (K : CellKind) (c i : ℕ) → i ≢ turned K c → unload_passes K c i ≡ unload_passes K (c + 1) i
passes_stays Stuck0 c i other = leb_moves c i other
passes_stays Stuck1 c i other = leb_moves c i other
passes_stays SlowRise c i other = ltb_moves_left c i other
passes_stays SlowFall c i other = ltb_moves_left c i other

passed_agree : (K : CellKind) (row other : List Tri) (i : ℕ) → value_at row i ≡ value_at other i → value_at row (i + 1) ≡ value_at other (i + 1) → passed K row i ≡ passed K other i
passed_agree Stuck0 row other i here next = refl
passed_agree Stuck1 row other i here next = refl
passed_agree SlowRise row other i here next = rw (here, next) refl
passed_agree SlowFall row other i here next = rw (here, next) refl

pub unload_stays : (K : CellKind) (c i : ℕ) (row other : List Tri) → i ≢ turned K c → value_at row i ≡ value_at other i → value_at row (i + 1) ≡ value_at other (i + 1)
    → unloaded_at K c row i ≡ unloaded_at K (c + 1) other i
unload_stays K c i row other apart here next = rw (passes_stays K c i apart, passed_agree K row other i here next, here) refl

pub turned_noted : (K : CellKind) (c i : ℕ) → i ≢ c → i ≢ c + 1 → i ≢ turned K c
turned_noted Stuck0 c i not_here not_next = not_next
turned_noted Stuck1 c i not_here not_next = not_next
turned_noted SlowRise c i not_here not_next = not_here
turned_noted SlowFall c i not_here not_next = not_here

-- the rows by position
pub load_at : (K : CellKind) (c i : ℕ) (row : List Tri) → i < length row → value_at (load_with K c row) i ≡ loaded_at K c row i
load_at K c i row lt = get_or-map-range_with_len (loaded_at K c row) 0 (length row) i i Unknown lt (omega arith)

pub unload_at : (K : CellKind) (c i : ℕ) (row : List Tri) → i < length row → value_at (unload_with K c row) i ≡ unloaded_at K c row i
unload_at K c i row lt = get_or-map-range_with_len (unloaded_at K c row) 0 (length row) i i Unknown lt (omega arith)

-- above the fault nothing passes it on the way out
pub unload_above : (K : CellKind) (c i : ℕ) (row : List Tri) → c < i → unloaded_at K c row i ≡ value_at row i
unload_above K c i row above = ap (λ (b : Bool). cond b (passed K row i) (value_at row i)) (stays K)
  where
    stays : (K : CellKind) → unload_passes K c i ≡ false
    stays Stuck0 = lt-leb i c above
    stays Stuck1 = lt-leb i c above
    stays SlowRise = le-ltb i c (omega arith)
    stays SlowFall = le-ltb i c (omega arith)
