-- Netlists that are written line by line, each net after those that its gate reads.
use Rattle.std.specs.Prelude.{◌≡◌, ℕ, ◌+◌, ◌<◌, ◌≤◌, true, false, List, [], ◌∷◌, ◌++◌, length, codes, Some}
use Rattle.std.specs.List.{list_all, AllByRecursion}
use Rattle.scan_model.specs.Words.{is_name_byte, has_word}
use Rattle.scan_model.specs.declared.circuit.GateKind.{GateKind}
use Rattle.scan_model.specs.declared.circuit.Driver.TheVariants.{Gate}
use Rattle.scan_model.specs.NetlistRules.{nets_of, uses_of}
use Rattle.scan_model.specs.NetlistLines.{Form, input, output, definition, driver_named, takes_one}

-- a line of such a netlist: an input, an output, a cell with the net that it takes, or a gate of a word with two operands
pub data Plan : Type 0 where
  an_input : List ℕ → Plan
  an_output : List ℕ → Plan
  a_cell : List ℕ → List ℕ → Plan
  a_gate : List ℕ → List ℕ → List ℕ → List ℕ → Plan

-- the text of the line, without its LF
abbrev pub line_of : Plan → List ℕ
line_of (an_input n) = codes "INPUT(" ++ (n ++ codes ")")
line_of (an_output n) = codes "OUTPUT(" ++ (n ++ codes ")")
line_of (a_cell n o) = n ++ (codes " = DFF(" ++ (o ++ codes ")"))
line_of (a_gate n w u v) = n ++ (codes " = " ++ (w ++ (codes "(" ++ (u ++ (codes ", " ++ (v ++ codes ")"))))))

-- what it is as a line of a netlist
abbrev pub planned : Plan → Form
planned (an_input n) = input n
planned (an_output n) = output n
planned (a_cell n o) = definition n (codes "DFF") (o ∷ [])
planned (a_gate n w u v) = definition n w (u ∷ v ∷ [])

-- a name with a byte or more, of name bytes, at most 64
pub record IsNetName (w : List ℕ) : Type 0 where
  pub some : 0 < length w
  pub bytes : list_all is_name_byte w ≡ true
  pub short : length w ≤ 64

-- the first byte of a name
abbrev pub first_byte : List ℕ → ℕ
first_byte [] = 0
first_byte (b ∷ bs) = b

-- a word with which a gate takes one operand or more
pub record IsGateWord (w : List ℕ) : Type 0 where
  pub name : IsNetName w
  pub kind : GateKind
  pub named : driver_named w ≡ Some (Gate kind)
  pub takes_more : takes_one (Some (Gate kind)) ≡ false

-- its names are names
abbrev pub IsPlan : Plan → Type 0
IsPlan (an_input n) = IsNetName n
IsPlan (an_output n) = IsNetName n
IsPlan (a_cell n o) = IsNetName n × IsNetName o
IsPlan (a_gate n w u v) = IsNetName n × IsNetName u × IsNetName v × IsGateWord w

-- the net that it defines has this number; the first byte of its name tells inputs (`i`), cells (`q`) and gates (`g`)
-- apart, and a gate reads nets of lower numbers
abbrev pub IsNumbered : (List ℕ → ℕ) → ℕ → Plan → Type 0
IsNumbered key m (an_input n) = (key n ≡ m) × (first_byte n ≡ 105)
IsNumbered key m (an_output n) = Unit {0}
IsNumbered key m (a_cell n o) = (key n ≡ m) × (first_byte n ≡ 113)
IsNumbered key m (a_gate n w u v) = (key n ≡ m) × (first_byte n ≡ 103) × (key u < m) × (key v < m)

-- the nets of lines are numbered from one number up to another
abbrev pub AreNumbered : (List ℕ → ℕ) → ℕ → List Plan → ℕ → Type 0
AreNumbered key m [] end = m ≡ end
AreNumbered key m (p ∷ ps) end = IsPlan p × IsNumbered key m p × AreNumbered key (m + length (nets_of (planned p))) ps end

-- the nets that it defines and uses are among these
abbrev pub IsKnown : List (List ℕ) → Plan → Type 0
IsKnown names p = AllByRecursion (λ n. has_word names n ≡ true) (nets_of (planned p)) × AllByRecursion (λ n. has_word names n ≡ true) (uses_of (planned p))

-- names that are numbered one after another
abbrev pub AreKeyed : (List ℕ → ℕ) → ℕ → List (List ℕ) → Type 0
AreKeyed key m [] = Unit {0}
AreKeyed key m (n ∷ ns) = (key n ≡ m) × AreKeyed key (m + 1) ns
