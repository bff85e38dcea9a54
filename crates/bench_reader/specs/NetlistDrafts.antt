-- The draft of a netlist: what its lines so far say.
use Rattle.std.specs.Prelude.{ℕ, ◌≡◌, ◌≤◌, Bool, true, false, not, if◌then◌else◌, List, [], ◌∷◌, ◌++◌, length, map, filter, flat_map, Option, Some, None}
use Rattle.std.specs.List.{list_any, enumerate_from}
use Rattle.scan_model.specs.declared.circuit.Driver.{Driver}
use Rattle.scan_model.specs.declared.circuit.Driver.TheVariants.{Input}
use Rattle.scan_model.specs.Words.{has_word}
use Rattle.scan_model.specs.NetlistLines.{Form, nothing}
use Rattle.scan_model.specs.NetlistRules.{nets_of, uses_of, new_output, defined_names, outputs_of, pins_after, net_limit, pin_limit}
use Rattle.scan_model.specs.NetlistText.{line_nets, nets_after, inputs_of}
use Rattle.bench_reader.specs.NetUses.{use_views, operand_use, line_uses, uses_after, inputs_after}
use Rattle.bench_reader.specs.declared.first_round.NetlistDraft.{NetlistDraft}

-- nothing stands outside the line's comment
abbrev pub is_nothing : Form → Bool
is_nothing nothing = true
is_nothing f = false

-- the lines of these forms, numbered from n on, that are not empty
abbrev pub filled_from : ℕ → List Form → List (ℕ × Form)
filled_from n fs = filter (λ e. not (is_nothing e.1)) (enumerate_from n fs)

-- the number of the line that defines each net
abbrev pub net_lines_from : ℕ → List Form → List ℕ
net_lines_from n fs = flat_map (λ e. map (λ w. e.0) (nets_of e.1)) (enumerate_from n fs)

-- both drafts say as much, wherever their lists lie in memory
pub record Keeps (old new : NetlistDraft) : Type 0 where
  pub nets : new.nets.items ≡ old.nets.items
  pub inputs : new.inputs ≡ old.inputs
  pub uses : new.uses.items ≡ old.uses.items
  pub defined : new.defined ≡ old.defined
  pub net_lines : new.net_lines.items ≡ old.net_lines.items
  pub outputs : new.outputs ≡ old.outputs

-- the draft with these names of nets more, one or none, of the line of this number
pub record AddsNames (old new : NetlistDraft) (number : ℕ) (ns : List (List ℕ)) : Type 0 where
  pub nets : new.nets ≡ old.nets
  pub inputs : new.inputs ≡ old.inputs
  pub uses : new.uses ≡ old.uses
  pub defined : new.defined ≡ old.defined ++ ns
  pub net_lines : new.net_lines.items ≡ old.net_lines.items ++ map (λ w. number) ns
  pub outputs : new.outputs ≡ old.outputs

-- the draft with a line of this number and this form more, but for the name of the net that the line defines
pub record TakesRest (old new : NetlistDraft) (number : ℕ) (f : Form) : Type 0 where
  pub nets : new.nets.items ≡ old.nets.items ++ line_nets (length old.uses.items) f
  pub inputs : new.inputs.items ≡ old.inputs.items ++ map (λ w. length old.nets.items) (inputs_of f)
  pub uses : use_views new.uses.items ≡ use_views old.uses.items ++ line_uses number (length old.nets.items) old.outputs f
  pub defined : new.defined ≡ old.defined
  pub net_lines : new.net_lines ≡ old.net_lines
  pub outputs : new.outputs ≡ old.outputs ++ new_output old.outputs f

-- the draft with one net more, an input
pub record TakesInput (old new : NetlistDraft) (n : List ℕ) : Type 0 where
  pub nets : new.nets.items ≡ old.nets.items ++ record { name = n; driver = Input; first_pin = length old.uses.items; pin_count = 0 } ∷ []
  pub inputs : new.inputs.items ≡ old.inputs.items ++ length old.nets.items ∷ []
  pub uses : new.uses ≡ old.uses
  pub defined : new.defined ≡ old.defined
  pub net_lines : new.net_lines ≡ old.net_lines
  pub outputs : new.outputs ≡ old.outputs

-- the draft with one net more, which a line of this number defines by this driver and these operands
pub record TakesDefinition (old new : NetlistDraft) (number : ℕ) (n : List ℕ) (driver : Driver) (operands : List (List ℕ)) : Type 0 where
  pub nets : new.nets.items ≡ old.nets.items ++ record { name = n; driver = driver; first_pin = length old.uses.items; pin_count = length operands } ∷ []
  pub inputs : new.inputs ≡ old.inputs
  pub uses : use_views new.uses.items ≡ use_views old.uses.items ++ map (operand_use number (length old.nets.items)) (enumerate_from 0 operands)
  pub defined : new.defined ≡ old.defined
  pub net_lines : new.net_lines ≡ old.net_lines
  pub outputs : new.outputs ≡ old.outputs

-- the draft with a line of this number and this form more
pub record Takes (old new : NetlistDraft) (number : ℕ) (f : Form) : Type 0 where
  pub nets : new.nets.items ≡ old.nets.items ++ line_nets (length old.uses.items) f
  pub inputs : new.inputs.items ≡ old.inputs.items ++ map (λ w. length old.nets.items) (inputs_of f)
  pub uses : use_views new.uses.items ≡ use_views old.uses.items ++ line_uses number (length old.nets.items) old.outputs f
  pub defined : new.defined ≡ old.defined ++ nets_of f
  pub net_lines : new.net_lines.items ≡ old.net_lines.items ++ map (λ w. number) (nets_of f)
  pub outputs : new.outputs ≡ old.outputs ++ new_output old.outputs f

-- no limit is passed
pub record IsWithin (draft : NetlistDraft) : Type 0 where
  pub nets : length draft.defined ≤ net_limit
  pub pins : length draft.uses.items ≤ pin_limit
  pub each : length draft.nets.items ≡ length draft.defined
  pub outputs : length draft.outputs ≤ length draft.uses.items

-- the draft after lines of these forms
pub record IsAfter (draft : NetlistDraft) (fs : List Form) : Type 0 where
  pub nets : draft.nets.items ≡ nets_after [] 0 fs
  pub inputs : draft.inputs.items ≡ inputs_after 0 fs
  pub uses : use_views draft.uses.items ≡ uses_after 1 0 [] fs
  pub defined : draft.defined ≡ defined_names fs
  pub net_lines : draft.net_lines.items ≡ net_lines_from 1 fs
  pub outputs : draft.outputs ≡ outputs_of fs
  pub pins : length draft.uses.items ≡ length (pins_after [] fs)

-- one of the names is none of these
abbrev pub lacks : List (List ℕ) → List (List ℕ) → Bool
lacks defined ns = list_any (λ n. not (has_word defined n)) ns

-- a line uses a net that is none of these
abbrev pub uses_undefined : List (List ℕ) → Form → Bool
uses_undefined defined f = lacks defined (uses_of f)

-- the number of the first line for which a test holds
abbrev pub first_line : (Form → Bool) → List (ℕ × Form) → Option ℕ
first_line test [] = None
first_line test (e ∷ es) = if test e.1 then Some e.0 else first_line test es
