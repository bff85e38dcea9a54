-- The tokens and the lines of a netlist.
use Rattle.std.specs.Prelude.{ℕ, Bool, true, false, ◌==◌, if◌then◌else◌, List, [], ◌∷◌, Option, Some, None, option_map, codes}
use Rattle.std.specs.Str.{str_eq_ignore_ascii_case}
use Rattle.scan_model.specs.Lines.{is_blank, without_comment}
use Rattle.scan_model.specs.Words.{is_name_byte}
use Rattle.scan_model.specs.declared.circuit.GateKind.TheVariants.{And, Nand, Or, Nor, Xor, Xnor, Not, Buf}
use Rattle.scan_model.specs.declared.circuit.Driver.{Driver}
use Rattle.scan_model.specs.declared.circuit.Driver.TheVariants.{Flop, Gate}

pub data Token : Type 0 where
  name : List ℕ → Token
  open_sign : Token
  close_sign : Token
  comma : Token
  equals : Token
  stray : Token

-- what a byte is that is neither a blank nor a name byte
abbrev pub sign_of : ℕ → Token
sign_of b =
    if b == 40 then open_sign
    else if b == 41 then close_sign
    else if b == 44 then comma
    else if b == 61 then equals
    else stray

abbrev pub begins_with_name : List ℕ → Bool
begins_with_name [] = false
begins_with_name (b ∷ bs) = is_name_byte b

-- the tokens, with a byte put before the first name
abbrev pub onto_name : ℕ → List Token → List Token
onto_name b (name w ∷ ts) = name (b ∷ w) ∷ ts
onto_name b ts = name (b ∷ []) ∷ ts

-- The tokens of bytes. Blanks between tokens are free. A name is as long as it can be: a name byte before a name byte
-- belongs to the same name.
abbrev pub tokens : List ℕ → List Token
tokens [] = []
tokens (b ∷ bs) =
    if is_blank b then tokens bs
    else if is_name_byte b then (if begins_with_name bs then onto_name b (tokens bs) else name (b ∷ []) ∷ tokens bs)
    else sign_of b ∷ tokens bs

-- The forms of a line: nothing outside its comment, `INPUT ( name )`, `OUTPUT ( name )`, `name = word ( name , .. )`, or
-- none of these.
pub data Form : Type 0 where
  nothing : Form
  input : List ℕ → Form
  output : List ℕ → Form
  definition : List ℕ → List ℕ → List (List ℕ) → Form
  no_form : Form

-- the names of `name , name , .. )`, one or more
abbrev pub listed_names : List Token → Option (List (List ℕ))
listed_names (name w ∷ close_sign ∷ []) = Some (w ∷ [])
listed_names (name w ∷ comma ∷ ts) = option_map (λ ws. w ∷ ws) (listed_names ts)
listed_names ts = None

-- the operands of a definition: the names of `name , name , .. )`, or none where `)` stands alone
abbrev pub operand_names : List Token → Option (List (List ℕ))
operand_names (close_sign ∷ []) = Some []
operand_names ts = listed_names ts

abbrev pub definition_form : List ℕ → List ℕ → Option (List (List ℕ)) → Form
definition_form n word None = no_form
definition_form n word (Some operands) = definition n word operands

-- what follows `name =`
abbrev pub definition_of : List ℕ → List Token → Form
definition_of n (name word ∷ open_sign ∷ ts) = definition_form n word (operand_names ts)
definition_of n ts = no_form

-- what follows `word (`
abbrev pub port_of : List ℕ → List Token → Form
port_of word (name n ∷ close_sign ∷ []) =
    if str_eq_ignore_ascii_case word (codes "INPUT") then input n
    else if str_eq_ignore_ascii_case word (codes "OUTPUT") then output n
    else no_form
port_of word ts = no_form

-- a line with `=` is of the third form, so a net may be called `INPUT`
abbrev pub form_of_tokens : List Token → Form
form_of_tokens [] = nothing
form_of_tokens (name n ∷ equals ∷ ts) = definition_of n ts
form_of_tokens (name word ∷ open_sign ∷ ts) = port_of word ts
form_of_tokens ts = no_form

-- the form of a line
abbrev pub form_of : List ℕ → Form
form_of line = form_of_tokens (tokens (without_comment line))

-- what a gate word makes of a net, in letters of either case
abbrev pub driver_named : List ℕ → Option Driver
driver_named word =
    if str_eq_ignore_ascii_case word (codes "AND") then Some (Gate And)
    else if str_eq_ignore_ascii_case word (codes "NAND") then Some (Gate Nand)
    else if str_eq_ignore_ascii_case word (codes "OR") then Some (Gate Or)
    else if str_eq_ignore_ascii_case word (codes "NOR") then Some (Gate Nor)
    else if str_eq_ignore_ascii_case word (codes "XOR") then Some (Gate Xor)
    else if str_eq_ignore_ascii_case word (codes "XNOR") then Some (Gate Xnor)
    else if str_eq_ignore_ascii_case word (codes "NOT") then Some (Gate Not)
    else if str_eq_ignore_ascii_case word (codes "BUF") then Some (Gate Buf)
    else if str_eq_ignore_ascii_case word (codes "BUFF") then Some (Gate Buf)
    else if str_eq_ignore_ascii_case word (codes "DFF") then Some Flop
    else None

-- NOT, BUF, BUFF and DFF have one operand
abbrev pub takes_one : Option Driver → Bool
takes_one (Some Flop) = true
takes_one (Some (Gate Not)) = true
takes_one (Some (Gate Buf)) = true
takes_one d = false
