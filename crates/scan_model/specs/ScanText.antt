-- The chains of a scan text.
use Rattle.std.specs.Prelude.{ℕ, Bool, true, false, not, ◌&&◌, ◌||◌, nat_le, if◌then◌else◌, is_some, is_none, List, [], ◌∷◌, ◌++◌, length, map, take, filter_map, flat_map, slice_index_or, Option, Some, None, codes, Result}
use Rattle.std.specs.List.{list_any, list_all}
use Rattle.std.specs.Str.{bytes_eq}
use Rattle.scan_model.specs.Lines.{text_lines, line_at, has_refused_byte}
use Rattle.scan_model.specs.Words.{words, word_lines, has_words, has_word, is_short_name}
use Rattle.scan_model.specs.TextFaults.{breaks, lowest, first_fault, refused_or}
use Rattle.scan_model.specs.declared.rules.TheConstants.{OTHER_CHAIN_FORM, UNKNOWN_CELL, NOT_A_FLOP, CHAIN_TAKEN, TOO_MANY_CHAINS}
use Rattle.scan_model.specs.declared.circuit.Driver.{Driver}
use Rattle.scan_model.specs.declared.circuit.Driver.TheVariants.{Input, Flop, Gate}
use Rattle.scan_model.specs.declared.circuit.Net.{Net}
use Rattle.scan_model.specs.declared.parts.Chain.{Chain}
use Rattle.scan_model.specs.Netlist.{no_net}
use Rattle.scan_model.specs.NetlistText.{net_number}

abbrev pub chain_limit : ℕ
chain_limit = 256

-- a chain by names, the position 0 first
pub record ChainNames : Type 0 where
  pub name : List ℕ
  pub cells : List (List ℕ)

-- the names of all nets
abbrev pub net_names : List Net → List (List ℕ)
net_names nets = map (λ n. n.name) nets

-- the number of the net with a name
abbrev pub number_of_net : List Net → List ℕ → ℕ
number_of_net nets w = net_number (net_names nets) w

abbrev pub is_net : List Net → List ℕ → Bool
is_net nets w = has_word (net_names nets) w

abbrev pub is_flop_driver : Driver → Bool
is_flop_driver Input = false
is_flop_driver Flop = true
is_flop_driver (Gate kind) = false

-- the net with the name is a flop
abbrev pub is_flop_net : List Net → List ℕ → Bool
is_flop_net nets w = is_flop_driver (slice_index_or nets (number_of_net nets w) no_net).driver

-- the chain of a line `CHAIN name cell cell ..`, with one cell or more
abbrev pub chain_of : List (List ℕ) → Option ChainNames
chain_of (keyword ∷ name ∷ cell ∷ cells) =
    if bytes_eq keyword (codes "CHAIN") && list_all is_short_name (name ∷ cell ∷ cells)
    then Some (record { name = name; cells = cell ∷ cells })
    else None
chain_of ws = None

abbrev pub words_at : List (List (List ℕ)) → ℕ → List (List ℕ)
words_at ws i = slice_index_or ws i []

-- the chains of lines
abbrev pub chains : List (List (List ℕ)) → List ChainNames
chains ws = filter_map chain_of ws

-- the cells of a line, and none of a line of another form
abbrev pub cells_named : Option ChainNames → List (List ℕ)
cells_named None = []
cells_named (Some c) = c.cells

abbrev pub cells_in : List ChainNames → List (List ℕ)
cells_in cs = flat_map (λ c. c.cells) cs

-- a cell stands among those before it
abbrev pub stands_again : List (List ℕ) → List (List ℕ) → Bool
stands_again seen [] = false
stands_again seen (w ∷ ws) = has_word seen w || stands_again (seen ++ w ∷ []) ws

-- rule 11: the line has words and is no chain's line, or has a byte that no text may have
abbrev pub has_other_form : List ℕ → List (List ℕ) → Bool
has_other_form line ws = has_refused_byte line || (has_words ws && is_none (chain_of ws))

-- rule 14: a cell stands in an earlier chain or earlier in the line, or an earlier chain has the name
abbrev pub is_taken : List (List ℕ) → List (List ℕ) → Option ChainNames → Bool
is_taken cells titles None = false
is_taken cells titles (Some c) = stands_again cells c.cells || has_word titles c.name

-- the rules at a line, after chains with these cells and these names
abbrev pub scan_rules : List Net → List (List ℕ) → List (List ℕ) → List ℕ → List (ℕ × Bool)
scan_rules nets cells titles line =
    (OTHER_CHAIN_FORM, has_other_form line (words line)) ∷
    (UNKNOWN_CELL, list_any (λ w. not (is_net nets w)) (cells_named (chain_of (words line)))) ∷
    (NOT_A_FLOP, list_any (λ w. not (is_flop_net nets w)) (cells_named (chain_of (words line)))) ∷
    (CHAIN_TAKEN, is_taken cells titles (chain_of (words line))) ∷
    (TOO_MANY_CHAINS, is_some (chain_of (words line)) && nat_le chain_limit (length titles)) ∷ []

-- the chains of the lines before the line i
abbrev pub chains_before : List (List ℕ) → ℕ → List ChainNames
chains_before ls i = chains (word_lines (take i ls))

abbrev pub titles_in : List ChainNames → List (List ℕ)
titles_in cs = map (λ c. c.name) cs

-- the rules at the line i
abbrev pub scan_table : List Net → List (List ℕ) → ℕ → List (ℕ × Bool)
scan_table nets ls i = scan_rules nets (cells_in (chains_before ls i)) (titles_in (chains_before ls i)) (line_at ls i)

-- the line i breaks the rule
abbrev pub scan_breaks : List Net → List (List ℕ) → ℕ → ℕ → Bool
scan_breaks nets ls i rule = breaks (scan_table nets ls i) rule

-- the lowest rule that the line i breaks
abbrev pub scan_rule : List Net → List (List ℕ) → ℕ → Option ℕ
scan_rule nets ls i = lowest (scan_table nets ls i)

abbrev pub scan_fault : List Net → List ℕ → Option (ℕ × ℕ)
scan_fault nets bytes = first_fault (scan_rule nets (text_lines bytes)) (length (text_lines bytes))

-- a chain with its cells by number
abbrev pub numbered : List Net → ChainNames → Chain
numbered nets c = record { name = c.name; cells = map (number_of_net nets) c.cells }

abbrev pub chains_of : List Net → List (List ℕ) → List Chain
chains_of nets ls = map (numbered nets) (chains (word_lines ls))

-- what reading a scan text gives: its first fault, or the chains in the order of lines
abbrev pub scan_reading : List Net → List ℕ → Result (List Chain) (ℕ × ℕ)
scan_reading nets bytes = refused_or (scan_fault nets bytes) (chains_of nets (text_lines bytes))
