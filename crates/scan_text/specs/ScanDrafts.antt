-- The draft of a scan text: its chains so far.
use Rattle.std.specs.Prelude.{ℕ, ◌≡◌, Bool, not, nat_le, List, [], ◌∷◌, length, map, Some}
use Rattle.std.specs.List.{list_any}
use Rattle.scan_model.specs.declared.circuit.Net.{Net}
use Rattle.scan_model.specs.declared.rules.TheConstants.{UNKNOWN_CELL, NOT_A_FLOP, CHAIN_TAKEN, TOO_MANY_CHAINS}
use Rattle.scan_model.specs.ScanText.{ChainNames, chain_limit, is_net, is_flop_net, is_taken, numbered, cells_in, titles_in}
use Rattle.scan_text.specs.declared.chains.ScanDraft.{ScanDraft}

-- rules 12 to 15 at a chain, after chains with these cells and these names
abbrev pub chain_rules : List Net → List (List ℕ) → List (List ℕ) → ChainNames → List (ℕ × Bool)
chain_rules nets cells titles c =
    (UNKNOWN_CELL, list_any (λ w. not (is_net nets w)) c.cells) ∷
    (NOT_A_FLOP, list_any (λ w. not (is_flop_net nets w)) c.cells) ∷
    (CHAIN_TAKEN, is_taken cells titles (Some c)) ∷
    (TOO_MANY_CHAINS, nat_le chain_limit (length titles)) ∷ []

-- the draft after these chains
pub record IsAfter (nets : List Net) (draft : ScanDraft) (cs : List ChainNames) : Type 0 where
  pub chains : draft.chains.items ≡ map (numbered nets) cs
  pub cells : draft.cells ≡ cells_in cs
  pub titles : draft.titles ≡ titles_in cs
