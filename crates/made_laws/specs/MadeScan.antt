-- The scan chains that the generator makes: a chain for each 25 blocks.
use Rattle.std.specs.Prelude.{ℕ, ◌+◌, ◌-◌, ◌*◌, ◌/◌, min, List, ◌++◌, flat_map, decimal, codes}
use Rattle.std.specs.List.{range_with_len}
use Rattle.made_laws.specs.MadeNetlist.{cell_name}

abbrev pub chain_count : ℕ → ℕ
chain_count blocks = (blocks + 24) / 25

-- how many blocks chain h has
abbrev pub chain_blocks : ℕ → ℕ → ℕ
chain_blocks blocks h = min 25 (blocks - 25 * h)

abbrev pub cell_word : ℕ → ℕ → List ℕ
cell_word b j = codes " " ++ cell_name b j

-- the cells of a block, each after a space
abbrev pub cell_words : ℕ → List ℕ
cell_words b = flat_map (cell_word b) (range_with_len 0 5)

-- the cells of the blocks of chain h, block by block
abbrev pub chain_line : ℕ → ℕ → List ℕ
chain_line blocks h =
    codes "CHAIN c" ++ (decimal h ++ (flat_map cell_words (range_with_len (25 * h) (chain_blocks blocks h)) ++ codes "\n"))

abbrev pub made_scan : ℕ → List ℕ
made_scan blocks = flat_map (chain_line blocks) (range_with_len 0 (chain_count blocks))
