-- The patterns that the generator makes: 512, of which each 64th shifts alone.
use Rattle.std.specs.Prelude.{ℕ, zero, suc, ◌+◌, ◌*◌, ◌%◌, ◌==◌, Bool, if◌then◌else◌, List, ◌++◌, map, flat_map, codes}
use Rattle.std.specs.List.{range_with_len}
use Rattle.made_laws.specs.Draws.{draw}
use Rattle.made_laws.specs.MadeScan.{chain_count, chain_blocks}

abbrev pub is_shift : ℕ → Bool
is_shift p = p % 64 == 0

-- a digit 0 (48) or 1 for each of so many draws from number i on
abbrev pub drawn_digits : ℕ → ℕ → ℕ → List ℕ
drawn_digits seed i count = map (λ j. 48 + draw seed j 2) (range_with_len i count)

-- the load of chain h, after a space, where draw i is the first of the loads; each chain before it has 125 cells
abbrev pub load_word : ℕ → ℕ → ℕ → ℕ → List ℕ
load_word seed blocks i h = codes " " ++ drawn_digits seed (i + 125 * h) (5 * chain_blocks blocks h)

abbrev pub load_words : ℕ → ℕ → ℕ → List ℕ
load_words seed blocks i = flat_map (load_word seed blocks i) (range_with_len 0 (chain_count blocks))

abbrev pub shift_line : ℕ → ℕ → ℕ → List ℕ
shift_line seed blocks i = codes "SHIFT" ++ (load_words seed blocks i ++ codes "\n")

-- the inputs are drawn before the loads
abbrev pub capture_line : ℕ → ℕ → ℕ → List ℕ
capture_line seed blocks i =
    codes "CAPTURE " ++ (drawn_digits seed i (10 * blocks) ++ (load_words seed blocks (i + 10 * blocks) ++ codes "\n"))

-- how many draws pattern p takes
abbrev pub pattern_draws : ℕ → ℕ → ℕ
pattern_draws blocks p = if is_shift p then 5 * blocks else 15 * blocks

-- the first draw of pattern p, after those of the gates and of the patterns before it
abbrev pub first_draw : ℕ → ℕ → ℕ
first_draw blocks zero = 300 * blocks
first_draw blocks (suc p) = first_draw blocks p + pattern_draws blocks p

abbrev pub pattern_line : ℕ → ℕ → ℕ → List ℕ
pattern_line seed blocks p =
    if is_shift p then shift_line seed blocks (first_draw blocks p) else capture_line seed blocks (first_draw blocks p)

abbrev pub made_patterns : ℕ → ℕ → List ℕ
made_patterns seed blocks = flat_map (pattern_line seed blocks) (range_with_len 0 512)
