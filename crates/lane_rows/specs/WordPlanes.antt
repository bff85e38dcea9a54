-- A value of each of 64 lanes, as a word of ones and a word of zeros.
use Rattle.std.specs.Prelude.{◌≡◌, ℕ, ◌<◌, List, map, false, ◌==◌, ◌&&◌}
use Rattle.std.specs.Int.{bit_at}
use Rattle.scan_model.specs.declared.values.Tri.{Tri}
use Rattle.value_rows.specs.Planes.{value_of_bits}

pub record WordPlanes : Type 0 where
  pub ones : ℕ
  pub zeros : ℕ

abbrev pub word_planes : ℕ → ℕ → WordPlanes
word_planes ones zeros = record { ones = ones; zeros = zeros }

-- no lane is both 1 and 0
abbrev pub AreWordsApart : ℕ → ℕ → Type 0
AreWordsApart ones zeros = (j : ℕ) → j < 64 → ((bit_at ones j == 1) && (bit_at zeros j == 1)) ≡ false

-- the value of lane j
abbrev pub held_in : WordPlanes → ℕ → Tri
held_in p j = value_of_bits (bit_at p.ones j == 1) (bit_at p.zeros j == 1)

-- what stands past the end of a list
abbrev pub no_word : WordPlanes
no_word = word_planes 0 0

-- the values of lane j
abbrev pub column : ℕ → List WordPlanes → List Tri
column j words = map (λ word. held_in word j) words
