-- The names of the nets that the generator makes, and the numbers that are read back from them.
use Rattle.std.proofs.Common.{◌≡◌, ℕ, ◌+◌, ◌*◌, ◌<◌, ◌≤◌, true, false, cond, eqb, List, [], ◌∷◌, length, Option, refl, ap, ap₂, ◌∙◌, length-append, arith}
use Rattle.std.specs.Prelude.{decimal, unwrap_or, All}
use Rattle.std.specs.List.{list_all, slice_split, AllByRecursion}
use Rattle.std.proofs.lemmas.Bool.{and_parts}
use Rattle.std.proofs.lemmas.Bool.Decides.{nat_tests}
use Rattle.std.proofs.lemmas.Fmt.{length-decimal-le}
use Rattle.std.proofs.lemmas.List.Elements.{All-from_recursion}
use Rattle.std.proofs.lemmas.List.Splits.{slice_split_none, slice_split_at}
use Rattle.scan_model.specs.Words.{is_name_byte, is_digit, number_of, is_filled}
use Rattle.diag_report.proofs.NumberWords.{number_back, decimal_is_name, decimal_digits}
use Rattle.made_laws.specs.MadeNetlist.{net_name, input_name, cell_name, gate_name}
use Rattle.made_laws.proofs.Plans.{IsNetName, first_byte}
use Rattle.made_laws.proofs.NetForms.{bytes_append}

-- ---- digits

no_underscore : (b : ℕ) → is_digit b ≡ true → eqb b 95 ≡ false
no_underscore b e = grind (arith, nat_tests, e)

none_in_digits : (ds : List ℕ) → list_all is_digit ds ≡ true → AllByRecursion (λ b. eqb b 95 ≡ false) ds
none_in_digits [] e = tt
none_in_digits (b ∷ bs) e = let parts = and_parts (is_digit b) (list_all is_digit bs) e in (no_underscore b parts.0, none_in_digits bs parts.1)

lacks_underscore : (n : ℕ) → n < 1000 → All (λ b. eqb b 95 ≡ false) (decimal n)
lacks_underscore n small = All-from_recursion (λ b. eqb b 95 ≡ false) (decimal n) (none_in_digits (decimal n) (decimal_digits n (omega arith)))

pub name_bytes : (n : ℕ) → n < 1000 → list_all is_name_byte (decimal n) ≡ true
name_bytes n small = (and_parts (is_filled (decimal n)) (list_all is_name_byte (decimal n)) (decimal_is_name n (omega arith))).1

pub few_digits : (n : ℕ) → n < 1000 → length (decimal n) ≤ 3
few_digits n small = length-decimal-le 3 n (omega arith) (omega arith) (omega arith)

-- ---- what is read back

-- a number word's number, and 0 of any other word
abbrev pub read_number : List ℕ → ℕ
read_number w = unwrap_or (number_of w) 0

pub number_read : (n : ℕ) → n < 1000 → read_number (decimal n) ≡ n
number_read n small = ap (λ (o : Option ℕ). unwrap_or o 0) (number_back n (omega arith))

-- two numbers with `_` between
abbrev two_numbers : List (List ℕ) → ℕ × ℕ
two_numbers (b ∷ j ∷ []) = (read_number b, read_number j)
two_numbers ws = (0, 0)

-- the block and the place in it, of a name
abbrev pub numbers_in : List ℕ → ℕ × ℕ
numbers_in [] = (0, 0)
numbers_in (kind ∷ rest) = two_numbers (slice_split (λ b. eqb b 95) rest)

module _ (kind b j : ℕ) (few_blocks : b < 1000) (few : j < 1000) where
  pub numbers_back : numbers_in (net_name (kind ∷ []) b j) ≡ (b, j)
  numbers_back =
      ap two_numbers (slice_split_at (λ c. eqb c 95) (decimal b) 95 (decimal j) (lacks_underscore b few_blocks) refl
      ∙ ap (λ (ws : List (List ℕ)). decimal b ∷ ws) (slice_split_none (λ c. eqb c 95) (decimal j) (lacks_underscore j few)))
      ∙ ap₂ (λ (x y : ℕ). (x, y)) (number_read b few_blocks) (number_read j few)

  pub is_name : is_name_byte kind ≡ true → IsNetName (net_name (kind ∷ []) b j)
  is_name first = record {
    some = omega arith;
    bytes = rw first (bytes_append is_name_byte (decimal b) (95 ∷ decimal j) (name_bytes b few_blocks) (name_bytes j few));
    short = omega (arith, length-append (decimal b) (95 ∷ decimal j), few_digits b few_blocks, few_digits j few);
  }

-- ---- the number of a net

-- by the first byte of its name (`i` 105, `q` 113, `g`), in the order in which the nets are defined
abbrev net_number_of : ℕ → ℕ → ℕ × ℕ → ℕ
net_number_of blocks kind n =
    cond (eqb kind 105) (10 * n.0 + n.1) (cond (eqb kind 113) (10 * blocks + (105 * n.0 + n.1)) (10 * blocks + (105 * n.0 + (5 + n.1))))

abbrev pub net_key : ℕ → List ℕ → ℕ
net_key blocks w = net_number_of blocks (first_byte w) (numbers_in w)

module _ (blocks b j : ℕ) (few_blocks : b < 1000) (few : j < 1000) where
  pub input_key : net_key blocks (input_name b j) ≡ 10 * b + j
  input_key = ap (net_number_of blocks 105) (numbers_back 105 b j few_blocks few)

  pub cell_key : net_key blocks (cell_name b j) ≡ 10 * blocks + (105 * b + j)
  cell_key = ap (net_number_of blocks 113) (numbers_back 113 b j few_blocks few)

  pub gate_key : net_key blocks (gate_name b j) ≡ 10 * blocks + (105 * b + (5 + j))
  gate_key = ap (net_number_of blocks 103) (numbers_back 103 b j few_blocks few)
