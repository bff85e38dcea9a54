-- A set of the net numbers of pairs, the smaller number first.
use Rattle.std.specs.Prelude.{◌≡◌, ℕ, min, max, List}
use Rattle.std.specs.Ordering.{nat_cmp, ordering_then}
use Rattle.std.specs.declared.cmp.Ordering.{Ordering}
use Rattle.std.specs.BTreeSet.{BTreeSet, contains}
use Rattle.scan_model.specs.declared.parts.Pair.{Pair}
use Rattle.bridge_pairs.specs.PairText.{is_named}

-- the order of two numbers in a row
abbrev pub pair_cmp : ℕ × ℕ → ℕ × ℕ → Ordering
pair_cmp x y = ordering_then (nat_cmp x.0 y.0) (nat_cmp x.1 y.1)

abbrev pub key_of : Pair → ℕ × ℕ
key_of p = (min p.a p.b, max p.a p.b)

-- the set has the two nets of a pair exactly where a pair of the list has them
abbrev pub HasPairs : List Pair → BTreeSet (ℕ × ℕ) → Type 0
HasPairs pairs keys = (p : Pair) → contains pair_cmp keys (key_of p) ≡ is_named pairs p
