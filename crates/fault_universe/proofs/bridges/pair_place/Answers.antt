use Rattle.std.proofs.Common.{rules, ◌≡◌, ℕ, ◌<◌, ◌≤◌, ◌^◌, List, length, get_or, true, false, Ok, Err, Result, subst, sym, arith}
use Rattle.std.specs.Prelude.{All}
use Rattle.std.specs.List.Sorted.{IsBinarySearchResult, IsSearchInRange}
use Rattle.std.specs.Ordering.{nat_cmp}
use Rattle.std.proofs.lemmas.List.Sorted.{answers_always}
use Rattle.scan_model.specs.declared.pair_index.PairPlace.{PairPlace}
use Rattle.scan_model.specs.ScanTest.{ScanTest, IsScanTest}
use Rattle.scan_model.specs.PairIndex.{nets_number, IsPairIndex}
use Rattle.fault_universe.specs.KeptPairs.{no_pair, is_pair}
use Rattle.fault_universe.proofs.PairSearch.{pair_found, pair_missed, no_entry}
use Rattle.fault_universe.proofs.bridges.pair_place.Goals as goal

abbrev key : PairPlace → ℕ
key p = p.nets

-- the nets of kept pairs are below 2^32
small_nets : (t : ScanTest) → IsScanTest t → All (λ p. p.b < 2 ^ 32) t.pairs.kept
small_nets t fits k d lt = omega (arith, (fits.pairs.kept_nets k d lt).1, fits.circuit.nets_fit)

few_pairs : (t : ScanTest) → IsScanTest t → length t.pairs.kept ≤ 65536
few_pairs t fits = omega (arith, fits.pairs.few)

found : (t : ScanTest) (index xs : List PairPlace) (a b n i : ℕ) (r : Result ℕ ℕ) → IsScanTest t → IsPairIndex t.pairs.kept index → xs ≡ index → b < 2 ^ 32 → n ≡ nets_number a b
    → IsSearchInRange r (length xs) → IsBinarySearchResult (λ y. nat_cmp y.nets n) xs r → r ≡ Ok i
    → ((get_or xs i no_entry).place < length t.pairs.kept) × (is_pair a b (get_or t.pairs.kept (get_or xs i no_entry).place no_pair) ≡ true)
found t index xs a b n i (Ok j) fits whole same few is lt at e =
    let here : j ≡ i = cc in
    let told : IsPairIndex t.pairs.kept xs = subst (λ ys. IsPairIndex t.pairs.kept ys) (sym same) whole in
    let at_number = subst (λ m. IsBinarySearchResult (λ y. nat_cmp y.nets m) xs (Ok j)) is at in
    subst (λ m. ((get_or xs m no_entry).place < length t.pairs.kept) × (is_pair a b (get_or t.pairs.kept (get_or xs m no_entry).place no_pair) ≡ true)) here
    (pair_found t.pairs.kept xs a b j told (small_nets t fits) few lt at_number)
found t index xs a b n i (Err j) fits whole same few is lt at e = cc

missed : (t : ScanTest) (index xs : List PairPlace) (a b n i : ℕ) (r : Result ℕ ℕ) → IsPairIndex t.pairs.kept index → xs ≡ index → n ≡ nets_number a b
    → IsSearchInRange r (length xs) → IsBinarySearchResult (λ y. nat_cmp y.nets n) xs r → r ≡ Err i → All (λ p. is_pair a b p ≡ false) t.pairs.kept
missed t index xs a b n i (Ok j) whole same is lt at e = cc
missed t index xs a b n i (Err j) whole same is le at e =
    let told : IsPairIndex t.pairs.kept xs = subst (λ ys. IsPairIndex t.pairs.kept ys) (sym same) whole in
    pair_missed t.pairs.kept xs a b j told le (subst (λ m. IsBinarySearchResult (λ y. nat_cmp y.nets m) xs (Err j)) is at)

pub returns-in_default-clause-pair : goal.returns-in_default-clause-pair
returns-in_default-clause-pair c =
    let at = c.binary_search_by_key.ensures.position key (answers_always _ _ _ (λ f a r q k. search rules)) in
    missed c.args.parts.now _ _ c.args.a c.args.b _ _ _ c.pair_index.ensures c.as_slice-index.ensures c.nets_number-nets.ensures c.binary_search_by_key.ensures.bound at c.in_default.is

pub returns-clause-pair : goal.returns-clause-pair
returns-clause-pair c =
    let at = c.binary_search_by_key.ensures.position key (answers_always _ _ _ (λ f a r q k. search rules)) in
    found c.args.parts.now _ _ c.args.a c.args.b _ _ _ c.pairs-fits.ensures.fits c.pair_index.ensures c.as_slice-index.ensures c.ranges.b.fits c.nets_number-nets.ensures c.binary_search_by_key.ensures.bound at c.in-Ok.is

pub returns-clause-small : goal.returns-clause-small
returns-clause-small c = omega (arith, (returns-clause-pair c).0, few_pairs c.args.parts.now c.pairs-fits.ensures.fits)
