-- Dividing bits into classes, 64 patterns at a time.
use Rattle.std.proofs.Common.{◌≡◌, ℕ, zero, suc, ◌+◌, ◌-◌, ◌*◌, ◌/◌, ◌%◌, ◌^◌, ◌<◌, ◌≤◌, min, Bool, true, false, cond, ◌&&◌, eqb, ltb, List, [], ◌∷◌, ◌++◌, length, map, take, get_or, refl, sym, ap, ◌∙◌, inl, inr, append-nil, append_assoc, add-zero, arith}
use Rattle.std.specs.Prelude.{filter, count_by, count_ones}
use Rattle.std.specs.Int.{bit_at}
use Rattle.std.specs.List.{range_with_len}
use Rattle.std.proofs.lemmas.Bool.{cases_lt, lt-ltb, le-ltb, or_parts}
use Rattle.std.proofs.lemmas.List.{length-append, map-append, take_more}
use Rattle.std.proofs.lemmas.List.Elements.{filter-append, All-push}
use Rattle.std.proofs.lemmas.List.Sums.{sum_by-cons}
use Rattle.std.proofs.lemmas.Nat.Bits.{bit_at-zero}
use Rattle.scan_model.specs.declared.logs.Bit.{Bit}
use Rattle.scan_model.specs.declared.logs.BitClass.{BitClass}
use Rattle.scan_model.specs.declared.logs.BitClass.TheVariants.{Conflict, Masked, Failing, Passing, Uncounted}
use Rattle.scan_model.specs.Coverage.{bit_of}
use Rattle.scan_model.specs.Classes.{is_conflict, is_masked, is_failing, is_passing}
use Rattle.bit_rows.specs.Lanes.{lane}
use Rattle.bit_rows.proofs.LaneCounts.{count_more, count_bound}
use Rattle.log_join.specs.Joining.{is_set_aside}
use Rattle.fault_universe.specs.BitRows.{row_bits}
use Rattle.fault_universe.proofs.BitSteps.{row_bits_more}
use Rattle.diag_report.specs.declared.tally.Tally.{Tally}
use Rattle.diag_report.specs.BitTally.{tally_over, block_bits, word_block, listed, listed_over, HaveSameAside, IsTallyOf}

-- ---- bits of more patterns

pub block_append : (n a m k : ℕ) → block_bits a (m + k) n ≡ block_bits a m n ++ block_bits (a + m) k n
block_append n a zero k =
    let count : 0 + k ≡ k = omega arith in
    let same : a ≡ a + 0 = omega arith in
    ap (λ (i : ℕ). block_bits a i n) count ∙ ap (λ (b : ℕ). block_bits b k n) same
block_append n a (suc m) k =
    let count : suc m + k ≡ suc (m + k) = omega arith in
    let next : a + 1 + m ≡ a + suc m = omega arith in
    ap (λ (i : ℕ). block_bits a i n) count ∙ ap (λ (bs : List Bit). row_bits a n ++ bs) (block_append n (a + 1) m k ∙ ap (λ (b : ℕ). block_bits (a + 1) m n ++ block_bits b k n) next)
    ∙ sym (append_assoc (row_bits a n) (block_bits (a + 1) m n) (block_bits (a + suc m) k n))

-- no point
block_none : (a m : ℕ) → block_bits a m 0 ≡ []
block_none a zero = refl
block_none a (suc m) = block_none (a + 1) m

-- one more pattern
pub block_more : (n a m : ℕ) → block_bits a (m + 1) n ≡ block_bits a m n ++ row_bits (a + m) n
block_more n a m = block_append n a m 1 ∙ ap (λ (bs : List Bit). block_bits a m n ++ bs) (append-nil (row_bits (a + m) n))

-- one more word
pub word_more : (n patterns word : ℕ) → 64 * word < patterns → block_bits 0 (min patterns (64 * word)) n ++ word_block patterns word n ≡ block_bits 0 (min patterns (64 * (word + 1))) n
word_more n patterns word lt =
    let here : min patterns (64 * word) ≡ 64 * word = omega arith in
    let there : min patterns (64 * (word + 1)) ≡ 64 * word + min 64 (patterns - 64 * word) = omega arith in
    let start : 64 * word ≡ 0 + 64 * word = omega arith in
    ap (λ (m : ℕ). block_bits 0 m n ++ word_block patterns word n) here
    ∙ ap (λ (b : ℕ). block_bits 0 (64 * word) n ++ block_bits b (min 64 (patterns - 64 * word)) n) start
    ∙ sym (block_append n 0 (64 * word) (min 64 (patterns - 64 * word))) ∙ ap (λ (m : ℕ). block_bits 0 m n) (sym there)

-- ---- counts

count_join : (p : Bit → Bool) (xs ys : List Bit) → length (filter p (xs ++ ys)) ≡ length (filter p xs) + length (filter p ys)
count_join p xs ys = ap length (filter-append p xs ys) ∙ length-append (filter p xs) (filter p ys)

count_one : (b : Bit) (passes : Bool) → length (cond passes (b ∷ []) []) ≡ cond passes 1 0
count_one b true = refl
count_one b false = refl

count_row : (p : Bit → Bool) (w k : ℕ) → length (filter p (row_bits w (k + 1))) ≡ length (filter p (row_bits w k)) + cond (p (bit_of w k)) 1 0
count_row p w k =
    ap (λ (bs : List Bit). length (filter p bs)) (row_bits_more [] w k) ∙ count_join p (row_bits w k) (bit_of w k ∷ [])
    ∙ ap (λ (n : ℕ). length (filter p (row_bits w k)) + n) (count_one (bit_of w k) (p (bit_of w k)))

count_cons : (p : ℕ → Bool) (x : ℕ) (xs : List ℕ) → count_by p (x ∷ xs) ≡ cond (p x) 1 0 + count_by p xs
count_cons p x xs = sum_by-cons (λ y. cond (p y) 1 0) x xs

-- one more point of some patterns
column_more : (p : Bit → Bool) (k a n : ℕ) → length (filter p (block_bits a n (k + 1))) ≡ length (filter p (block_bits a n k)) + count_by (λ w. p (bit_of w k)) (range_with_len a n)
column_more p k a zero = refl
column_more p k a (suc n) =
    omega (
      arith,
      column_more p k (a + 1) n,
      count_row p a k,
      count_join p (row_bits a (k + 1)) (block_bits (a + 1) n (k + 1)),
      count_join p (row_bits a k) (block_bits (a + 1) n k),
      count_cons (λ w. p (bit_of w k)) a (range_with_len (a + 1) n),
    )

-- a test that only patterns pass that are there
count_there : (f q : ℕ → Bool) (b a patterns m : ℕ) → ((i : ℕ) → i < m → f (b + i) ≡ (ltb (a + i) patterns && q (a + i))) → count_by f (range_with_len b m) ≡ count_by q (range_with_len a (min m (patterns - a)))
count_there f q b a patterns zero each = let none : min 0 (patterns - a) ≡ 0 = omega arith in rw none refl
count_there f q b a patterns (suc m) each =
    let first : f b ≡ (ltb a patterns && q a) = rw (add-zero, add-zero) at (each 0 (omega arith)) in
    let rest = count_there f q (b + 1) (a + 1) patterns m (λ i lt.
    let left : b + 1 + i ≡ b + suc i = omega arith in
    let right : a + 1 + i ≡ a + suc i = omega arith in
    rw (left, right) (each (suc i) (omega arith))) in
    let begin = count_cons f b (range_with_len (b + 1) m) in
    elim (cases_lt a patterns) [
      | inl lt ↦
          let more : min (suc m) (patterns - a) ≡ suc (min m (patterns - (a + 1))) = omega arith in
          let same : f b ≡ q a = first ∙ ap (λ (t : Bool). t && q a) (lt-ltb a patterns lt) in
          begin ∙ ap (λ (t : Bool). cond t 1 0 + count_by f (range_with_len (b + 1) m)) same ∙ ap (λ (n : ℕ). cond (q a) 1 0 + n) rest
          ∙ sym (ap (λ (n : ℕ). count_by q (range_with_len a n)) more ∙ count_cons q a (range_with_len (a + 1) (min m (patterns - (a + 1)))))
      | inr ge ↦
          let none : min (suc m) (patterns - a) ≡ 0 = omega arith in
          let after : min m (patterns - (a + 1)) ≡ 0 = omega arith in
          let fails : f b ≡ false = first ∙ ap (λ (t : Bool). t && q a) (le-ltb a patterns ge) in
          let skip : 0 + count_by f (range_with_len (b + 1) m) ≡ count_by f (range_with_len (b + 1) m) = omega arith in
          begin ∙ ap (λ (t : Bool). cond t 1 0 + count_by f (range_with_len (b + 1) m)) fails ∙ skip ∙ rest
          ∙ ap (λ (n : ℕ). count_by q (range_with_len (a + 1) n)) after ∙ sym (ap (λ (n : ℕ). count_by q (range_with_len a n)) none)
    ]

-- no point
pub count_none : (p : Bit → Bool) (patterns word : ℕ) → length (filter p (word_block patterns word 0)) ≡ 0
count_none p patterns word = ap (λ (bs : List Bit). length (filter p bs)) (block_none (64 * word) (min 64 (patterns - 64 * word)))

one_lane : (n i : ℕ) → i < 64 → lane (n ∷ []) (0 + i) ≡ eqb (bit_at n i) 1
one_lane n i lt =
    let quotient : (0 + i) / 64 ≡ 0 = omega arith in
    let rest : (0 + i) % 64 ≡ i = omega arith in
    rw (quotient, rest) refl

-- a word's ones
ones_are : (n : ℕ) → n < 2 ^ 64 → count_ones n ≡ count_by (lane (n ∷ [])) (range_with_len 0 64)
ones_are n lt = let alone : count_ones n ≡ 0 + count_ones n = omega arith in alone ∙ sym (count_more (n ∷ []) 0 lt)

pub few_ones : (n : ℕ) → n < 2 ^ 64 → count_ones n ≤ 64
few_ones n lt = omega (arith, ones_are n lt, count_bound (lane (n ∷ [])) 64)

-- the bits of a word at one more point
pub count_next : (p : Bit → Bool) (patterns word k n : ℕ) → n < 2 ^ 64 → ((j : ℕ) → j < 64 → eqb (bit_at n j) 1 ≡ (ltb (64 * word + j) patterns && p (bit_of (64 * word + j) k)))
    → length (filter p (word_block patterns word (k + 1))) ≡ length (filter p (word_block patterns word k)) + count_ones n
count_next p patterns word k n fits each =
    let ones = ones_are n fits ∙ count_there (lane (n ∷ [])) (λ w. p (bit_of w k)) 0 (64 * word) patterns 64 (λ i lt. one_lane n i lt ∙ each i lt) in
    column_more p k (64 * word) (min 64 (patterns - 64 * word)) ∙ ap (λ (m : ℕ). length (filter p (word_block patterns word k)) + m) (sym ones)

-- ---- lists

list_class : (classes : Bit → BitClass) (tally : Tally) (b : Bit) (class : BitClass) → class ≡ classes b → listed tally class b ≡ listed_over classes (b ∷ []) tally
list_class classes tally b class is =
    each class ∙ ap (λ (k : BitClass). pushed k) is
  where
    pushed : BitClass → Tally
    pushed k = record tally { conflict = tally.conflict ++ cond (is_conflict k) (b ∷ []) []; masked = tally.masked ++ cond (is_masked k) (b ∷ []) [] }

    each : (k : BitClass) → listed tally k b ≡ pushed k
    each Conflict = simp append-nil
    each Masked = simp append-nil
    each Failing = simp append-nil
    each Passing = simp append-nil
    each Uncounted = simp append-nil

-- more bits
pub list_more : (classes : Bit → BitClass) (bits more : List Bit) (start tally next : Tally) → tally ≡ listed_over classes bits start → next ≡ listed_over classes more tally → next ≡ listed_over classes (bits ++ more) start
list_more classes bits more start tally next so_far added =
    let c = λ (b : Bit). is_conflict (classes b) in
    let m = λ (b : Bit). is_masked (classes b) in
    added ∙ ap (listed_over classes more) so_far
    ∙ rw (filter-append c bits more, filter-append m bits more, append_assoc start.conflict (filter c bits) (filter c more), append_assoc start.masked (filter m bits) (filter m more)) refl

-- one more bit
list_next : (classes : Bit → BitClass) (bits : List Bit) (b : Bit) (class : BitClass) (start tally next : Tally) → tally ≡ listed_over classes bits start → class ≡ classes b → next ≡ listed tally class b → next ≡ listed_over classes (bits ++ b ∷ []) start
list_next classes bits b class start tally next so_far is added = list_more classes bits (b ∷ []) start tally next so_far (added ∙ list_class classes tally b class is)

-- the bit at one more of some points
pub list_point : (classes : Bit → BitClass) (w : ℕ) (points : List ℕ) (i d : ℕ) (class : BitClass) (start tally next : Tally) → i < length points → tally ≡ listed_over classes (map (bit_of w) (take i points)) start
    → class ≡ classes (bit_of w (get_or points i d)) → next ≡ listed tally class (bit_of w (get_or points i d)) → next ≡ listed_over classes (map (bit_of w) (take (i + 1) points)) start
list_point classes w points i d class start tally next lt so_far is added =
    list_next classes (map (bit_of w) (take i points)) (bit_of w (get_or points i d)) class start tally next so_far is added
    ∙ ap (λ (bs : List Bit). listed_over classes bs start) (sym (ap (map (bit_of w)) (take_more points i d lt) ∙ map-append (bit_of w) (take i points) (get_or points i d ∷ [])))

-- bits of which the same are set aside
pub list_same : (classes : Bit → BitClass) (bits others : List Bit) (start next : Tally) → HaveSameAside classes bits others → next ≡ listed_over classes bits start → next ≡ listed_over classes others start
list_same classes bits others start next same is = is ∙ rw (same.conflict, same.masked) refl

-- the counts and the lists of more bits
pub tally_more : (classes : Bit → BitClass) (bits more : List Bit) (failing passing : ℕ) (tally next : Tally) → tally ≡ tally_over classes bits
    → failing ≡ length (filter (λ b. is_failing (classes b)) more) → passing ≡ length (filter (λ b. is_passing (classes b)) more)
    → next ≡ listed_over classes more (record tally { failing = tally.failing + failing; passing = tally.passing + passing }) → next ≡ tally_over classes (bits ++ more)
tally_more classes bits more failing passing tally next so_far fails passes added =
    let counted : Tally → ℕ → ℕ → Tally = λ x f p. listed_over classes more (record x { failing = x.failing + f; passing = x.passing + p }) in
    added ∙ ap (λ (x : Tally). counted x failing passing) so_far ∙ ap (λ (f : ℕ). counted (tally_over classes bits) f passing) fails ∙ ap (λ (p : ℕ). counted (tally_over classes bits) (length (filter (λ b. is_failing (classes b)) more)) p) passes
    ∙ rw (
      count_join (λ b. is_failing (classes b)) bits more,
      count_join (λ b. is_passing (classes b)) bits more,
      filter-append (λ b. is_conflict (classes b)) bits more,
      filter-append (λ b. is_masked (classes b)) bits more,
    )
    refl

-- ---- points with bits that are set aside

row_kept : (p : Bit → Bool) (w k : ℕ) (ks : List ℕ) → filter p (map (bit_of w) ks) ≡ filter p (row_bits w k) → filter p (map (bit_of w) (ks ++ k ∷ [])) ≡ filter p (row_bits w (k + 1))
row_kept p w k ks same =
    ap (filter p) (map-append (bit_of w) ks (k ∷ [])) ∙ filter-append p (map (bit_of w) ks) (bit_of w k ∷ []) ∙ ap (λ (bs : List Bit). bs ++ filter p (bit_of w k ∷ [])) same
    ∙ sym (ap (filter p) (row_bits_more [] w k) ∙ filter-append p (row_bits w k) (bit_of w k ∷ []))

row_left : (p : Bit → Bool) (w k : ℕ) (ks : List ℕ) → p (bit_of w k) ≡ false → filter p (map (bit_of w) ks) ≡ filter p (row_bits w k) → filter p (map (bit_of w) ks) ≡ filter p (row_bits w (k + 1))
row_left p w k ks fails same =
    same ∙ sym (ap (filter p) (row_bits_more [] w k) ∙ filter-append p (row_bits w k) (bit_of w k ∷ []) ∙ ap (λ (t : Bool). filter p (row_bits w k) ++ cond t (bit_of w k ∷ []) []) fails ∙ append-nil (filter p (row_bits w k)))

pub aside_kept : (classes : Bit → BitClass) (w k : ℕ) (ks : List ℕ) → HaveSameAside classes (map (bit_of w) ks) (row_bits w k) → HaveSameAside classes (map (bit_of w) (ks ++ k ∷ [])) (row_bits w (k + 1))
aside_kept classes w k ks same = record {
  conflict = row_kept (λ b. is_conflict (classes b)) w k ks same.conflict;
  masked = row_kept (λ b. is_masked (classes b)) w k ks same.masked;
}

-- a point whose word has no bit
pub aside_left : (classes : Bit → BitClass) (patterns w j n k : ℕ) (ks : List ℕ) → w < patterns → n ≡ 0 → eqb (bit_at n j) 1 ≡ (ltb w patterns && is_set_aside (classes (bit_of w k)))
    → HaveSameAside classes (map (bit_of w) ks) (row_bits w k) → HaveSameAside classes (map (bit_of w) ks) (row_bits w (k + 1))
aside_left classes patterns w j n k ks lt unset is same =
    let class = classes (bit_of w k) in
    let none : is_set_aside class ≡ false =
    sym (is ∙ ap (λ (t : Bool). t && is_set_aside class) (lt-ltb w patterns lt)) ∙ ap (λ (m : ℕ). eqb (bit_at m j) 1) unset ∙ ap (λ (m : ℕ). eqb m 1) (bit_at-zero j) in
    let neither = or_parts (is_conflict class) (is_masked class) none in
    record {
      conflict = row_left (λ b. is_conflict (classes b)) w k ks neither.0 same.conflict;
      masked = row_left (λ b. is_masked (classes b)) w k ks neither.1 same.masked;
    }

-- ---- bounds

pub IsTallyOf-listed : (points n : ℕ) (tally next : Tally) (class : BitClass) (b : Bit) → next ≡ listed tally class b → b.point < points → IsTallyOf points n tally → IsTallyOf points n next
IsTallyOf-listed points n tally next class b is lt all = rw is (each class)
  where
    each : (k : BitClass) → IsTallyOf points n (listed tally k b)
    each Conflict = record { failing = all.failing; passing = all.passing; conflict = All-push (λ b. b.point < points) tally.conflict b all.conflict lt; masked = all.masked }
    each Masked = record { failing = all.failing; passing = all.passing; conflict = all.conflict; masked = All-push (λ b. b.point < points) tally.masked b all.masked lt }
    each Failing = all
    each Passing = all
    each Uncounted = all

-- the counts of one more word
pub IsTallyOf-counted : (points m n failing passing : ℕ) (tally : Tally) → m + 64 * points ≤ n → failing ≤ 64 * points → passing ≤ 64 * points → IsTallyOf points m tally
    → IsTallyOf points n (record tally { failing = tally.failing + failing; passing = tally.passing + passing })
IsTallyOf-counted points m n failing passing tally le fails passes all = record {
  failing = omega (arith, all.failing);
  passing = omega (arith, all.passing);
  conflict = all.conflict;
  masked = all.masked;
}
