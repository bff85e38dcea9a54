-- What the two tables stand for after one more log, and the words that are made of them.
use Rattle.std.proofs.Common.{◌≡◌, ℕ, ◌+◌, ◌*◌, ◌/◌, ◌^◌, ◌<◌, Bool, true, false, not, cond, ◌||◌, ◌&&◌, eqb, ltb, leb, List, [], ◌∷◌, ◌++◌, get_or, refl, sym, ap, ◌∙◌, arith, w64}
use Rattle.std.specs.Prelude.{bit_and}
use Rattle.std.specs.List.{list_any, list_all}
use Rattle.std.specs.Int.{bit_at, bit_not}
use Rattle.std.proofs.lemmas.Bool.{and_parts, and_from, or_right, eqb-true, ltb-true, le-leb}
use Rattle.std.proofs.lemmas.List.{get_or_default}
use Rattle.std.proofs.lemmas.List.Folds.{Any-from_list_any, list_any_at, list_any-append}
use Rattle.scan_model.specs.declared.values.Tri.{Tri}
use Rattle.scan_model.specs.declared.values.Tri.TheVariants.{Zero, One, Unknown}
use Rattle.scan_model.specs.declared.logs.Bit.{Bit}
use Rattle.scan_model.specs.declared.logs.LogFacts.{LogFacts}
use Rattle.scan_model.specs.Values.{is_unknown}
use Rattle.scan_model.specs.BitTable.{table_bit}
use Rattle.scan_model.specs.Coverage.{bit_of, same_bit, not_after, lists, covers, is_tested, has_point, group_goes_on, FitsLog}
use Rattle.scan_model.specs.Classes.{some_fails, some_passes, class_by, class_of, is_failing, is_passing}
use Rattle.scan_model.proofs.BitTables.{place_in_word, bit_of_and, bit_of_not}
use Rattle.log_join.specs.CoverageBits.{CoverageBits, is_covered}
use Rattle.log_join.specs.Joining.{JoinedBits, StandsFor, is_set_aside}

-- ---- a log's failing bits are covered
pub listed_is_covered : (log : LogFacts) (patterns points : ℕ) (b : Bit) → FitsLog patterns points log → lists log b ≡ true → covers log b ≡ true
listed_is_covered log patterns points b fits listed =
    let found = Any-from_list_any (same_bit b) log.fails listed in
    let i = found.0 in
    let f = get_or log.fails i b in
    let is : f ≡ found.1 = get_or_default log.fails i b found.1 found.2 ∙ found.3 in
    let same = and_parts (eqb b.pattern f.pattern) (eqb b.point f.point) (ap (same_bit b) is ∙ found.4) in
    let pattern = eqb-true b.pattern f.pattern same.0 in
    let point = eqb-true b.point f.point same.1 in
    let at = fits.fails i b found.2 in
    let tested : is_tested log b.pattern ≡ true = ap (is_tested log) pattern ∙ at.0 in
    let here : not_after b f ≡ true =
    or_right (ltb b.pattern f.pattern) (eqb b.pattern f.pattern && leb b.point f.point)
    (and_from (eqb b.pattern f.pattern) (leb b.point f.point) same.0 (le-leb b.point f.point (omega (arith, point)))) in
    let whole : (not log.truncated || list_any (not_after b) log.fails) ≡ true = or_right (not log.truncated) (list_any (not_after b) log.fails) (list_any_at (not_after b) log.fails i b found.2 here) in
    let goes_on : (group : List ℕ) → (not (has_point group b.point) || group_goes_on log b group) ≡ true = λ group.
    it_goes_on (has_point group b.point) (group_goes_on log b group) (λ has. list_any_at (λ f. has_point group f.point && not_after b f) log.fails i b found.2
    (and_from (has_point group f.point) (not_after b f) (ap (has_point group) (sym point) ∙ has) here)) in
    and_from (is_tested log b.pattern) _ tested (and_from (not log.truncated || list_any (not_after b) log.fails) _ whole (all_true (λ group. not (has_point group b.point) || group_goes_on log b group) log.cuts goes_on))
  where
    it_goes_on : (has on : Bool) → (has ≡ true → on ≡ true) → (not has || on) ≡ true
    it_goes_on true on is = is refl
    it_goes_on false on is = refl

    all_true : {X : Type 0} (p : X → Bool) → (xs : List X) → ((x : X) → p x ≡ true) → list_all p xs ≡ true
    all_true p [] each = refl
    all_true p (x ∷ xs) each = and_from (p x) (list_all p xs) (each x) (all_true p xs each)

-- ---- one bit of the tables, by what a log says of it
pub passed_kept : (listed covered passed failed : Bool) → cond listed (cond listed passed failed) (covered || passed) ≡ ((covered && not listed) || passed)
passed_kept true true passed failed = refl
passed_kept true false passed failed = refl
passed_kept false true passed failed = refl
passed_kept false false passed failed = refl

pub failed_anyway : (listed passed failed : Bool) → (listed || cond listed passed failed) ≡ (listed || failed)
failed_anyway true passed failed = refl
failed_anyway false passed failed = refl

one_more_fails : (covered listed failed : Bool) → (listed ≡ true → covered ≡ true) → (listed || failed) ≡ (failed || ((covered && listed) || false))
one_more_fails true true true is = refl
one_more_fails true true false is = refl
one_more_fails false true failed is = absurd (cc (is refl))
one_more_fails true false true is = refl
one_more_fails true false false is = refl
one_more_fails false false true is = refl
one_more_fails false false false is = refl

one_more_passes : (covered listed passed : Bool) → ((covered && not listed) || passed) ≡ (passed || ((covered && not listed) || false))
one_more_passes true true true = refl
one_more_passes true true false = refl
one_more_passes true false true = refl
one_more_passes true false false = refl
one_more_passes false listed true = refl
one_more_passes false listed false = refl

pub stands_for_more : (logs : List LogFacts) (log : LogFacts) (coverage : CoverageBits) (patterns points : ℕ) (failed passed failed1 passed1 : List ℕ) → FitsLog patterns points log
    → ((w k : ℕ) → k < points → table_bit failed1 points w k ≡ (lists log (bit_of w k) || table_bit failed points w k))
    → ((w k : ℕ) → k < points → table_bit passed1 points w k ≡ ((is_covered coverage w k && not (lists log (bit_of w k))) || table_bit passed points w k))
    → ((w k : ℕ) → w < patterns → k < points → covers log (bit_of w k) ≡ is_covered coverage w k)
    → StandsFor logs (record { patterns = patterns; points = points; failed = failed; passed = passed })
    → StandsFor (logs ++ log ∷ []) (record { patterns = patterns; points = points; failed = failed1; passed = passed1 })
stands_for_more logs log coverage patterns points failed passed failed1 passed1 fits fails passes covered stands = record {
  failed = λ w k in_patterns in_points.
      let b = bit_of w k in
      fails w k in_points ∙ ap (λ (x : Bool). lists log b || x) (stands.failed w k in_patterns in_points)
      ∙ one_more_fails (covers log b) (lists log b) (some_fails logs b) (listed_is_covered log patterns points b fits)
      ∙ sym (list_any-append (λ (l : LogFacts). covers l b && lists l b) logs (log ∷ []));
  passed = λ w k in_patterns in_points.
      let b = bit_of w k in
      passes w k in_points ∙ ap (λ (x : Bool). (x && not (lists log b)) || table_bit passed points w k) (sym (covered w k in_patterns in_points))
      ∙ ap (λ (x : Bool). (covers log b && not (lists log b)) || x) (stands.passed w k in_patterns in_points)
      ∙ one_more_passes (covers log b) (lists log b) (some_passes logs b)
      ∙ sym (list_any-append (λ (l : LogFacts). covers l b && not (lists l b)) logs (log ∷ []));
}

-- ---- words of classes
and_true : (b : Bool) → (b && true) ≡ b
and_true true = refl
and_true false = refl

and_false : (b : Bool) → (b && false) ≡ false
and_false true = refl
and_false false = refl

pub decided_by : (known mask inside wanted : Bool) → mask ≡ inside → (inside ≡ true → known ≡ wanted) → (known && mask) ≡ (inside && wanted)
decided_by known mask true wanted is wants = ap (λ (b : Bool). known && b) is ∙ and_true known ∙ wants refl
decided_by known mask false wanted is wants = ap (λ (b : Bool). known && b) is ∙ and_false known

failing_class : (failed passed : Bool) (v : Tri) → ((failed && not passed) && not (is_unknown v)) ≡ is_failing (class_by failed passed v)
failing_class true true v = refl
failing_class true false Zero = refl
failing_class true false One = refl
failing_class true false Unknown = refl
failing_class false true Zero = refl
failing_class false true One = refl
failing_class false true Unknown = refl
failing_class false false v = refl

passing_class : (failed passed : Bool) (v : Tri) → ((passed && not failed) && not (is_unknown v)) ≡ is_passing (class_by failed passed v)
passing_class true true v = refl
passing_class true false Zero = refl
passing_class true false One = refl
passing_class true false Unknown = refl
passing_class false true Zero = refl
passing_class false true One = refl
passing_class false true Unknown = refl
passing_class false false v = refl

word_bit : (a b decided j : ℕ) → b < 2 ^ 64 → j < 64
    → eqb (bit_at (bit_and (bit_and a (bit_not w64 b)) decided) j) 1 ≡ ((eqb (bit_at a j) 1 && not (eqb (bit_at b j) 1)) && eqb (bit_at decided j) 1)
word_bit a b decided j fits lt =
    bit_of_and (bit_and a (bit_not w64 b)) decided j
    ∙ ap (λ (x : Bool). x && eqb (bit_at decided j) 1) (bit_of_and a (bit_not w64 b) j ∙ ap (λ (x : Bool). eqb (bit_at a j) 1 && x) (bit_of_not b j fits lt))

table_word : (words : List ℕ) (points word k j : ℕ) → j < 64 → eqb (bit_at (get_or words (word * points + k) 0) j) 1 ≡ table_bit words points (64 * word + j) k
table_word words points word k j lt =
    let place = place_in_word word j lt in
    ap (λ (n : ℕ). eqb (bit_at (get_or words (n * points + k) 0) j) 1) (sym place.0) ∙ ap (λ (n : ℕ). eqb (bit_at (get_or words ((64 * word + j) / 64 * points + k) 0) n) 1) (sym place.1)

-- the word of a where b has no bit, among those that are decided
word_where : (a b : List ℕ) (points word k j decided : ℕ) (inside in_a in_b known is_class : Bool) → get_or b (word * points + k) 0 < 2 ^ 64 → j < 64
    → eqb (bit_at decided j) 1 ≡ (inside && known)
    → (inside ≡ true → table_bit a points (64 * word + j) k ≡ in_a) → (inside ≡ true → table_bit b points (64 * word + j) k ≡ in_b)
    → ((in_a && not in_b) && known) ≡ is_class
    → eqb (bit_at (bit_and (bit_and (get_or a (word * points + k) 0) (bit_not w64 (get_or b (word * points + k) 0))) decided) j) 1 ≡ (inside && is_class)
word_where a b points word k j decided true in_a in_b known is_class fits lt is is_a is_b class =
    word_bit (get_or a (word * points + k) 0) (get_or b (word * points + k) 0) decided j fits lt
    ∙ ap (λ (x : Bool). (x && not (eqb (bit_at (get_or b (word * points + k) 0) j) 1)) && eqb (bit_at decided j) 1) (table_word a points word k j lt ∙ is_a refl)
    ∙ ap (λ (x : Bool). (in_a && not x) && eqb (bit_at decided j) 1) (table_word b points word k j lt ∙ is_b refl)
    ∙ ap (λ (x : Bool). (in_a && not in_b) && x) is ∙ class
word_where a b points word k j decided false in_a in_b known is_class fits lt is is_a is_b class =
    word_bit (get_or a (word * points + k) 0) (get_or b (word * points + k) 0) decided j fits lt
    ∙ ap (λ (x : Bool). (eqb (bit_at (get_or a (word * points + k) 0) j) 1 && not (eqb (bit_at (get_or b (word * points + k) 0) j) 1)) && x) is
    ∙ and_false (eqb (bit_at (get_or a (word * points + k) 0) j) 1 && not (eqb (bit_at (get_or b (word * points + k) 0) j) 1))

pub failing_where : (logs : List LogFacts) (joined : JoinedBits) (word k j decided : ℕ) (v : Tri) → StandsFor logs joined → k < joined.points
    → get_or joined.passed (word * joined.points + k) 0 < 2 ^ 64 → j < 64 → eqb (bit_at decided j) 1 ≡ (ltb (64 * word + j) joined.patterns && not (is_unknown v))
    → eqb (bit_at (bit_and (bit_and (get_or joined.failed (word * joined.points + k) 0) (bit_not w64 (get_or joined.passed (word * joined.points + k) 0))) decided) j) 1
    ≡ (ltb (64 * word + j) joined.patterns && is_failing (class_of logs v (bit_of (64 * word + j) k)))
failing_where logs joined word k j decided v stands in_points fits lt is =
    let w = 64 * word + j in
    let b = bit_of w k in
    word_where joined.failed joined.passed joined.points word k j decided (ltb w joined.patterns) (some_fails logs b) (some_passes logs b) (not (is_unknown v)) (is_failing (class_of logs v b)) fits lt is
    (λ inside. stands.failed w k (ltb-true w joined.patterns inside) in_points) (λ inside. stands.passed w k (ltb-true w joined.patterns inside) in_points)
    (failing_class (some_fails logs b) (some_passes logs b) v)

pub passing_where : (logs : List LogFacts) (joined : JoinedBits) (word k j decided : ℕ) (v : Tri) → StandsFor logs joined → k < joined.points
    → get_or joined.failed (word * joined.points + k) 0 < 2 ^ 64 → j < 64 → eqb (bit_at decided j) 1 ≡ (ltb (64 * word + j) joined.patterns && not (is_unknown v))
    → eqb (bit_at (bit_and (bit_and (get_or joined.passed (word * joined.points + k) 0) (bit_not w64 (get_or joined.failed (word * joined.points + k) 0))) decided) j) 1
    ≡ (ltb (64 * word + j) joined.patterns && is_passing (class_of logs v (bit_of (64 * word + j) k)))
passing_where logs joined word k j decided v stands in_points fits lt is =
    let w = 64 * word + j in
    let b = bit_of w k in
    word_where joined.passed joined.failed joined.points word k j decided (ltb w joined.patterns) (some_passes logs b) (some_fails logs b) (not (is_unknown v)) (is_passing (class_of logs v b)) fits lt is
    (λ inside. stands.passed w k (ltb-true w joined.patterns inside) in_points) (λ inside. stands.failed w k (ltb-true w joined.patterns inside) in_points)
    (passing_class (some_fails logs b) (some_passes logs b) v)

-- ---- bits that are set aside
set_aside_class : (failed passed : Bool) (v : Tri) → (failed && not (is_failing (class_by failed passed v))) ≡ is_set_aside (class_by failed passed v)
set_aside_class true true v = refl
set_aside_class true false Zero = refl
set_aside_class true false One = refl
set_aside_class true false Unknown = refl
set_aside_class false true Zero = refl
set_aside_class false true One = refl
set_aside_class false true Unknown = refl
set_aside_class false false v = refl

-- a word without the bits of another, as far as there are patterns
without : (a b mask j : ℕ) (inside in_a in_b is_class : Bool) → b < 2 ^ 64 → j < 64 → (inside ≡ true → eqb (bit_at a j) 1 ≡ in_a) → eqb (bit_at b j) 1 ≡ (inside && in_b) → eqb (bit_at mask j) 1 ≡ inside
    → (in_a && not in_b) ≡ is_class → eqb (bit_at (bit_and (bit_and a (bit_not w64 b)) mask) j) 1 ≡ (inside && is_class)
without a b mask j true in_a in_b is_class fits lt is_a is_b is_mask class =
    word_bit a b mask j fits lt
    ∙ ap (λ (x : Bool). (x && not (eqb (bit_at b j) 1)) && eqb (bit_at mask j) 1) (is_a refl)
    ∙ ap (λ (x : Bool). (in_a && not x) && eqb (bit_at mask j) 1) is_b
    ∙ ap (λ (x : Bool). (in_a && not in_b) && x) is_mask ∙ and_true (in_a && not in_b) ∙ class
without a b mask j false in_a in_b is_class fits lt is_a is_b is_mask class =
    word_bit a b mask j fits lt ∙ ap (λ (x : Bool). (eqb (bit_at a j) 1 && not (eqb (bit_at b j) 1)) && x) is_mask ∙ and_false (eqb (bit_at a j) 1 && not (eqb (bit_at b j) 1))

pub set_aside_where : (logs : List LogFacts) (joined : JoinedBits) (word k j failing there : ℕ) (v : Tri) → StandsFor logs joined → k < joined.points → failing < 2 ^ 64 → j < 64
    → eqb (bit_at failing j) 1 ≡ (ltb (64 * word + j) joined.patterns && is_failing (class_of logs v (bit_of (64 * word + j) k))) → eqb (bit_at there j) 1 ≡ ltb (64 * word + j) joined.patterns
    → eqb (bit_at (bit_and (bit_and (get_or joined.failed (word * joined.points + k) 0) (bit_not w64 failing)) there) j) 1
    ≡ (ltb (64 * word + j) joined.patterns && is_set_aside (class_of logs v (bit_of (64 * word + j) k)))
set_aside_where logs joined word k j failing there v stands in_points fits lt fails is_there =
    let w = 64 * word + j in
    let b = bit_of w k in
    without (get_or joined.failed (word * joined.points + k) 0) failing there j (ltb w joined.patterns) (some_fails logs b) (is_failing (class_of logs v b)) (is_set_aside (class_of logs v b)) fits lt
    (λ inside. table_word joined.failed joined.points word k j lt ∙ stands.failed w k (ltb-true w joined.patterns inside) in_points) fails is_there
    (set_aside_class (some_fails logs b) (some_passes logs b) v)
