-- Shares of a block that are added to totals, each suspect's once.
use Rattle.std.proofs.Common.{◌≡◌, ◌⊎◌, ℕ, ◌+◌, ◌^◌, ◌<◌, Bool, true, false, List, [], ◌∷◌, ◌++◌, length, get_or, set, zero, suc, take, replicate, true≢false, refl, subst, ap, sym, ◌∙◌, inl, inr, arith}
use Rattle.std.specs.Prelude.{All, Contains}
use Rattle.std.specs.List.{flat_map}
use Rattle.std.proofs.lemmas.Bool.{cases_eq, cases_lt}
use Rattle.std.proofs.lemmas.List.{get_or-set_same, get_or-set_other, get_or-replicate, get_or_past, length-replicate, map-append, take_more, append-nil}
use Rattle.std.proofs.lemmas.List.Elements.{All-nil, All-cons, Contains-append_cases}
use Rattle.rayon.proofs.ListFacts.{All-parts, flat_map-append}
use Rattle.fault_effects.specs.declared.share.Share.{Share}
use Rattle.fault_effects.specs.Shares.{HasShare, numbers_of}
use Rattle.match_counts.specs.declared.block_count.BlockCount.{BlockCount}
use Rattle.match_counts.specs.declared.totals.Total.{Total}
use Rattle.match_counts.specs.Totals.{AreCounts, IsAdded, AreAddedOnce, HaveRoom, is_marked, total_at, no_total, plus, IsAtMost, AreTotalsAtMost}

abbrev pub no_share : Share BlockCount
no_share = record { suspect = 0; part = record { tfsf = 0; tpsf = 0 } }

either : (b : Bool) → (b ≡ true) ⊎ (b ≡ false)
either true = inl refl
either false = inr refl

never : {X : Type 0} (b : Bool) → b ≡ true → b ≡ false → X
never b marked free = absurd (true≢false (sym marked ∙ free))

has_share : (xs ys : List (Share BlockCount)) (i : ℕ) → HasShare (xs ++ ys) i → HasShare xs i ⊎ HasShare ys i
has_share xs ys i has =
    let In : List ℕ → Type 0 = λ ns. Contains ns i in
    Contains-append_cases (numbers_of xs) (numbers_of ys) i (subst In (map-append (λ (s : Share BlockCount). s.suspect) xs ys) has)

only_share : (s : Share BlockCount) (i : ℕ) → HasShare (s ∷ []) i → (P : ℕ → Type 0) → P s.suspect → P i
only_share s i (zero, lt, is) P holds = subst P is holds
only_share s i (suc k, lt, is) P holds = absurd (omega (arith, lt))

more_room : (n : ℕ) (t : Total) → IsAtMost n t → IsAtMost (n + 2 ^ 32) t
more_room n t most = record { tfsf = omega (arith, most.tfsf); tpsf = omega (arith, most.tpsf) }

pub none_added : (marks : List Bool) (totals : List Total) → AreAddedOnce [] marks totals marks totals
none_added marks totals = record {
  marked = λ i has. absurd (omega (arith, has.1));
  kept = λ i was. (was, refl);
  sums = λ truth right i free is. never (is_marked marks i) is free;
  others = λ i free. refl;
  at_most = λ n i free most. more_room n (total_at totals i) most;
}

module _ (s : Share BlockCount) (marks : List Bool) (totals : List Total) where
  -- a share whose suspect is marked
  pub one_left_out : is_marked marks s.suspect ≡ true → AreAddedOnce (s ∷ []) marks totals marks totals
  one_left_out marked = record {
    marked = λ i has. only_share s i has (λ (k : ℕ). is_marked marks k ≡ true) marked;
    kept = λ i was. (was, refl);
    sums = λ truth right i free is. never (is_marked marks i) is free;
    others = λ i free. refl;
    at_most = λ n i free most. more_room n (total_at totals i) most;
  }

  -- one whose suspect isn't, and x is its total with the share
  pub one_added : (x : Total) → s.suspect < length marks → s.suspect < length totals → is_marked marks s.suspect ≡ false → x ≡ plus (total_at totals s.suspect) s.part → ((n : ℕ) → IsAtMost n (total_at totals s.suspect) → IsAtMost (n + 2 ^ 32) x)
      → AreAddedOnce (s ∷ []) marks totals (set marks s.suspect true) (set totals s.suspect x)
  one_added x in_marks in_totals free is grows =
      let q = s.suspect in
      let mark : is_marked (set marks q true) q ≡ true = get_or-set_same marks q true false in_marks in
      let total : total_at (set totals q x) q ≡ x = get_or-set_same totals q x no_total in_totals in
      record {
        marked = λ i has. only_share s i has (λ (k : ℕ). is_marked (set marks q true) k ≡ true) mark;
        kept = λ i was. elim (cases_eq i q) [
          | inl same ↦ never (is_marked marks q) (let Marked : ℕ → Type 0 = λ k. is_marked marks k ≡ true in subst Marked same was) free
          | inr other ↦ (get_or-set_other marks q i true false other ∙ was, get_or-set_other totals q i x no_total other)
        ];
        sums = λ truth right i unmarked has. elim (cases_eq i q) [
          | inl same ↦ rw same (total ∙ is ∙ ap (plus (total_at totals q)) (right 0 s (omega arith)))
          | inr other ↦ never (is_marked marks i) (sym (get_or-set_other marks q i true false other) ∙ has) unmarked
        ];
        others = λ i none. elim (cases_eq i q) [
          | inl same ↦ never (is_marked (set marks q true) q) mark (let Free : ℕ → Type 0 = λ k. is_marked (set marks q true) k ≡ false in subst Free same none)
          | inr other ↦ get_or-set_other totals q i x no_total other
        ];
        at_most = λ n i unmarked most. elim (cases_eq i q) [
          | inl same ↦ rw (same, total) (grows n (let Most : ℕ → Type 0 = λ k. IsAtMost n (total_at totals k) in subst Most same most))
          | inr other ↦ rw (get_or-set_other totals q i x no_total other) (more_room n (total_at totals i) most)
        ];
      }

module _ (xs : List (Share BlockCount)) (first : List Bool) (before : List Total) (mid : List Bool) (now : List Total) (some : AreAddedOnce xs first before mid now) where
  pub room_left : HaveRoom first before → HaveRoom mid now
  room_left room i none = elim (either (is_marked first i)) [
    | inl was ↦ never (is_marked mid i) (some.kept i was).0 none
    | inr free ↦ rw (some.others i none) (room i free)
  ]

  -- and then others
  pub more_added : (ys : List (Share BlockCount)) (last : List Bool) (after : List Total) → AreAddedOnce ys mid now last after → AreAddedOnce (xs ++ ys) first before last after
  more_added ys last after more = record {
    marked = λ i has. elim (has_share xs ys i has) [
      | inl early ↦ (more.kept i (some.marked i early)).0
      | inr late ↦ more.marked i late
    ];
    kept = λ i was. let still = some.kept i was in ((more.kept i still.0).0, (more.kept i still.0).1 ∙ still.1);
    sums = λ truth right i free has.
        let parts = All-parts (λ (s : Share BlockCount). s.part ≡ truth s.suspect) xs ys right in
        elim (either (is_marked mid i)) [
          | inl early ↦ (more.kept i early).1 ∙ some.sums truth parts.0 i free early
          | inr none ↦ more.sums truth parts.1 i none has ∙ ap (λ (t : Total). plus t (truth i)) (some.others i none)
        ];
    others = λ i none. elim (either (is_marked mid i)) [
      | inl early ↦ never (is_marked last i) (more.kept i early).0 none
      | inr free ↦ more.others i none ∙ some.others i free
    ];
    at_most = λ n i free most. elim (either (is_marked mid i)) [
      | inl early ↦ rw (more.kept i early).1 (some.at_most n i free most)
      | inr none ↦ more.at_most n i none (rw (some.others i none) most)
    ];
  }

-- one share more of a list
pub next_added : (shares : List (Share BlockCount)) (k : ℕ) (first mid last : List Bool) (before now after : List Total) → k < length shares → AreAddedOnce (take k shares) first before mid now → AreAddedOnce (get_or shares k no_share ∷ []) mid now last after
    → AreAddedOnce (take (k + 1) shares) first before last after
next_added shares k first mid last before now after lt some more =
    let Of : List (Share BlockCount) → Type 0 = λ xs. AreAddedOnce xs first before last after in
    subst Of (sym (take_more shares k no_share lt)) (more_added (take k shares) first before mid now some (get_or shares k no_share ∷ []) last after more)

-- one list more
pub next_list_added : (lists : List (List (Share BlockCount))) (k : ℕ) (first mid last : List Bool) (before now after : List Total) → k < length lists → AreAddedOnce (flat_map (λ (l : List (Share BlockCount)). l) (take k lists)) first before mid now → AreAddedOnce (get_or lists k []) mid now last after
    → AreAddedOnce (flat_map (λ (l : List (Share BlockCount)). l) (take (k + 1) lists)) first before last after
next_list_added lists k first mid last before now after lt some more =
    let all : List (List (Share BlockCount)) → List (Share BlockCount) = flat_map (λ (l : List (Share BlockCount)). l) in
    let list = get_or lists k [] in
    let alone : all (list ∷ []) ≡ list = append-nil list in
    let joined : all (take (k + 1) lists) ≡ all (take k lists) ++ list = ap all (take_more lists k [] lt) ∙ flat_map-append (take k lists) (list ∷ []) ∙ ap (λ (xs : List (Share BlockCount)). all (take k lists) ++ xs) alone in
    let Of : List (Share BlockCount) → Type 0 = λ xs. AreAddedOnce xs first before last after in
    subst Of (sym joined) (more_added (all (take k lists)) first before mid now some list last after more)

-- what holds of the shares of all lists holds of those of each
pub each_list : (P : Share BlockCount → Type 0) (lists : List (List (Share BlockCount))) → All P (flat_map (λ (l : List (Share BlockCount)). l) lists) → All (All P) lists
each_list P [] all = All-nil (All P)
each_list P (l ∷ ls) all =
    let parts = All-parts P l (flat_map (λ (l : List (Share BlockCount)). l) ls) all in
    All-cons (All P) l ls parts.0 (each_list P ls parts.1)

-- ---- from no mark on

unmarked : (n i : ℕ) → is_marked (replicate n false) i ≡ false
unmarked n i = elim (cases_lt i n) [
  | inl lt ↦ get_or-replicate n i false false lt
  | inr past ↦ get_or_past (replicate n false) i false (omega (arith, past, length-replicate n false))
]

module _ (n : ℕ) (marks : List Bool) (none : marks ≡ replicate n false) (old : List Total) where
  free : (i : ℕ) → is_marked marks i ≡ false
  free i = ap (λ (ms : List Bool). is_marked ms i) none ∙ unmarked n i

  pub room_for_all : AreTotalsAtMost (2 ^ 63) old → HaveRoom marks old
  room_for_all small i _ = small i

  module _ (shares : List (Share BlockCount)) (added : List Bool) (new : List Total) (once : AreAddedOnce shares marks old added new) where
    pub all_added : (truth : ℕ → BlockCount) → AreCounts truth shares → IsAdded truth shares old new
    all_added truth right i has = once.sums truth right i (free i) (once.marked i has)

    pub all_at_most : (m : ℕ) → AreTotalsAtMost m old → AreTotalsAtMost (m + 2 ^ 32) new
    all_at_most m small i = once.at_most m i (free i) (small i)
