-- What a change of one operand makes of a gate, without evaluating the gate again.
use Rattle.std.proofs.Common.{◌≡◌, ℕ, suc, ◌+◌, ◌<◌, Bool, true, false, not, cond, eqb, ◌&&◌, ◌||◌, List, [], ◌∷◌, ◌++◌, length, set, take, drop, refl, sym, ap, subst, ◌∙◌, inl, inr, ◌%◌, arith}
use Rattle.std.specs.Prelude.{count_by}
use Rattle.std.specs.List.{list_any, list_all}
use Rattle.std.proofs.lemmas.Bool.{cases_Bool, cases_eq, eq-eqb, ne_eqb}
use Rattle.std.proofs.lemmas.List.{set_split, set-get_or, length-append}
use Rattle.std.proofs.lemmas.List.Folds.{list_any-append, list_all-append}
use Rattle.std.proofs.lemmas.List.Sums.{sum_by-cons, sum_by-append}
use Rattle.scan_model.specs.declared.values.Tri.{Tri}
use Rattle.scan_model.specs.declared.values.Tri.TheVariants.{Zero, One, Unknown}
use Rattle.scan_model.specs.declared.circuit.GateKind.{GateKind}
use Rattle.scan_model.specs.declared.circuit.GateKind.TheVariants.{And, Nand, Or, Nor, Xor, Xnor, Not, Buf}
use Rattle.scan_model.specs.Values.{is_zero, is_one, is_unknown, are_opposite, tri_not, tri_and, tri_or, tri_xor, and_of, or_of, xor_of, only_of, gate_value}
use Rattle.scan_model.specs.Netlist.{IsGateOperandCount}
use Rattle.scan_model.specs.ChainShift.{value_at}
use Rattle.scan_model.proofs.Folds.{and_of-push, or_of-push, xor_of-push}
use Rattle.scan_model.specs.BranchMask.{in_the_way, senses}

-- an element that stands last in place of within
or_last : (a b c : Bool) → (a || (b || c)) ≡ ((a || c) || (b || false))
or_last true b c = refl
or_last false true true = refl
or_last false true false = refl
or_last false false true = refl
or_last false false false = refl

and_last : (a b c : Bool) → (a && (b && c)) ≡ ((a && c) && (b && true))
and_last false b c = refl
and_last true true true = refl
and_last true true false = refl
and_last true false true = refl
and_last true false false = refl

any_last : (p : Tri → Bool) (ls rs : List Tri) (x : Tri) → list_any p (ls ++ x ∷ rs) ≡ list_any p ((ls ++ rs) ++ x ∷ [])
any_last p ls rs x = list_any-append p ls (x ∷ rs) ∙ or_last (list_any p ls) (p x) (list_any p rs)
    ∙ sym (list_any-append p (ls ++ rs) (x ∷ []) ∙ ap (λ (b : Bool). b || (p x || false)) (list_any-append p ls rs))

all_last : (p : Tri → Bool) (ls rs : List Tri) (x : Tri) → list_all p (ls ++ x ∷ rs) ≡ list_all p ((ls ++ rs) ++ x ∷ [])
all_last p ls rs x = list_all-append p ls (x ∷ rs) ∙ and_last (list_all p ls) (p x) (list_all p rs)
    ∙ sym (list_all-append p (ls ++ rs) (x ∷ []) ∙ ap (λ (b : Bool). b && (p x && true)) (list_all-append p ls rs))

count_out : (p : Tri → Bool) (ls rs : List Tri) (x : Tri) → count_by p (ls ++ x ∷ rs) ≡ count_by p (ls ++ rs) + cond (p x) 1 0
count_out p ls rs x =
    let one : Tri → ℕ = λ y. cond (p y) 1 0 in
    rw (sum_by-append one ls (x ∷ rs), sum_by-cons one x rs, sum_by-append one ls rs) (omega arith)

count_last : (p : Tri → Bool) (ls rs : List Tri) (x : Tri) → count_by p (ls ++ x ∷ rs) ≡ count_by p ((ls ++ rs) ++ x ∷ [])
count_last p ls rs x =
    let one : Tri → ℕ = λ y. cond (p y) 1 0 in
    rw (sum_by-append one ls (x ∷ rs), sum_by-cons one x rs, sum_by-append one (ls ++ rs) (x ∷ []), sum_by-append one ls rs, sum_by-cons one x []) (omega arith)

and_out : (ls rs : List Tri) (x : Tri) → and_of (ls ++ x ∷ rs) ≡ tri_and (and_of (ls ++ rs)) x
and_out ls rs x = rw (any_last is_zero ls rs x, all_last is_one ls rs x) (and_of-push (ls ++ rs) x)

or_out : (ls rs : List Tri) (x : Tri) → or_of (ls ++ x ∷ rs) ≡ tri_or (or_of (ls ++ rs)) x
or_out ls rs x = rw (any_last is_one ls rs x, all_last is_zero ls rs x) (or_of-push (ls ++ rs) x)

xor_out : (ls rs : List Tri) (x : Tri) → xor_of (ls ++ x ∷ rs) ≡ tri_xor (xor_of (ls ++ rs)) x
xor_out ls rs x = rw (any_last is_unknown ls rs x, count_last is_one ls rs x) (xor_of-push (ls ++ rs) x)

-- one operand beside what the others give
and_shows : (o x v : Tri) → are_opposite (tri_and o x) (tri_and o v) ≡ (are_opposite x v && is_one o)
and_shows Zero Zero Zero = refl
and_shows Zero Zero One = refl
and_shows Zero Zero Unknown = refl
and_shows Zero One Zero = refl
and_shows Zero One One = refl
and_shows Zero One Unknown = refl
and_shows Zero Unknown Zero = refl
and_shows Zero Unknown One = refl
and_shows Zero Unknown Unknown = refl
and_shows One Zero Zero = refl
and_shows One Zero One = refl
and_shows One Zero Unknown = refl
and_shows One One Zero = refl
and_shows One One One = refl
and_shows One One Unknown = refl
and_shows One Unknown Zero = refl
and_shows One Unknown One = refl
and_shows One Unknown Unknown = refl
and_shows Unknown Zero Zero = refl
and_shows Unknown Zero One = refl
and_shows Unknown Zero Unknown = refl
and_shows Unknown One Zero = refl
and_shows Unknown One One = refl
and_shows Unknown One Unknown = refl
and_shows Unknown Unknown Zero = refl
and_shows Unknown Unknown One = refl
and_shows Unknown Unknown Unknown = refl

or_shows : (o x v : Tri) → are_opposite (tri_or o x) (tri_or o v) ≡ (are_opposite x v && is_zero o)
or_shows Zero Zero Zero = refl
or_shows Zero Zero One = refl
or_shows Zero Zero Unknown = refl
or_shows Zero One Zero = refl
or_shows Zero One One = refl
or_shows Zero One Unknown = refl
or_shows Zero Unknown Zero = refl
or_shows Zero Unknown One = refl
or_shows Zero Unknown Unknown = refl
or_shows One Zero Zero = refl
or_shows One Zero One = refl
or_shows One Zero Unknown = refl
or_shows One One Zero = refl
or_shows One One One = refl
or_shows One One Unknown = refl
or_shows One Unknown Zero = refl
or_shows One Unknown One = refl
or_shows One Unknown Unknown = refl
or_shows Unknown Zero Zero = refl
or_shows Unknown Zero One = refl
or_shows Unknown Zero Unknown = refl
or_shows Unknown One Zero = refl
or_shows Unknown One One = refl
or_shows Unknown One Unknown = refl
or_shows Unknown Unknown Zero = refl
or_shows Unknown Unknown One = refl
or_shows Unknown Unknown Unknown = refl

xor_shows : (o x v : Tri) → are_opposite (tri_xor o x) (tri_xor o v) ≡ (are_opposite x v && not (is_unknown o))
xor_shows Zero Zero Zero = refl
xor_shows Zero Zero One = refl
xor_shows Zero Zero Unknown = refl
xor_shows Zero One Zero = refl
xor_shows Zero One One = refl
xor_shows Zero One Unknown = refl
xor_shows Zero Unknown Zero = refl
xor_shows Zero Unknown One = refl
xor_shows Zero Unknown Unknown = refl
xor_shows One Zero Zero = refl
xor_shows One Zero One = refl
xor_shows One Zero Unknown = refl
xor_shows One One Zero = refl
xor_shows One One One = refl
xor_shows One One Unknown = refl
xor_shows One Unknown Zero = refl
xor_shows One Unknown One = refl
xor_shows One Unknown Unknown = refl
xor_shows Unknown Zero Zero = refl
xor_shows Unknown Zero One = refl
xor_shows Unknown Zero Unknown = refl
xor_shows Unknown One Zero = refl
xor_shows Unknown One One = refl
xor_shows Unknown One Unknown = refl
xor_shows Unknown Unknown Zero = refl
xor_shows Unknown Unknown One = refl
xor_shows Unknown Unknown Unknown = refl

not_shows : (x v : Tri) → are_opposite (tri_not x) (tri_not v) ≡ are_opposite x v
not_shows Zero Zero = refl
not_shows Zero One = refl
not_shows Zero Unknown = refl
not_shows One Zero = refl
not_shows One One = refl
not_shows One Unknown = refl
not_shows Unknown v = refl

-- what the others give, by how many are in the way
none_counted : (p : Tri → Bool) (xs : List Tri) → list_any p xs ≡ not (eqb (count_by p xs) 0)
none_counted p [] = refl
none_counted p (x ∷ xs) = rw (sum_by-cons (λ (y : Tri). cond (p y) 1 0) x xs) (elim (cases_Bool (p x)) [
  | inl passes ↦ rw (passes, ne_eqb (1 + count_by p xs) 0 (λ e. omega arith)) refl
  | inr none ↦
      let e : 0 + count_by p xs ≡ count_by p xs = omega arith in
      rw (none, e) (none_counted p xs)
])

all_counted : (p : Tri → Bool) (xs : List Tri) → list_all p xs ≡ eqb (count_by (λ x. not (p x)) xs) 0
all_counted p [] = refl
all_counted p (x ∷ xs) = rw (sum_by-cons (λ (y : Tri). cond (not (p y)) 1 0) x xs) (elim (cases_Bool (p x)) [
  | inl passes ↦
      let e : 0 + count_by (λ y. not (p y)) xs ≡ count_by (λ y. not (p y)) xs = omega arith in
      rw (passes, e) (all_counted p xs)
  | inr none ↦ rw (none, ne_eqb (1 + count_by (λ y. not (p y)) xs) 0 (λ e. omega arith)) refl
])

no_zero : (xs : List Tri) → list_all is_one xs ≡ true → list_any is_zero xs ≡ false
no_zero [] all = refl
no_zero (Zero ∷ xs) all = absurd cc
no_zero (One ∷ xs) all = no_zero xs all
no_zero (Unknown ∷ xs) all = absurd cc

no_one : (xs : List Tri) → list_all is_zero xs ≡ true → list_any is_one xs ≡ false
no_one [] all = refl
no_one (Zero ∷ xs) all = no_one xs all
no_one (One ∷ xs) all = absurd cc
no_one (Unknown ∷ xs) all = absurd cc

one_of_and : (xs : List Tri) → is_one (and_of xs) ≡ list_all is_one xs
one_of_and xs = elim (cases_Bool (list_all is_one xs)) [
  | inl all ↦ rw (no_zero xs all, all) refl
  | inr some ↦ elim (cases_Bool (list_any is_zero xs)) [ inl hit ↦ rw (hit, some) refl | inr miss ↦ rw (miss, some) refl ]
]

zero_of_or : (xs : List Tri) → is_zero (or_of xs) ≡ list_all is_zero xs
zero_of_or xs = elim (cases_Bool (list_all is_zero xs)) [
  | inl all ↦ rw (no_one xs all, all) refl
  | inr some ↦ elim (cases_Bool (list_any is_one xs)) [ inl hit ↦ rw (hit, some) refl | inr miss ↦ rw (miss, some) refl ]
]

known_of_xor : (xs : List Tri) → not (is_unknown (xor_of xs)) ≡ not (list_any is_unknown xs)
known_of_xor xs = elim (cases_Bool (list_any is_unknown xs)) [
  | inl some ↦ rw some refl
  | inr none ↦ rw none (elim (cases_Bool (eqb (count_by is_one xs % 2) 1)) [ inl odd ↦ rw odd refl | inr even ↦ rw even refl ])
]

not_not : (b : Bool) → not (not b) ≡ b
not_not true = refl
not_not false = refl

-- the i-th operand of its gate is split off
one_free : (n : ℕ) (way : Bool) → eqb n 0 ≡ (eqb (n + cond way 1 0) 0 || (eqb (n + cond way 1 0) 1 && way))
one_free n true = rw (ne_eqb (n + 1) 0 (λ e. omega arith)) (elim (cases_eq n 0) [
  | inl is ↦ rw (eq-eqb n 0 is, eq-eqb (n + 1) 1 (omega arith)) refl
  | inr other ↦ rw (ne_eqb n 0 other, ne_eqb (n + 1) 1 (λ e. other (omega arith))) refl
])
one_free n false =
    let e : n + 0 ≡ n = omega arith in
    rw e (elim (cases_Bool (eqb n 0)) [ inl is ↦ rw is refl | inr other ↦ rw other (elim (cases_Bool (eqb n 1)) [ inl one ↦ rw one refl | inr no_one ↦ rw no_one refl ]) ])

and_split : (ls rs : List Tri) (x v : Tri) → are_opposite (and_of (ls ++ x ∷ rs)) (and_of (ls ++ v ∷ rs)) ≡ (are_opposite x v && eqb (count_by (λ y. not (is_one y)) (ls ++ rs)) 0)
and_split ls rs x v = rw (and_out ls rs x, and_out ls rs v) (and_shows (and_of (ls ++ rs)) x v ∙ ap (λ (b : Bool). are_opposite x v && b) (one_of_and (ls ++ rs) ∙ all_counted is_one (ls ++ rs)))

or_split : (ls rs : List Tri) (x v : Tri) → are_opposite (or_of (ls ++ x ∷ rs)) (or_of (ls ++ v ∷ rs)) ≡ (are_opposite x v && eqb (count_by (λ y. not (is_zero y)) (ls ++ rs)) 0)
or_split ls rs x v = rw (or_out ls rs x, or_out ls rs v) (or_shows (or_of (ls ++ rs)) x v ∙ ap (λ (b : Bool). are_opposite x v && b) (zero_of_or (ls ++ rs) ∙ all_counted is_zero (ls ++ rs)))

xor_split : (ls rs : List Tri) (x v : Tri) → are_opposite (xor_of (ls ++ x ∷ rs)) (xor_of (ls ++ v ∷ rs)) ≡ (are_opposite x v && eqb (count_by is_unknown (ls ++ rs)) 0)
xor_split ls rs x v = rw (xor_out ls rs x, xor_out ls rs v)
    (xor_shows (xor_of (ls ++ rs)) x v ∙ ap (λ (b : Bool). are_opposite x v && b) (known_of_xor (ls ++ rs) ∙ ap not (none_counted is_unknown (ls ++ rs)) ∙ not_not (eqb (count_by is_unknown (ls ++ rs)) 0)))

and_true : (b : Bool) → b ≡ (b && true)
and_true true = refl
and_true false = refl

only_split : (ls rs : List Tri) (x v : Tri) → length (ls ++ x ∷ rs) ≡ 1 → are_opposite (only_of (ls ++ x ∷ rs)) (only_of (ls ++ v ∷ rs)) ≡ (are_opposite x v && eqb (count_by (λ y. false) (ls ++ rs)) 0)
only_split [] [] x v one = and_true (are_opposite x v)
only_split [] (r ∷ rs) x v one = absurd (omega arith)
only_split (l ∷ ls) rs x v one = absurd (omega (arith, length-append ls (x ∷ rs)))

split_shows : (kind : GateKind) (ls rs : List Tri) (x v : Tri) → IsGateOperandCount kind (length (ls ++ x ∷ rs))
    → are_opposite (gate_value kind (ls ++ x ∷ rs)) (gate_value kind (ls ++ v ∷ rs)) ≡ (are_opposite x v && eqb (count_by (in_the_way kind) (ls ++ rs)) 0)
split_shows And ls rs x v fits = and_split ls rs x v
split_shows Nand ls rs x v fits = not_shows (and_of (ls ++ x ∷ rs)) (and_of (ls ++ v ∷ rs)) ∙ and_split ls rs x v
split_shows Or ls rs x v fits = or_split ls rs x v
split_shows Nor ls rs x v fits = not_shows (or_of (ls ++ x ∷ rs)) (or_of (ls ++ v ∷ rs)) ∙ or_split ls rs x v
split_shows Xor ls rs x v fits = xor_split ls rs x v
split_shows Xnor ls rs x v fits = not_shows (xor_of (ls ++ x ∷ rs)) (xor_of (ls ++ v ∷ rs)) ∙ xor_split ls rs x v
split_shows Not ls rs x v fits = not_shows (only_of (ls ++ x ∷ rs)) (only_of (ls ++ v ∷ rs)) ∙ only_split ls rs x v fits
split_shows Buf ls rs x v fits = only_split ls rs x v fits

-- a changed operand shows where no other stands in the way
pub branch_mask : (kind : GateKind) (xs : List Tri) (i : ℕ) (v : Tri) → IsGateOperandCount kind (length xs) → i < length xs
    → are_opposite (gate_value kind xs) (gate_value kind (set xs i v)) ≡ (are_opposite (value_at xs i) v && senses kind xs i)
branch_mask kind xs i v fits lt =
    let x = value_at xs i in
    let ls = take i xs in
    let rs = drop (suc i) xs in
    let own : xs ≡ ls ++ x ∷ rs = sym (set-get_or xs i Unknown) ∙ set_split xs i x lt in
    let total : count_by (in_the_way kind) xs ≡ count_by (in_the_way kind) (ls ++ rs) + cond (in_the_way kind x) 1 0 = ap (count_by (in_the_way kind)) own ∙ count_out (in_the_way kind) ls rs x in
    let fits' : IsGateOperandCount kind (length (ls ++ x ∷ rs)) = subst (λ (n : ℕ). IsGateOperandCount kind n) (ap length own) fits in
    ap (λ (ys : List Tri). are_opposite (gate_value kind ys) (gate_value kind (set xs i v))) own
    ∙ ap (λ (ys : List Tri). are_opposite (gate_value kind (ls ++ x ∷ rs)) (gate_value kind ys)) (set_split xs i v lt)
    ∙ split_shows kind ls rs x v fits'
    ∙ ap (λ (b : Bool). are_opposite x v && b) (one_free (count_by (in_the_way kind) (ls ++ rs)) (in_the_way kind x) ∙ ap (λ (n : ℕ). eqb n 0 || (eqb n 1 && in_the_way kind x)) (sym total))

plus_zero : (n : ℕ) → n + 0 ≡ n
plus_zero n = omega arith

-- the two rows that one pass over the operands keeps: none in the way so far, and one
pub none_more : (p : Tri → Bool) (xs : List Tri) (x : Tri) → eqb (count_by p (xs ++ x ∷ [])) 0 ≡ (eqb (count_by p xs) 0 && not (p x))
none_more p xs x = rw (sum_by-append (λ (y : Tri). cond (p y) 1 0) xs (x ∷ []), sum_by-cons (λ (y : Tri). cond (p y) 1 0) x [], plus_zero (cond (p x) 1 0)) (go (count_by p xs) (p x))
  where
    go : (n : ℕ) (b : Bool) → eqb (n + cond b 1 0) 0 ≡ (eqb n 0 && not b)
    go n true = ne_eqb (n + 1) 0 (λ e. omega arith) ∙ sym (elim (cases_Bool (eqb n 0)) [ inl is ↦ rw is refl | inr other ↦ rw other refl ])
    go n false =
        let e : n + 0 ≡ n = omega arith in
        rw e (and_true (eqb n 0))

pub one_more : (p : Tri → Bool) (xs : List Tri) (x : Tri) → eqb (count_by p (xs ++ x ∷ [])) 1 ≡ ((eqb (count_by p xs) 1 && not (p x)) || (eqb (count_by p xs) 0 && p x))
one_more p xs x = rw (sum_by-append (λ (y : Tri). cond (p y) 1 0) xs (x ∷ []), sum_by-cons (λ (y : Tri). cond (p y) 1 0) x [], plus_zero (cond (p x) 1 0)) (go (count_by p xs) (p x))
  where
    go : (n : ℕ) (b : Bool) → eqb (n + cond b 1 0) 1 ≡ ((eqb n 1 && not b) || (eqb n 0 && b))
    go n true = elim (cases_eq n 0) [
      | inl is ↦ rw (eq-eqb (n + 1) 1 (omega arith), eq-eqb n 0 is, ne_eqb n 1 (λ e. omega arith)) refl
      | inr other ↦ rw (ne_eqb (n + 1) 1 (λ e. other (omega arith)), ne_eqb n 0 other) (elim (cases_Bool (eqb n 1)) [ inl is ↦ rw is refl | inr not_one ↦ rw not_one refl ])
    ]
    go n false =
        let e : n + 0 ≡ n = omega arith in
        rw e (elim (cases_Bool (eqb n 1)) [ inl is ↦ rw is refl | inr not_one ↦ rw not_one (elim (cases_Bool (eqb n 0)) [ inl z ↦ rw z refl | inr nz ↦ rw nz refl ]) ])

-- an X that alone is in the way makes the gate X
is_one_only : (x : Tri) → is_one x ≡ true → x ≡ One
is_one_only Zero e = absurd cc
is_one_only One e = refl
is_one_only Unknown e = absurd cc

is_zero_only : (x : Tri) → is_zero x ≡ true → x ≡ Zero
is_zero_only Zero e = refl
is_zero_only One e = absurd cc
is_zero_only Unknown e = absurd cc

xor_unknown : (o : Tri) → tri_xor o Unknown ≡ Unknown
xor_unknown Zero = refl
xor_unknown One = refl
xor_unknown Unknown = refl

only_unknown : (ls rs : List Tri) → length (ls ++ Unknown ∷ rs) ≡ 1 → only_of (ls ++ Unknown ∷ rs) ≡ Unknown
only_unknown [] rs one = refl
only_unknown (l ∷ ls) rs one = absurd (omega (arith, length-append ls (Unknown ∷ rs)))

and_unknown : (ls rs : List Tri) → eqb (count_by (λ y. not (is_one y)) (ls ++ rs)) 0 ≡ true → and_of (ls ++ Unknown ∷ rs) ≡ Unknown
and_unknown ls rs free = and_out ls rs Unknown ∙ ap (λ (o : Tri). tri_and o Unknown) (is_one_only (and_of (ls ++ rs)) (one_of_and (ls ++ rs) ∙ all_counted is_one (ls ++ rs) ∙ free))

or_unknown : (ls rs : List Tri) → eqb (count_by (λ y. not (is_zero y)) (ls ++ rs)) 0 ≡ true → or_of (ls ++ Unknown ∷ rs) ≡ Unknown
or_unknown ls rs free = or_out ls rs Unknown ∙ ap (λ (o : Tri). tri_or o Unknown) (is_zero_only (or_of (ls ++ rs)) (zero_of_or (ls ++ rs) ∙ all_counted is_zero (ls ++ rs) ∙ free))

split_unknown : (kind : GateKind) (ls rs : List Tri) → IsGateOperandCount kind (length (ls ++ Unknown ∷ rs)) → eqb (count_by (in_the_way kind) (ls ++ rs)) 0 ≡ true → gate_value kind (ls ++ Unknown ∷ rs) ≡ Unknown
split_unknown And ls rs fits free = and_unknown ls rs free
split_unknown Nand ls rs fits free = ap tri_not (and_unknown ls rs free)
split_unknown Or ls rs fits free = or_unknown ls rs free
split_unknown Nor ls rs fits free = ap tri_not (or_unknown ls rs free)
split_unknown Xor ls rs fits free = xor_out ls rs Unknown ∙ xor_unknown (xor_of (ls ++ rs))
split_unknown Xnor ls rs fits free = ap tri_not (xor_out ls rs Unknown ∙ xor_unknown (xor_of (ls ++ rs)))
split_unknown Not ls rs fits free = ap tri_not (only_unknown ls rs fits)
split_unknown Buf ls rs fits free = only_unknown ls rs fits

pub senses_unknown : (kind : GateKind) (xs : List Tri) (i : ℕ) → IsGateOperandCount kind (length xs) → i < length xs → value_at xs i ≡ Unknown → senses kind xs i ≡ true → gate_value kind xs ≡ Unknown
senses_unknown kind xs i fits lt is sensed =
    let ls = take i xs in
    let rs = drop (suc i) xs in
    let own : xs ≡ ls ++ Unknown ∷ rs = sym (set-get_or xs i Unknown) ∙ set_split xs i (value_at xs i) lt ∙ ap (λ (x : Tri). ls ++ x ∷ rs) is in
    let total : count_by (in_the_way kind) xs ≡ count_by (in_the_way kind) (ls ++ rs) + cond (in_the_way kind Unknown) 1 0 = ap (count_by (in_the_way kind)) own ∙ count_out (in_the_way kind) ls rs Unknown in
    let way : in_the_way kind (value_at xs i) ≡ in_the_way kind Unknown = ap (in_the_way kind) is in
    let fits' : IsGateOperandCount kind (length (ls ++ Unknown ∷ rs)) = subst (λ (n : ℕ). IsGateOperandCount kind n) (ap length own) fits in
    let free : eqb (count_by (in_the_way kind) (ls ++ rs)) 0 ≡ true = one_free (count_by (in_the_way kind) (ls ++ rs)) (in_the_way kind Unknown)
    ∙ ap (λ (n : ℕ). eqb n 0 || (eqb n 1 && in_the_way kind Unknown)) (sym total)
    ∙ ap (λ (y : Bool). eqb (count_by (in_the_way kind) xs) 0 || (eqb (count_by (in_the_way kind) xs) 1 && y)) (sym way) ∙ sensed in
    ap (gate_value kind) own ∙ split_unknown kind ls rs fits' free
