-- The first row that is spoiled.
use Rattle.std.proofs.Common.{◌≡◌, ℕ, zero, suc, ◌+◌, ◌<◌, ◌≤◌, Bool, true, false, ◌&&◌, nat_lt, List, [], ◌∷◌, ◌++◌, length, take, drop, OnOk, IfErr, IsErrOf, is_some, Result, Ok, Err, Option, Some, None, refl, sym, ap, ◌∙◌, subst, append_assoc, rules, arith}
use Rattle.std.specs.Prelude.{slice_get, if◌then◌else◌}
use Rattle.std.proofs.lemmas.List.{append-nil, length-append, take_more}
use Rattle.std.proofs.lemmas.Option.{slice_get_within, get_or_from_slice_get}
use Rattle.desk_outside.specs.declared.deed.Deed.{Deed}
use Rattle.book.specs.declared.opening.StartFault.{StartFault}
use Rattle.book.specs.declared.opening.StartFault.TheVariants as start_fault
use Rattle.book.specs.LegalDeeds.{fits, each_fits, is_legal, spoiled_after, spoiled_row}
use Rattle.book.proofs.LegalLists.{both}

lt_true : {a b : ℕ} → a < b → nat_lt a b ≡ true
lt_true lt = search (rules, lt)

both_hold : {a b : Bool} → a ≡ true → b ≡ true → (a && b) ≡ true
both_hold {b = b} p q = ap (λ (x : Bool). x && b) p ∙ q

-- rows that fit and stand within the limit
pub none_spoiled : (limit : ℕ) (before rows : List Deed) → each_fits before rows ≡ true → length before + length rows ≤ limit → spoiled_after limit before rows ≡ None
none_spoiled limit before [] fit few = refl
none_spoiled limit before (row ∷ rows) fit few =
    let parts = both (fits before row.what) (each_fits (before ++ row ∷ []) rows) fit in
    let first = parts.0 in
    let long : length (before ++ row ∷ []) ≡ length before + 1 = length-append before (row ∷ []) in
    let rest : spoiled_after limit (before ++ row ∷ []) rows ≡ None = none_spoiled limit (before ++ row ∷ []) rows parts.1 (omega (arith, long)) in
    let room : nat_lt (length before) limit ≡ true = lt_true (omega arith) in
    ap (λ (b : Bool). if b then spoiled_after limit (before ++ row ∷ []) rows else Some (length before)) (both_hold room first) ∙ rest

-- the next row doesn't, behind some that do
pub spoiled_at : (limit : ℕ) (before rows : List Deed) (row : Deed) (more : List Deed) → each_fits before rows ≡ true → length before + length rows ≤ limit
    → (nat_lt (length before + length rows) limit && fits (before ++ rows) row.what) ≡ false → spoiled_after limit before (rows ++ row ∷ more) ≡ Some (length before + length rows)
spoiled_at limit before [] row more fit few bad =
    let nil : before ++ [] ≡ before = append-nil before in
    let now : (nat_lt (length before) limit && fits before row.what) ≡ false = subst (λ (b : List Deed). (nat_lt (length before) limit && fits b row.what) ≡ false) nil (zero_more (length before) (λ n. nat_lt n limit && fits (before ++ []) row.what) bad) in
    spoils limit before row more now
  where
    zero_more : (n : ℕ) (f : ℕ → Bool) → f (n + 0) ≡ false → f n ≡ false
    zero_more n f h = let same : n + 0 ≡ n = omega arith in subst (λ (k : ℕ). f k ≡ false) same h

    spoils : (limit : ℕ) (before : List Deed) (row : Deed) (more : List Deed) → (nat_lt (length before) limit && fits before row.what) ≡ false → spoiled_after limit before (row ∷ more) ≡ Some (length before + 0)
    spoils limit before row more now = let same : length before + 0 ≡ length before = omega arith in ap (λ (b : Bool). if b then spoiled_after limit (before ++ row ∷ []) more else Some (length before)) now ∙ ap Some (sym same)
spoiled_at limit before (r ∷ rows) row more fit few bad =
    let parts = both (fits before r.what) (each_fits (before ++ r ∷ []) rows) fit in
    let first = parts.0 in
    let long : length (before ++ r ∷ []) ≡ length before + 1 = length-append before (r ∷ []) in
    let count : length (before ++ r ∷ []) + length rows ≡ length before + length (r ∷ rows) = omega (arith, long) in
    let joined : (before ++ r ∷ []) ++ rows ≡ before ++ r ∷ rows = append_assoc before (r ∷ []) rows in
    let room : nat_lt (length before) limit ≡ true = lt_true (omega arith) in
    let rest : spoiled_after limit (before ++ r ∷ []) (rows ++ row ∷ more) ≡ Some (length (before ++ r ∷ []) + length rows) =
    spoiled_at limit (before ++ r ∷ []) rows row more parts.1 (omega (arith, long))
    (subst (λ (n : ℕ). (nat_lt n limit && fits ((before ++ r ∷ []) ++ rows) row.what) ≡ false) (sym count) (subst (λ (b : List Deed). (nat_lt (length before + length (r ∷ rows)) limit && fits b row.what) ≡ false) (sym joined) bad)) in
    ap (λ (b : Bool). if b then spoiled_after limit (before ++ r ∷ []) (rows ++ row ∷ more) else Some (length before)) (both_hold room first) ∙ rest ∙ ap Some count

-- ---- the rows of a keeper

cut_at : (rows : List Deed) (i : ℕ) (row : Deed) → slice_get rows i ≡ Some row → (i < length rows) × (rows ≡ take i rows ++ row ∷ drop (suc i) rows)
cut_at [] i row is = absurd cc
cut_at (r ∷ rows) zero row is = (grind arith, ap (λ (x : Deed). x ∷ rows) (first r row is))
  where
    first : (r row : Deed) → Some r ≡ Some row → r ≡ row
    first r row e = cc
cut_at (r ∷ rows) (suc i) row is =
    let rest = cut_at rows i row is in
    let within = rest.0 in
    (grind (arith, within), ap (λ (xs : List Deed). r ∷ xs) rest.1)

pub row_spoiled : (limit : ℕ) (rows kept : List Deed) (i : ℕ) (row : Deed) → each_fits [] kept ≡ true → kept ≡ take i rows → length kept ≡ i → i ≤ limit → slice_get rows i ≡ Some row
    → (nat_lt i limit && fits kept row.what) ≡ false → spoiled_row limit rows ≡ Some i
row_spoiled limit rows kept i row fit are count few is bad =
    let cut = cut_at rows i row is in
    let spoiled : spoiled_after limit [] (kept ++ row ∷ drop (suc i) rows) ≡ Some (0 + length kept) =
    spoiled_at limit [] kept row (drop (suc i) rows) fit (omega arith) (subst (λ (n : ℕ). (nat_lt n limit && fits kept row.what) ≡ false) (omega arith) bad) in
    ap (spoiled_after limit []) (cut.1 ∙ ap (λ (ks : List Deed). ks ++ row ∷ drop (suc i) rows) (sym are)) ∙ spoiled ∙ ap Some (omega arith)

pub kept_more : (rows kept : List Deed) (i : ℕ) (row : Deed) → kept ≡ take i rows → slice_get rows i ≡ Some row → kept ++ row ∷ [] ≡ take (i + 1) rows
kept_more rows kept i row are is =
    let within = slice_get_within rows i row is in
    ap (λ (ks : List Deed). ks ++ row ∷ []) are ∙ ap (λ (r : Deed). take i rows ++ r ∷ []) (sym (get_or_from_slice_get rows i row row is)) ∙ sym (take_more rows i row within)

pub kept_all : (rows kept : List Deed) (i : ℕ) → kept ≡ take i rows → slice_get rows i ≡ None → kept ≡ rows
kept_all rows kept i are is = are ∙ all rows i is
  where
    all : (rows : List Deed) (i : ℕ) → slice_get rows i ≡ None → take i rows ≡ rows
    all [] zero is = refl
    all [] (suc i) is = refl
    all (r ∷ rows) zero is = absurd cc
    all (r ∷ rows) (suc i) is = ap (λ (xs : List Deed). r ∷ xs) (all rows i is)

pub opened_legal : (limit : ℕ) (rows kept : List Deed) → each_fits [] kept ≡ true → length kept ≤ limit → kept ≡ rows → spoiled_row limit rows ≡ None
opened_legal limit rows kept fit few are = subst (λ (rs : List Deed). spoiled_row limit rs ≡ None) are (none_spoiled limit [] kept fit (omega arith))

pub no_fit : (a b : Bool) → b ≡ false → (a && b) ≡ false
no_fit true b no_b = no_b
no_fit false b no_b = refl

pub on_ok_then : {E : Type 0} (r : Result (Unit {0}) E) (P Q : Type 0) → OnOk r P → (P → Q) → OnOk r Q
on_ok_then (Ok done) P Q holds goes_on = goes_on holds
on_ok_then (Err e) P Q holds goes_on = tt

abbrev AsErr : StartFault → Result (Unit {0}) StartFault
AsErr fault = Err fault

-- a row past the end, and what it holds
pub past_end : (r : Result (Unit {0}) StartFault) (end row : ℕ) (o : Option Deed) → IfErr r (λ fault. (fault ≡ start_fault.Spoiled end) × (is_some o ≡ true)) → IsErrOf r (start_fault.Spoiled row) → (end ≡ row) × ((d : Deed) × (o ≡ Some d))
past_end (Ok done) end row o is err = absurd (grind arith)
past_end (Err fault) end row o is err = (inside (sym is.0 ∙ unwrapped err), there o is.1)
  where
    unwrapped : {e f : StartFault} → AsErr e ≡ AsErr f → e ≡ f
    unwrapped h = cc

    inside : {m n : ℕ} → start_fault.Spoiled m ≡ start_fault.Spoiled n → m ≡ n
    inside e = cc

    there : (o : Option Deed) → is_some o ≡ true → (d : Deed) × (o ≡ Some d)
    there (Some d) some = (d, refl)
    there None some = absurd (grind arith)

pub no_room : {limit i : ℕ} (b : Bool) → limit ≤ i → (nat_lt i limit && b) ≡ false
no_room b full = ap (λ (x : Bool). x && b) (not_lt full)
  where
    not_lt : {m n : ℕ} → m ≤ n → nat_lt n m ≡ false
    not_lt h = search (rules, h)
