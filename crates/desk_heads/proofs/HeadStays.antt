-- The end of a head stays where more bytes come, and so does the head.
use Rattle.std.proofs.Common.{◌≡◌, ℕ, suc, ◌≤◌, Bool, true, false, ◌==◌, ◌&&◌, if◌then◌else◌, List, [], ◌∷◌, ◌++◌, length, Option, Some, None, refl, sym, ◌∙◌, arith}
use Rattle.std.specs.Option.{option_map}
use Rattle.desk_heads.specs.Heads.{blank_length, starts_with_lf, or_else, head_length}

blank_stays : (bytes more : List ℕ) (n : ℕ) → blank_length bytes ≡ Some n → blank_length (bytes ++ more) ≡ Some n
blank_stays [] more n e = absurd (cc)
blank_stays (x ∷ []) more n e = by (x == 10) (x == 13) refl refl
  where
    by : (lf cr : Bool) → (x == 10) ≡ lf → (x == 13) ≡ cr → blank_length ((x ∷ []) ++ more) ≡ Some n
    by true cr lf_is cr_is = rw lf_is (rw lf_is at e)
    by false true lf_is cr_is = let no : None ≡ Some n = rw (lf_is, cr_is) at e in absurd (cc)
    by false false lf_is cr_is = let no : None ≡ Some n = rw (lf_is, cr_is) at e in absurd (cc)
blank_stays (x ∷ y ∷ bytes) more n e = e

alone : (x : ℕ) → head_length (x ∷ []) ≡ None
unfolding head_length
alone x = by (x == 10)
  where
    by : (lf : Bool) → option_map suc (or_else (if lf then None else None) None) ≡ None
    by true = refl
    by false = refl

-- where the head ends later, no empty line can become one here
none_stays : (bytes more : List ℕ) (n : ℕ) → blank_length bytes ≡ None → head_length bytes ≡ Some n → blank_length (bytes ++ more) ≡ None
unfolding head_length
none_stays [] more n none found = absurd (cc)
none_stays (x ∷ []) more n none found = let no : None ≡ Some n = sym (alone x) ∙ found in absurd (cc)
none_stays (x ∷ y ∷ bytes) more n none found = none

pub end_stays : (bytes more : List ℕ) (n : ℕ) → head_length bytes ≡ Some n → head_length (bytes ++ more) ≡ Some n
unfolding head_length
end_stays [] more n found = absurd (cc)
end_stays (x ∷ bytes) more n found = by (x == 10) (head_length bytes) refl found (end_stays bytes more)
  where
    by : (lf : Bool) (later : Option ℕ) → head_length bytes ≡ later → option_map suc (or_else (if lf then blank_length bytes else None) (head_length bytes)) ≡ Some n
        → ((m : ℕ) → head_length bytes ≡ Some m → head_length (bytes ++ more) ≡ Some m)
        → option_map suc (or_else (if lf then blank_length (bytes ++ more) else None) (head_length (bytes ++ more))) ≡ Some n
    by false (Some m) later e rest = rw (rest m later) (rw later at e)
    by false None later e rest = let no : None ≡ Some n = rw later at e in absurd (cc)
    by true later later_is e rest = at_lf (blank_length bytes) later refl later_is
      where
        at_lf : (blank later : Option ℕ) → blank_length bytes ≡ blank → head_length bytes ≡ later
            → option_map suc (or_else (blank_length (bytes ++ more)) (head_length (bytes ++ more))) ≡ Some n
        at_lf (Some k) later blank_is later_is = rw (blank_stays bytes more k blank_is) (rw blank_is at e)
        at_lf None (Some m) blank_is later_is = rw (none_stays bytes more m blank_is later_is, rest m later_is) (rw (blank_is, later_is) at e)
        at_lf None None blank_is later_is = let no : None ≡ Some n = rw (blank_is, later_is) at e in absurd (cc)

-- a head ends within the bytes
pub end_within : (bytes : List ℕ) (n : ℕ) → head_length bytes ≡ Some n → n ≤ length bytes
unfolding head_length
end_within [] n found = absurd (cc)
end_within (x ∷ bytes) n found = by (x == 10) (head_length bytes) refl found (end_within bytes)
  where
    blank_within : (xs : List ℕ) (m : ℕ) → blank_length xs ≡ Some m → m ≤ length xs
    blank_within [] m e = absurd (cc)
    blank_within (y ∷ ys) m e = by_first (y == 10) e
      where
        after_cr : (zs : List ℕ) (cr : Bool) → (if cr && starts_with_lf zs then Some 2 else None) ≡ Some m → m ≤ length (y ∷ zs)
        after_cr zs false e = absurd (cc)
        after_cr [] true e = absurd (cc)
        after_cr (z ∷ zs) true e = by_lf (z == 10) e
          where
            by_lf : (lf : Bool) → (if lf then Some 2 else None) ≡ Some m → m ≤ length (y ∷ z ∷ zs)
            by_lf true e = let two : 2 ≡ m = cc in omega arith
            by_lf false e = absurd (cc)

        by_first : (lf : Bool) → (if lf then Some 1 else (if (y == 13) && starts_with_lf ys then Some 2 else None)) ≡ Some m → m ≤ length (y ∷ ys)
        by_first true e = let one : 1 ≡ m = cc in omega arith
        by_first false e = after_cr ys (y == 13) e

    by : (lf : Bool) (later : Option ℕ) → head_length bytes ≡ later → option_map suc (or_else (if lf then blank_length bytes else None) (head_length bytes)) ≡ Some n
        → ((m : ℕ) → head_length bytes ≡ Some m → m ≤ length bytes) → n ≤ length (x ∷ bytes)
    by false (Some m) later e rest = let k : Some (suc m) ≡ Some n = rw later at e in let j : suc m ≡ n = cc in omega (arith, rest m later)
    by false None later e rest = let no : None ≡ Some n = rw later at e in absurd (cc)
    by true later later_is e rest = at_lf (blank_length bytes) later refl later_is
      where
        at_lf : (blank later : Option ℕ) → blank_length bytes ≡ blank → head_length bytes ≡ later → n ≤ length (x ∷ bytes)
        at_lf (Some k) later blank_is later_is = let e2 : Some (suc k) ≡ Some n = rw blank_is at e in let j : suc k ≡ n = cc in omega (arith, blank_within bytes k blank_is)
        at_lf None (Some m) blank_is later_is = let e2 : Some (suc m) ≡ Some n = rw (blank_is, later_is) at e in let j : suc m ≡ n = cc in omega (arith, rest m later_is)
        at_lf None None blank_is later_is = let no : None ≡ Some n = rw (blank_is, later_is) at e in absurd (cc)
