-- The first line that passes a test, among the lines that are kept and among all.
use Rattle.std.proofs.Common.{◌≡◌, ℕ, zero, suc, Bool, true, false, not, ◌&&◌, ◌||◌, ◌+◌, ◌<◌, List, [], ◌∷◌, length, take, Option, Some, None, option_map, Ok, Err, refl, sym, ap, ◌∙◌, arith}
use Rattle.std.specs.List.{list_any, AllByRecursion}
use Rattle.std.specs.Str.{bytes_eq}
use Rattle.std.specs.Cmp.Lexicographic.{bytes_decides}
use Rattle.std.proofs.lemmas.List.Folds.{list_any-append}
use Rattle.std.proofs.lemmas.List.{length-map, length-take, get_or-take}
use Rattle.scan_model.specs.Words.{has_word}
use Rattle.scan_model.specs.TextFaults.{lowest, fault_from, first_fault, refused_or, or_else}
use Rattle.scan_model.specs.declared.rules.TheConstants.{UNDEFINED_NET}
use Rattle.scan_model.specs.NetlistLines.{Form, form_of, nothing}
use Rattle.scan_model.specs.NetlistRules.{uses_undefined_first, first_rule, second_rule, early_fault, forms_of, form_at, uses_of, used_names, defined_names}
use Rattle.bench_reader.specs.NetlistDrafts.{is_nothing, filled_from, first_line, uses_undefined}
use Rattle.bench_reader.specs.NetUses.{IsUndefined}
use Rattle.text_parts.specs.ReadResults.{Fails}
use Rattle.text_parts.specs.declared.fault.ReadFault.{ReadFault}
use Rattle.text_parts.specs.declared.fault.ReadFault.TheVariants.{Text, NoMemory}

module _ (passes : Form → Bool) (skips : passes nothing ≡ false) where
  is_said : (f : Form) (b : Bool) → is_nothing f ≡ b → passes f ≡ true → is_nothing f ≡ false
  is_said nothing b e h = absurd (let bad : true ≡ false = sym h ∙ skips in cc)
  is_said f b e h = refl

  -- the first faulty line, where a line that passes the test breaks one rule
  pub fault_is_first_line : (rule : ℕ → Option ℕ) (r a : ℕ) (fs : List Form)
      → ((k : ℕ) → k < length fs → ((j : ℕ) → j < k → passes (form_at fs j) ≡ false) → rule (a + k) ≡ lowest ((r, passes (form_at fs k)) ∷ []))
      → fault_from rule a (length fs) ≡ option_map (λ n. (n, r)) (first_line passes (filled_from (a + 1) fs))
  fault_is_first_line rule r a [] is = refl
  fault_is_first_line rule r a (f ∷ fs) is =
      let at : a + 0 ≡ a = omega arith in
      let here : rule a ≡ lowest ((r, passes f) ∷ []) = ap rule (sym at) ∙ is 0 (omega arith) (λ j lt. absurd (omega arith)) in
      go (passes f) refl (is_nothing f) refl here (λ fails. fault_is_first_line rule r (a + 1) fs (λ k lt none.
      let next : (a + 1) + k ≡ a + suc k = omega arith in
      ap rule next ∙ is (suc k) (omega arith) (below fails none)))
    where
      below : passes f ≡ false → {k : ℕ} → ((j : ℕ) → j < k → passes (form_at fs j) ≡ false) → (j : ℕ) → j < suc k → passes (form_at (f ∷ fs) j) ≡ false
      below fails none zero lt = fails
      below fails none (suc j) lt = none j (omega arith)

      go : (b : Bool) → passes f ≡ b → (e : Bool) → is_nothing f ≡ e → rule a ≡ lowest ((r, passes f) ∷ [])
          → (passes f ≡ false → fault_from rule (a + 1) (length fs) ≡ option_map (λ n. (n, r)) (first_line passes (filled_from ((a + 1) + 1) fs)))
          → fault_from rule a (length (f ∷ fs)) ≡ option_map (λ n. (n, r)) (first_line passes (filled_from (a + 1) (f ∷ fs)))
      go true p true e here more = absurd (let said : is_nothing f ≡ false = is_said f true e p in cc)
      go true p false e here more = rw (here, p, e, p) refl
      go false p true e here more = rw (here, p, e) (more p)
      go false p false e here more = rw (here, p, e, p) (more p)

  -- where no line that is kept passes, none does
  pub none_passes : (n : ℕ) (fs : List Form) → first_line passes (filled_from n fs) ≡ None → AllByRecursion (λ f. passes f ≡ false) fs
  none_passes n [] none = tt
  none_passes n (f ∷ fs) none = go (passes f) refl (is_nothing f) refl none (none_passes (n + 1) fs)
    where
      go : (b : Bool) → passes f ≡ b → (e : Bool) → is_nothing f ≡ e → first_line passes (filled_from n (f ∷ fs)) ≡ None
          → (first_line passes (filled_from (n + 1) fs) ≡ None → AllByRecursion (λ g. passes g ≡ false) fs) → AllByRecursion (λ g. passes g ≡ false) (f ∷ fs)
      go true p true e none more = absurd (let said : is_nothing f ≡ false = is_said f true e p in cc)
      go true p false e none more = absurd (let bad = rw (e, p) at none in cc)
      go false p true e none more = (p, more (rw e at none))
      go false p false e none more = (p, more (rw (e, p) at none))

module _ (defined : List (List ℕ)) where
  -- a name that no undefined use has is defined, where it is used
  pub in_uses : (n : List ℕ) (us : List (List ℕ)) → list_any (λ m. not (has_word defined m)) us ≡ false → has_word us n ≡ true → has_word defined n ≡ true
  in_uses n [] none used = absurd cc
  in_uses n (u ∷ us) none used = go (bytes_eq n u) refl (has_word defined u) refl none used (in_uses n us)
    where
      go : (b : Bool) → bytes_eq n u ≡ b → (t : Bool) → has_word defined u ≡ t → list_any (λ m. not (has_word defined m)) (u ∷ us) ≡ false → has_word (u ∷ us) n ≡ true
          → (list_any (λ m. not (has_word defined m)) us ≡ false → has_word us n ≡ true → has_word defined n ≡ true) → has_word defined n ≡ true
      go b e false t none used more = absurd (let h : not (has_word defined u) || list_any (λ m. not (has_word defined m)) us ≡ true = rw t refl in cc)
      go true e true t none used more = let same : n ≡ u = (bytes_decides n u).0 e in rw same t
      go false e true t none used more = more (rw t at none) (rw e at used)

  -- what lines without an undefined use use is defined
  used_is_defined : (n : List ℕ) (gs : List Form) → ((k : ℕ) → k < length gs → uses_undefined defined (form_at gs k) ≡ false) → has_word (used_names gs) n ≡ true → has_word defined n ≡ true
  used_is_defined n [] none used = absurd cc
  used_is_defined n (g ∷ gs) none used =
      go (has_word (uses_of g) n) refl (used_is_defined n gs (λ k lt. none (suc k) (omega arith)))
    where
      go : (b : Bool) → has_word (uses_of g) n ≡ b → (has_word (used_names gs) n ≡ true → has_word defined n ≡ true) → has_word defined n ≡ true
      go true e more = in_uses n (uses_of g) (none 0 (omega arith)) e
      go false e more = more (rw e at (sym (list_any-append (bytes_eq n) (uses_of g) (used_names gs)) ∙ used))

  -- where all that was used before is defined, an undefined use is a first use
  first_uses : (earlier us : List (List ℕ)) → ((n : List ℕ) → has_word earlier n ≡ true → has_word defined n ≡ true)
      → list_any (λ n. not (has_word defined n) && not (has_word earlier n)) us ≡ list_any (λ n. not (has_word defined n)) us
  first_uses earlier [] known = refl
  first_uses earlier (u ∷ us) known =
      ap (λ b. b || list_any (λ n. not (has_word defined n) && not (has_word earlier n)) us) (go (has_word defined u) refl (has_word earlier u) refl)
      ∙ ap (λ b. not (has_word defined u) || b) (first_uses earlier us known)
    where
      go : (t : Bool) → has_word defined u ≡ t → (b : Bool) → has_word earlier u ≡ b → (not (has_word defined u) && not (has_word earlier u)) ≡ not (has_word defined u)
      go true t b e = rw t refl
      go false t true e = absurd (let h : has_word defined u ≡ true = known u e in cc)
      go false t false e = rw (t, e) refl

-- where no earlier line has an undefined use, the line's are first uses
first_at : (fs : List Form) (k : ℕ) → ((j : ℕ) → j < k → uses_undefined (defined_names fs) (form_at fs j) ≡ false) → uses_undefined_first fs k ≡ uses_undefined (defined_names fs) (form_at fs k)
first_at fs k none =
    first_uses (defined_names fs) (used_names (take k fs)) (uses_of (form_at fs k))
    (λ n used. used_is_defined (defined_names fs) n (take k fs)
    (λ j lt. let lt' : j < k = omega (arith, length-take k fs) in rw (get_or-take k fs j nothing lt') (none j lt'))
    used)

pub not_refused : {X : Type 0} (f : Option (ℕ × ℕ)) (x y : X) → refused_or f x ≡ Ok y → f ≡ None
not_refused None x y e = refl
not_refused (Some f) x y e = absurd cc

-- both rounds, where the first has no fault
pub two_rounds : {X : Type 0} (ls : List (List ℕ)) (x y : X) → refused_or (first_fault (first_rule ls) (length ls)) x ≡ Ok y
    → early_fault ls ≡ option_map (λ n. (n, 7)) (first_line (uses_undefined (defined_names (forms_of ls))) (filled_from 1 (forms_of ls)))
two_rounds ls x y first =
    let count : length (forms_of ls) ≡ length ls = length-map ls form_of in
    ap (λ f. or_else f (first_fault (second_rule ls) (length ls))) (not_refused (first_fault (first_rule ls) (length ls)) x y first)
    ∙ ap (fault_from (second_rule ls) 0) (sym count)
    ∙ fault_is_first_line (uses_undefined (defined_names (forms_of ls))) refl (second_rule ls) 7 0 (forms_of ls)
    (λ k lt none. let at : 0 + k ≡ k = omega arith in ap (second_rule ls) at ∙ ap (λ b. lowest ((UNDEFINED_NET, b) ∷ [])) (first_at (forms_of ls) k none))

-- the fault of a line that uses an undefined net is one of both
pub second_fails : {Y : Type 0} (e : ReadFault) (early : Option (ℕ × ℕ)) (o : Option ℕ) (y : Y) → early ≡ option_map (λ n. (n, 7)) o → IsUndefined e o → Fails e (refused_or early y)
second_fails NoMemory early o y is fault = tt
second_fails (Text f) early o y is fault =
    let seven : 7 ≡ f.rule = sym fault.1 in
    ap (λ g. refused_or g y) (is ∙ ap (option_map (λ n. (n, 7))) fault.0) ∙ ap (λ r. Err (f.line, r)) seven
