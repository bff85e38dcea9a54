-- By how many of the first pins a net is read, one pin later.
use Rattle.std.proofs.Common.{◌≡◌, ◌≢◌, ℕ, ◌+◌, ◌<◌, List, length, get_or, set, sym, ap, subst, ◌∙◌, inl, inr, arith}
use Rattle.std.proofs.lemmas.Bool.{cases_eq}
use Rattle.std.proofs.lemmas.List.{get_or-set_same, get_or-set_other, length-set}
use Rattle.scan_model.specs.Netlist.{Netlist, pin_at}
use Rattle.fault_effects.specs.declared.readers.Reads.{Reads}
use Rattle.fault_effects.specs.declared.readers.Reads.TheVariants.{Never, Once}
use Rattle.fault_effects.specs.Readers.{AreReadsUpTo, IsOnlyPin}

module _ (c : Netlist) (k : ℕ) (reads : List Reads) (r : Reads) (upto : AreReadsUpTo c k reads) (within : (pin_at c k).net < length reads) (some : r ≡ Never → ⊥)
    (first : (p : ℕ) → r ≡ Once p → (get_or reads (pin_at c k).net Never ≡ Never) × (p ≡ k)) where
  abbrev n : ℕ
  n = (pin_at c k).net

  here : get_or (set reads n r) n Never ≡ r
  here = get_or-set_same reads n r Never within

  other : (m : ℕ) → m ≢ n → get_or (set reads n r) m Never ≡ get_or reads m Never
  other m differs = get_or-set_other reads n m r Never differs

  -- a pin before this one, if it reads another net than this one
  before : (m q : ℕ) → m ≢ n → q < k + 1 → (pin_at c q).net ≡ m → q < k
  before m q differs lt at = elim (cases_eq q k) [
    | inl same ↦ absurd (differs (sym at ∙ ap (λ (p : ℕ). (pin_at c p).net) same))
    | inr earlier ↦ omega (arith, earlier)
  ]

  never : (m q : ℕ) → m < length reads → get_or (set reads n r) m Never ≡ Never → q < k + 1 → (pin_at c q).net ≡ m → ⊥
  never m q lt none below at = elim (cases_eq m n) [
    | inl same ↦ some (sym here ∙ ap (λ (x : ℕ). get_or (set reads n r) x Never) (sym same) ∙ none)
    | inr differs ↦ upto.never m q lt (sym (other m differs) ∙ none) (before m q differs below at) at
  ]

  this_one : (p : ℕ) → r ≡ Once p → IsOnlyPin c (k + 1) n p
  this_one p is =
      let told = first p is in
      record {
        there = omega (arith, told.1);
        net = ap (λ (x : ℕ). (pin_at c x).net) told.1;
        one = λ q lt at. elim (cases_eq q k) [
          | inl same ↦ same ∙ sym told.1
          | inr earlier ↦ absurd (upto.never n q within told.0 (omega (arith, earlier)) at)
        ];
      }

  once : (m p : ℕ) → get_or (set reads n r) m Never ≡ Once p → IsOnlyPin c (k + 1) m p
  once m p is = elim (cases_eq m n) [
    | inl same ↦ let Only : ℕ → Type 0 = λ x. IsOnlyPin c (k + 1) x p in subst Only (sym same) (this_one p (sym here ∙ ap (λ (x : ℕ). get_or (set reads n r) x Never) (sym same) ∙ is))
    | inr differs ↦
        let old = upto.once m p (sym (other m differs) ∙ is) in
        record {
          there = omega (arith, old.there);
          net = old.net;
          one = λ q lt at. old.one q (before m q differs lt at) at;
        }
  ]

  pub reads_next : AreReadsUpTo c (k + 1) (set reads n r)
  reads_next = record {
    count = length-set reads n r ∙ upto.count;
    never = λ m q lt none below at. never m q (omega (arith, lt, length-set reads n r)) none below at;
    once = once;
  }
