-- Marks of faults that can explain a bit of each of two kinds, fault by fault.
use Rattle.std.proofs.Common.{◌≡◌, ℕ, ◌+◌, ◌<◌, Bool, true, false, List, length, get_or, set, sym, ap, ◌∙◌, inl, inr, arith}
use Rattle.std.proofs.lemmas.Bool.{cases_eq, both_ways}
use Rattle.std.proofs.lemmas.List.{get_or-set_same, get_or-set_other}
use Rattle.scan_model.specs.Marks.{is_marked}
use Rattle.scan_model.specs.ScanTest.{ScanTest}
use Rattle.scan_model.specs.Universe.{universe}
use Rattle.back_trace.specs.SuspectMarks.{no_fault}
use Rattle.back_trace.specs.CommonPatterns.{explains_both, AreBothMarked}

module _ (t : ScanTest) (b : ℕ) (ones others : List (List ℕ)) where
  pub both_begin : (marks : List Bool) → AreBothMarked t b ones others 0 marks marks
  both_begin marks = record {
    kept = λ p e. e;
    all = λ p j lp lj e. absurd (omega arith);
  }

  module _ (i : ℕ) (old marks : List Bool) (so_far : AreBothMarked t b ones others i old marks) where
    -- one that has no mark yet
    pub both_more : (answer : Bool) → i < length marks → is_marked marks i ≡ false → ((j : ℕ) → j < 512 → explains_both t (get_or (universe t) i no_fault) b ones others j ≡ true → answer ≡ true) → AreBothMarked t b ones others (i + 1) old (set marks i answer)
    both_more answer inside blank told =
        let same : is_marked (set marks i answer) i ≡ answer = get_or-set_same marks i answer false inside in
        let keeps : (p : ℕ) → is_marked marks p ≡ true → is_marked (set marks i answer) p ≡ true = λ p e. elim (cases_eq p i) [
          | inl at ↦ absurd (both_ways (is_marked marks i) blank (ap (is_marked marks) (sym at) ∙ e))
          | inr other ↦ get_or-set_other marks i p answer false other ∙ e
        ] in
        record {
          kept = λ p e. keeps p (so_far.kept p e);
          all = λ p j lp lj e. elim (cases_eq p i) [
            | inl at ↦ ap (is_marked (set marks i answer)) at ∙ same ∙ told j lj (ap (λ (q : ℕ). explains_both t (get_or (universe t) q no_fault) b ones others j) (sym at) ∙ e)
            | inr other ↦ keeps p (so_far.all p j (omega (arith, other)) lj e)
          ];
        }

    -- one that has
    pub both_kept : is_marked marks i ≡ true → AreBothMarked t b ones others (i + 1) old marks
    both_kept marked = record {
      kept = so_far.kept;
      all = λ p j lp lj e. elim (cases_eq p i) [
        | inl at ↦ ap (is_marked marks) at ∙ marked
        | inr other ↦ so_far.all p j (omega (arith, other)) lj e
      ];
    }
