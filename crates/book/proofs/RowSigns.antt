-- A row that signs a report.
use Rattle.std.proofs.Common.{◌≡◌, ℕ, ◌<◌, true, false, ◌&&◌, nat_le, List, [], ◌∷◌, length, take, All, Option, Some, None, refl, sym, ap, ◌∙◌, subst, arith}
use Rattle.std.specs.List.{IsDistinct, take-map}
use Rattle.std.specs.Str.{bytes_eq}
use Rattle.std.proofs.lemmas.List.{length-map}
use Rattle.std.proofs.lemmas.List.Elements.{All-weaker}
use Rattle.sha2.specs.Sha256.{sha256}
use Rattle.desk_outside.specs.declared.deed.Deed.{Deed}
use Rattle.scan_model.specs.ScanTest.{ScanTest}
use Rattle.scan_model.specs.DieReport.{die_report}
use Rattle.diagnosis.specs.Designs.{DesignFacts, ReadLogFacts, IsDesign, IsLogOf}
use Rattle.die_entries.specs.declared.sign.Sign.{Sign as SignOff}
use Rattle.die_entries.specs.Revisions.{IsShowable, SignsReport, revision_report}
use Rattle.book.specs.Deeds.{design_text, design_test, test_of_text, test_of_reading, die_logs, die_signs, report_over, report_at}
use Rattle.book.specs.LegalDeeds.{each_fits}
use Rattle.book.specs.Lookups.{IsFound, IsLogIn, IsDieIn}
use Rattle.book.proofs.Showing.{die_as_named, die_tagged, log_of_design}
use Rattle.book.proofs.Sound.{IsRight, sound}

-- no die without its design
pub none_within : (deeds : List Deed) (d x : List ℕ) (revision : ℕ) → each_fits [] deeds ≡ true → design_text deeds d ≡ None → false ≡ (nat_le 1 revision && nat_le revision (length (die_logs deeds d x)))
none_within deeds d x revision legal none = go (die_logs deeds d x) refl
  where
    outside : (r n : ℕ) → n ≡ 0 → false ≡ (nat_le 1 r && nat_le r n)
    outside r n is = grind arith

    no_name : (text : List ℕ) → design_text deeds d ≡ Some text → false ≡ (nat_le 1 revision && nat_le revision (length (die_logs deeds d x)))
    no_name text some = absurd (let clash : None ≡ Some text = sym none ∙ some in cc)

    go : (logs : List (List ℕ)) → die_logs deeds d x ≡ logs → false ≡ (nat_le 1 revision && nat_le revision (length (die_logs deeds d x)))
    go [] is = outside revision (length (die_logs deeds d x)) (ap length is)
    go (l ∷ ls) is =
        let count : length (die_logs deeds d x) ≡ length (l ∷ ls) = ap length is in
        let named = (sound d x deeds legal).logs.named (omega (arith, count)) in
        no_name named.0 named.1

-- a die of a design that is there, with its logs and sign-offs
pub record IsKept (deeds : List Deed) (d : DesignFacts) (x : List ℕ) (logs : List ReadLogFacts) (signs : List SignOff) : Type 0 where
  pub legal : each_fits [] deeds ≡ true
  pub design : IsDesign d
  pub named : design_text deeds d.name ≡ Some d.text
  pub found : IsDieIn deeds d.name x logs signs

-- by the values that were read
pub is_kept : (deeds : List Deed) (inner d : DesignFacts) (number : ℕ) (name asked x : List ℕ) (logs held : List ReadLogFacts) (signs given : List SignOff) → each_fits [] deeds ≡ true → inner ≡ d → IsDesign inner → name ≡ inner.name
    → IsFound deeds asked number d → IsDieIn deeds name x held given → logs ≡ held → signs ≡ given → IsKept deeds d x logs signs
is_kept deeds inner d number name asked x logs held signs given legal same design of_inner found die are_logs are_signs = record {
  legal = legal;
  design = subst IsDesign same design;
  named = subst (λ (n : List ℕ). design_text deeds n ≡ Some d.text) (sym found.named) found.text;
  found = subst (λ (ss : List SignOff). IsDieIn deeds d.name x logs ss) (sym are_signs)
      (subst (λ (ls : List ReadLogFacts). IsDieIn deeds d.name x ls given) (sym are_logs)
      (die_as_named deeds deeds name d.name x held given refl (of_inner ∙ ap (λ (v : DesignFacts). v.name) same) die));
}

module _ (deeds : List Deed) (d : DesignFacts) (x : List ℕ) (logs : List ReadLogFacts) (signs : List SignOff) (kept : IsKept deeds d x logs signs) where
  pub kept_report : (revision : ℕ) → revision_report d x logs revision ≡ report_at deeds d.name x revision
  kept_report revision =
      let known : design_test deeds d.name ≡ Some d.test = ap test_of_text kept.named ∙ ap test_of_reading kept.design.stands in
      ap (λ (texts : List (List ℕ)). die_report d.test d.name x texts) (sym (take-map (λ (l : ReadLogFacts). l.text) revision logs) ∙ ap (take revision) kept.found.texts)
      ∙ sym (ap (λ (o : Option ScanTest). report_over o d.name x (take revision (die_logs deeds d.name x))) known)

  pub kept_showable : IsShowable d x logs
  kept_showable = record {
    tag = die_tagged deeds d.name x logs signs kept.legal kept.found;
    some = kept.found.some;
    each = All-weaker (IsLogIn deeds d.name x) (IsLogOf d x) (log_of_design deeds d x kept.design kept.named) logs kept.found.each;
    differ = subst (IsDistinct bytes_eq) (sym kept.found.texts) (sound d.name x deeds kept.legal).logs.differ;
  }

  pub kept_signed : All (SignsReport d x logs) signs
  kept_signed =
      subst (All (SignsReport d x logs)) (sym kept.found.sign_offs)
      (All-weaker (IsRight deeds d.name x) (SignsReport d x logs) (λ sign is. is.right ∙ ap sha256 (sym (kept_report sign.revision))) (die_signs deeds d.name x) (sound d.name x deeds kept.legal).signs)

  pub kept_count : length logs ≡ length (die_logs deeds d.name x)
  kept_count = sym (length-map logs (λ (l : ReadLogFacts). l.text)) ∙ ap length kept.found.texts
