-- The logs and sign-offs of a die, as deeds are added.
use Rattle.std.proofs.Common.{◌≡◌, ◌≤◌, ◌∙◌, sym, ap, ℕ, List, [], ◌∷◌, ◌++◌, length, Bool, true, false, not, ◌&&◌, Option, Some, None, refl, arith}
use Rattle.std.specs.Prelude.{if◌then◌else◌, nat_le}
use Rattle.std.specs.List.{list_any}
use Rattle.std.specs.Str.{bytes_eq}
use Rattle.std.specs.Cmp.Lexicographic.{bytes_decides}
use Rattle.std.proofs.lemmas.Bool.Decides.{nat_tests}
use Rattle.std.proofs.lemmas.List.{map_push}
use Rattle.std.proofs.lemmas.List.Elements.{All-weaker, All-push, All-nil}
use Rattle.sha2.specs.Sha256.{sha256}
use Rattle.desk_outside.specs.declared.deed.Deed.{Deed}
use Rattle.scan_model.specs.ScanTest.{ScanTest}
use Rattle.scan_model.specs.Words.{is_tag, has_word}
use Rattle.die_entries.specs.declared.sign.Sign.{Sign as SignOff}
use Rattle.diagnosis.specs.Designs.{DesignFacts, ReadLogFacts, texts_of}
use Rattle.die_entries.specs.Entries.{is_signed_by}
use Rattle.book.specs.Deeds.{design_text, design_test, test_of_text, die_logs, die_signs, report_at}
use Rattle.book.specs.LegalDeeds.{fits, is_log_over}
use Rattle.book.specs.Kinds.{named, design_deed, log_deed, sign_deed}
use Rattle.book.specs.Lookups.{IsLogIn}
use Rattle.book.specs.Changes.{StandsIn}
use Rattle.book.specs.State.{AreOfDie}
use Rattle.book.proofs.Growing.{and_left, and_right, die_logs-same, die_logs-push, die_signs-same, die_signs-push, design_text-other, design_text-same}
use Rattle.book.proofs.NewName.{text_is_new}

-- with the same text of its design, a log stands for the same
StandsIn-moved : (old new : List Deed) (log : ReadLogFacts) → design_text new log.design ≡ design_text old log.design → StandsIn old log → StandsIn new log
StandsIn-moved old new log same stands t e = stands t (ap test_of_text (sym same) ∙ e)

IsLogIn-moved : (old new : List Deed) (d x : List ℕ) → design_text new d ≡ design_text old d → (log : ReadLogFacts) → IsLogIn old d x log → IsLogIn new d x log
IsLogIn-moved old new d x same log was = record {
  of_design = was.of_design;
  of_die = was.of_die;
  stands = StandsIn-moved old new log (ap (design_text new) was.of_design ∙ same ∙ sym (ap (design_text old) was.of_design)) was.stands;
}

AreOfDie-moved : (old new : List Deed) (d x : List ℕ) (logs : List ReadLogFacts) (signs : List SignOff) → design_text new d ≡ design_text old d → die_logs new d x ≡ die_logs old d x
    → die_signs new d x ≡ die_signs old d x → AreOfDie old d x logs signs → AreOfDie new d x logs signs
AreOfDie-moved old new d x logs signs text same_logs same_signs was = record {
  texts = was.texts ∙ sym same_logs;
  sign_offs = was.sign_offs ∙ sym same_signs;
  each = All-weaker (IsLogIn old d x) (IsLogIn new d x) (IsLogIn-moved old new d x text) logs was.each;
  unknown = λ e. was.unknown (sym text ∙ e);
  unsigned = was.unsigned;
}

-- a design without logs
AreOfDie-bare : (old new : List Deed) (d x : List ℕ) (logs : List ReadLogFacts) (signs : List SignOff) → logs ≡ [] → die_logs new d x ≡ die_logs old d x
    → die_signs new d x ≡ die_signs old d x → AreOfDie old d x logs signs → AreOfDie new d x logs signs
AreOfDie-bare old new d x [] signs none same_logs same_signs was = record {
  texts = was.texts ∙ sym same_logs;
  sign_offs = was.sign_offs ∙ sym same_signs;
  each = All-nil (IsLogIn new d x);
  unknown = λ e. refl;
  unsigned = was.unsigned;
}
AreOfDie-bare old new d x (log ∷ logs) signs none same_logs same_signs was = absurd cc

module _ (deeds : List Deed) (by : ℕ) (f : DesignFacts) (fit : fits deeds (design_deed by f).what ≡ true) (d x : List ℕ) (logs : List ReadLogFacts) (signs : List SignOff) where
  by_name : (b : Bool) → bytes_eq f.name d ≡ b → AreOfDie deeds d x logs signs → AreOfDie (deeds ++ design_deed by f ∷ []) d x logs signs
  by_name true e was =
      let is : f.name ≡ d = (bytes_decides f.name d).0 e in
      AreOfDie-bare deeds (deeds ++ design_deed by f ∷ []) d x logs signs (was.unknown (ap (design_text deeds) (sym is) ∙ text_is_new deeds by f fit))
      (die_logs-same deeds (design_deed by f) d x refl) (die_signs-same deeds (design_deed by f) d x refl) was
  by_name false e was =
      AreOfDie-moved deeds (deeds ++ design_deed by f ∷ []) d x logs signs (design_text-other deeds (design_deed by f) (named f) d refl e)
      (die_logs-same deeds (design_deed by f) d x refl) (die_signs-same deeds (design_deed by f) d x refl) was

  pub of_die_and_design : AreOfDie deeds d x logs signs → AreOfDie (deeds ++ design_deed by f ∷ []) d x logs signs
  of_die_and_design was = by_name (bytes_eq f.name d) refl was

test_is_there : (o : Option ScanTest) (d x text : List ℕ) → is_log_over o d x text ≡ true → (t : ScanTest) × (o ≡ Some t)
test_is_there None d x text e = absurd cc
test_is_there (Some t) d x text e = (t, refl)

text_is_there : (o : Option (List ℕ)) (t : ScanTest) → test_of_text o ≡ Some t → (text : List ℕ) × (o ≡ Some text)
text_is_there None t e = absurd cc
text_is_there (Some text) t e = (text, refl)

not_empty : {X : Type 0} (xs : List X) (x : X) → xs ++ x ∷ [] ≡ [] → ⊥
not_empty [] x e = absurd cc
not_empty (y ∷ ys) x e = absurd cc

module _ (deeds : List Deed) (by : ℕ) (log : ReadLogFacts) (fit : fits deeds (log_deed by log).what ≡ true) where
  -- the design of a log that fits
  pub design_is_there : (text : List ℕ) × (design_text deeds log.design ≡ Some text)
  design_is_there =
      let over : is_log_over (design_test deeds log.design) log.design log.die log.text ≡ true =
      and_left (is_log_over (design_test deeds log.design) log.design log.die log.text) (not (has_word (die_logs deeds log.design log.die) log.text))
      (and_right (is_tag log.die) (is_log_over (design_test deeds log.design) log.design log.die log.text && not (has_word (die_logs deeds log.design log.die) log.text)) fit) in
      let test = test_is_there (design_test deeds log.design) log.design log.die log.text over in
      text_is_there (design_text deeds log.design) test.0 test.1

  -- its die
  pub of_its_die : (logs : List ReadLogFacts) (signs : List SignOff) → StandsIn deeds log → AreOfDie deeds log.design log.die logs signs
      → AreOfDie (deeds ++ log_deed by log ∷ []) log.design log.die (logs ++ log ∷ []) signs
  of_its_die logs signs stands was =
      let text : design_text (deeds ++ log_deed by log ∷ []) log.design ≡ design_text deeds log.design = design_text-same deeds (log_deed by log) log.design refl in
      record {
        texts = map_push (λ k. k.text) logs log ∙ ap (λ ts. ts ++ log.text ∷ []) was.texts
            ∙ sym (die_logs-push deeds (log_deed by log) log.design log.die log.text
            (ap (λ b. if b then Some log.text else None) (ap (λ b. b && bytes_eq log.die log.die) ((bytes_decides log.design log.design).1 refl) ∙ (bytes_decides log.die log.die).1 refl)));
        sign_offs = was.sign_offs ∙ sym (die_signs-same deeds (log_deed by log) log.design log.die refl);
        each = All-push (IsLogIn (deeds ++ log_deed by log ∷ []) log.design log.die) logs log
            (All-weaker (IsLogIn deeds log.design log.die) (IsLogIn (deeds ++ log_deed by log ∷ []) log.design log.die) (IsLogIn-moved deeds (deeds ++ log_deed by log ∷ []) log.design log.die text) logs was.each)
            (record { of_design = refl; of_die = refl; stands = StandsIn-moved deeds (deeds ++ log_deed by log ∷ []) log text stands });
        unknown = λ e. let there : design_text deeds log.design ≡ Some design_is_there.0 = design_is_there.1 in let absent : design_text deeds log.design ≡ None = sym text ∙ e in absurd cc;
        unsigned = λ e. absurd (not_empty logs log e);
      }

  -- any other
  pub of_other_die_and_log : (d x : List ℕ) (logs : List ReadLogFacts) (signs : List SignOff) → (bytes_eq log.design d && bytes_eq log.die x) ≡ false → AreOfDie deeds d x logs signs
      → AreOfDie (deeds ++ log_deed by log ∷ []) d x logs signs
  of_other_die_and_log d x logs signs differ was = AreOfDie-moved deeds (deeds ++ log_deed by log ∷ []) d x logs signs (design_text-same deeds (log_deed by log) d refl)
      (die_logs-same deeds (log_deed by log) d x (ap (λ b. if b then Some log.text else None) differ)) (die_signs-same deeds (log_deed by log) d x refl) was

module _ (deeds : List Deed) (by : ℕ) (d x : List ℕ) (sign : SignOff) (fit : fits deeds (sign_deed by d x sign).what ≡ true) where
  -- the die of a sign-off that fits has a log
  pub has_a_log : 1 ≤ length (die_logs deeds d x)
  has_a_log =
      let rest : ((nat_le 1 sign.revision && nat_le sign.revision (length (die_logs deeds d x)))
      && (bytes_eq sign.digest (sha256 (report_at deeds d x sign.revision)) && not (list_any (is_signed_by sign.revision sign.signer) (die_signs deeds d x)))) ≡ true = and_right (is_tag sign.signer) _ fit in
      let revision : (nat_le 1 sign.revision && nat_le sign.revision (length (die_logs deeds d x))) ≡ true = and_left _ _ rest in
      let low : nat_le 1 sign.revision ≡ true = and_left (nat_le 1 sign.revision) (nat_le sign.revision (length (die_logs deeds d x))) revision in
      let high : nat_le sign.revision (length (die_logs deeds d x)) ≡ true = and_right (nat_le 1 sign.revision) (nat_le sign.revision (length (die_logs deeds d x))) revision in
      grind (arith, nat_tests, low, high)

  pub of_signed_die : (logs : List ReadLogFacts) (signs : List SignOff) → AreOfDie deeds d x logs signs → AreOfDie (deeds ++ sign_deed by d x sign ∷ []) d x logs (signs ++ sign ∷ [])
  of_signed_die logs signs was =
      let text : design_text (deeds ++ sign_deed by d x sign ∷ []) d ≡ design_text deeds d = design_text-same deeds (sign_deed by d x sign) d refl in
      record {
        texts = was.texts ∙ sym (die_logs-same deeds (sign_deed by d x sign) d x refl);
        sign_offs = ap (λ ss. ss ++ sign ∷ []) was.sign_offs
            ∙ sym (die_signs-push deeds (sign_deed by d x sign) d x sign
            (ap (λ b. if b then Some sign else None) (ap (λ b. b && bytes_eq x x) ((bytes_decides d d).1 refl) ∙ (bytes_decides x x).1 refl)));
        each = All-weaker (IsLogIn deeds d x) (IsLogIn (deeds ++ sign_deed by d x sign ∷ []) d x) (IsLogIn-moved deeds (deeds ++ sign_deed by d x sign ∷ []) d x text) logs was.each;
        unknown = λ e. was.unknown (sym text ∙ e);
        unsigned = λ e. let none : die_logs deeds d x ≡ [] = sym was.texts ∙ ap texts_of e in absurd (omega (arith, has_a_log, ap length none));
      }

  pub of_other_die_and_sign : (e y : List ℕ) (logs : List ReadLogFacts) (signs : List SignOff) → (bytes_eq d e && bytes_eq x y) ≡ false → AreOfDie deeds e y logs signs
      → AreOfDie (deeds ++ sign_deed by d x sign ∷ []) e y logs signs
  of_other_die_and_sign e y logs signs differ was = AreOfDie-moved deeds (deeds ++ sign_deed by d x sign ∷ []) e y logs signs (design_text-same deeds (sign_deed by d x sign) e refl)
      (die_logs-same deeds (sign_deed by d x sign) e y refl) (die_signs-same deeds (sign_deed by d x sign) e y (ap (λ b. if b then Some sign else None) differ)) was
