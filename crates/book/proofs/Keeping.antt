-- What is kept, as deeds are added.
use Rattle.std.proofs.Common.{◌≡◌, ◌∙◌, sym, ap, subst, ℕ, List, [], ◌∷◌, ◌++◌, Bool, true, false, ◌&&◌, Some, refl}
use Rattle.std.specs.Prelude.{is_none, slice_get, slice_set}
use Rattle.std.specs.List.{position}
use Rattle.std.specs.Result.{is_ok}
use Rattle.std.specs.Str.{bytes_eq}
use Rattle.std.specs.Cmp.Lexicographic.{bytes_decides}
use Rattle.std.proofs.lemmas.List.{map_push}
use Rattle.desk_outside.specs.declared.deed.Deed.{Deed}
use Rattle.scan_model.specs.Words.{is_tag}
use Rattle.die_entries.specs.declared.sign.Sign.{Sign as SignOff}
use Rattle.diagnosis.specs.Bundle.{bundle_reading}
use Rattle.diagnosis.specs.Designs.{DesignFacts, ReadLogFacts}
use Rattle.book.specs.Deeds.{design_text}
use Rattle.book.specs.LegalDeeds.{fits}
use Rattle.book.specs.Kinds.{named, design_deed, log_deed, sign_deed}
use Rattle.book.specs.Changes.{StandsIn}
use Rattle.book.specs.Dies.{AreSameDies, DieFacts, is_die, with_log, with_sign, kept_logs, kept_signs, logs_in, signs_in}
use Rattle.book.specs.State.{AreOfDie, IsState}
use Rattle.book.proofs.Growing.{and_left, and_right, each_fits-push, designs-push, designs-same, design_text-other, design_text-same}
use Rattle.book.proofs.OfDies.{of_die_and_design, of_its_die, of_other_die_and_log, of_signed_die, of_other_die_and_sign}
use Rattle.book.proofs.Written.{found_before, found_after, other_found}

-- dies of which the same is kept
pub IsState-alike : (deeds : List Deed) (kept : List DesignFacts) (old new : List DieFacts) → ((d x : List ℕ) → kept_logs new d x ≡ kept_logs old d x)
    → ((d x : List ℕ) → kept_signs new d x ≡ kept_signs old d x) → IsState deeds kept old → IsState deeds kept new
IsState-alike deeds kept old new logs signs was = record {
  fit = was.fit;
  designs = was.designs;
  tags = was.tags;
  each_die = λ d x. subst (λ ls. AreOfDie deeds d x ls (kept_signs new d x)) (sym (logs d x)) (subst (λ ss. AreOfDie deeds d x (kept_logs old d x) ss) (sym (signs d x)) (was.each_die d x));
}

-- the state stays where only room was made
pub IsState-roomy : (deeds seen : List Deed) (kept : List DesignFacts) (old new : List DieFacts) → seen ≡ deeds → AreSameDies old new → IsState deeds kept old → IsState seen kept new
IsState-roomy deeds seen kept old new are same was = subst (λ ds. IsState ds kept new) (sym are) (IsState-alike deeds kept old new same.logs same.signs was)

module _ (deeds : List Deed) (by : ℕ) (f : DesignFacts) (fit : fits deeds (design_deed by f).what ≡ true) where
  tag_after : (name text : List ℕ) → ((t : List ℕ) → design_text deeds name ≡ Some t → is_tag name ≡ true) → (b : Bool) → bytes_eq f.name name ≡ b
      → design_text (deeds ++ design_deed by f ∷ []) name ≡ Some text → is_tag name ≡ true
  tag_after name text was true e there = ap is_tag (sym ((bytes_decides f.name name).0 e)) ∙ and_left (is_tag f.name) (is_none (design_text deeds f.name) && is_ok (bundle_reading f.text)) fit
  tag_after name text was false e there = was text (sym (design_text-other deeds (design_deed by f) (named f) name refl e) ∙ there)

  pub design_kept : (kept : List DesignFacts) (dies : List DieFacts) → IsState deeds kept dies → IsState (deeds ++ design_deed by f ∷ []) (kept ++ f ∷ []) dies
  design_kept kept dies was = record {
    fit = each_fits-push [] deeds (design_deed by f) was.fit fit;
    designs = map_push named kept f ∙ ap (λ ns. ns ++ named f ∷ []) was.designs ∙ sym (designs-push deeds (design_deed by f) (named f) refl);
    tags = λ name text there. tag_after name text (was.tags name) (bytes_eq f.name name) refl there;
    each_die = λ d x. of_die_and_design deeds by f fit d x (kept_logs dies d x) (kept_signs dies d x) (was.each_die d x);
  }

module _ (deeds : List Deed) (by : ℕ) (log : ReadLogFacts) (fit : fits deeds (log_deed by log).what ≡ true) (stands : StandsIn deeds log)
    (dies : List DieFacts) (j : ℕ) (k : DieFacts) (place : position (is_die log.design log.die) dies ≡ Some j) (at : slice_get dies j ≡ Some k) where
  after_log : (e y : List ℕ) → (b : Bool) → (bytes_eq log.design e && bytes_eq log.die y) ≡ b → AreOfDie deeds e y (kept_logs dies e y) (kept_signs dies e y)
      → AreOfDie (deeds ++ log_deed by log ∷ []) e y (kept_logs (slice_set dies j (with_log k log)) e y) (kept_signs (slice_set dies j (with_log k log)) e y)
  after_log e y false differ was =
      let found = other_found dies log.design log.die j k (with_log k log) place at refl refl e y differ in
      subst (λ o. AreOfDie (deeds ++ log_deed by log ∷ []) e y (logs_in o) (signs_in o)) (sym found)
      (of_other_die_and_log deeds by log fit e y (kept_logs dies e y) (kept_signs dies e y) differ was)
  after_log e y true same was =
      let is_design : log.design ≡ e = (bytes_decides log.design e).0 (and_left (bytes_eq log.design e) (bytes_eq log.die y) same) in
      let is_die_of : log.die ≡ y = (bytes_decides log.die y).0 (and_right (bytes_eq log.design e) (bytes_eq log.die y) same) in
      let old_here : AreOfDie deeds log.design log.die k.logs k.signs =
      subst (λ o. AreOfDie deeds log.design log.die (logs_in o) (signs_in o)) (found_before dies log.design log.die j k k place at refl refl)
      (subst (λ n. AreOfDie deeds log.design n (kept_logs dies log.design n) (kept_signs dies log.design n)) (sym is_die_of)
      (subst (λ n. AreOfDie deeds n y (kept_logs dies n y) (kept_signs dies n y)) (sym is_design) was)) in
      let new_here : AreOfDie (deeds ++ log_deed by log ∷ []) log.design log.die (kept_logs (slice_set dies j (with_log k log)) log.design log.die) (kept_signs (slice_set dies j (with_log k log)) log.design log.die) =
      subst (λ o. AreOfDie (deeds ++ log_deed by log ∷ []) log.design log.die (logs_in o) (signs_in o)) (sym (found_after dies log.design log.die j k (with_log k log) place at refl refl))
      (of_its_die deeds by log fit k.logs k.signs stands old_here) in
      subst (λ n. AreOfDie (deeds ++ log_deed by log ∷ []) n y (kept_logs (slice_set dies j (with_log k log)) n y) (kept_signs (slice_set dies j (with_log k log)) n y)) is_design
      (subst (λ n. AreOfDie (deeds ++ log_deed by log ∷ []) log.design n (kept_logs (slice_set dies j (with_log k log)) log.design n) (kept_signs (slice_set dies j (with_log k log)) log.design n)) is_die_of new_here)

  pub log_kept : (kept : List DesignFacts) → IsState deeds kept dies → IsState (deeds ++ log_deed by log ∷ []) kept (slice_set dies j (with_log k log))
  log_kept kept was = record {
    fit = each_fits-push [] deeds (log_deed by log) was.fit fit;
    designs = was.designs ∙ sym (designs-same deeds (log_deed by log) refl);
    tags = λ name text there. was.tags name text (sym (design_text-same deeds (log_deed by log) name refl) ∙ there);
    each_die = λ e y. after_log e y (bytes_eq log.design e && bytes_eq log.die y) refl (was.each_die e y);
  }

module _ (deeds : List Deed) (by : ℕ) (d x : List ℕ) (sign : SignOff) (fit : fits deeds (sign_deed by d x sign).what ≡ true)
    (dies : List DieFacts) (j : ℕ) (k : DieFacts) (place : position (is_die d x) dies ≡ Some j) (at : slice_get dies j ≡ Some k) where
  after_sign : (e y : List ℕ) → (b : Bool) → (bytes_eq d e && bytes_eq x y) ≡ b → AreOfDie deeds e y (kept_logs dies e y) (kept_signs dies e y)
      → AreOfDie (deeds ++ sign_deed by d x sign ∷ []) e y (kept_logs (slice_set dies j (with_sign k sign)) e y) (kept_signs (slice_set dies j (with_sign k sign)) e y)
  after_sign e y false differ was =
      let found = other_found dies d x j k (with_sign k sign) place at refl refl e y differ in
      subst (λ o. AreOfDie (deeds ++ sign_deed by d x sign ∷ []) e y (logs_in o) (signs_in o)) (sym found)
      (of_other_die_and_sign deeds by d x sign fit e y (kept_logs dies e y) (kept_signs dies e y) differ was)
  after_sign e y true same was =
      let is_design : d ≡ e = (bytes_decides d e).0 (and_left (bytes_eq d e) (bytes_eq x y) same) in
      let is_die_of : x ≡ y = (bytes_decides x y).0 (and_right (bytes_eq d e) (bytes_eq x y) same) in
      let old_here : AreOfDie deeds d x k.logs k.signs =
      subst (λ o. AreOfDie deeds d x (logs_in o) (signs_in o)) (found_before dies d x j k k place at refl refl)
      (subst (λ n. AreOfDie deeds d n (kept_logs dies d n) (kept_signs dies d n)) (sym is_die_of)
      (subst (λ n. AreOfDie deeds n y (kept_logs dies n y) (kept_signs dies n y)) (sym is_design) was)) in
      let new_here : AreOfDie (deeds ++ sign_deed by d x sign ∷ []) d x (kept_logs (slice_set dies j (with_sign k sign)) d x) (kept_signs (slice_set dies j (with_sign k sign)) d x) =
      subst (λ o. AreOfDie (deeds ++ sign_deed by d x sign ∷ []) d x (logs_in o) (signs_in o)) (sym (found_after dies d x j k (with_sign k sign) place at refl refl))
      (of_signed_die deeds by d x sign fit k.logs k.signs old_here) in
      subst (λ n. AreOfDie (deeds ++ sign_deed by d x sign ∷ []) n y (kept_logs (slice_set dies j (with_sign k sign)) n y) (kept_signs (slice_set dies j (with_sign k sign)) n y)) is_design
      (subst (λ n. AreOfDie (deeds ++ sign_deed by d x sign ∷ []) d n (kept_logs (slice_set dies j (with_sign k sign)) d n) (kept_signs (slice_set dies j (with_sign k sign)) d n)) is_die_of new_here)

  pub sign_kept : (kept : List DesignFacts) → IsState deeds kept dies → IsState (deeds ++ sign_deed by d x sign ∷ []) kept (slice_set dies j (with_sign k sign))
  sign_kept kept was = record {
    fit = each_fits-push [] deeds (sign_deed by d x sign) was.fit fit;
    designs = was.designs ∙ sym (designs-same deeds (sign_deed by d x sign) refl);
    tags = λ name text there. was.tags name text (sym (design_text-same deeds (sign_deed by d x sign) name refl) ∙ there);
    each_die = λ e y. after_sign e y (bytes_eq d e && bytes_eq x y) refl (was.each_die e y);
  }
