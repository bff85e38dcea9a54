-- Changes for which all room is ready, and what is kept after them.
use Rattle.std.proofs.Common.{◌≡◌, ◌<◌, ◌∙◌, sym, ap, subst, true, ℕ, List, [], ◌∷◌, ◌++◌, length, Some, None}
use Rattle.std.specs.Prelude.{slice_get, slice_set}
use Rattle.std.specs.List.{position}
use Rattle.std.specs.Str.{bytes_eq}
use Rattle.std.specs.Arc.{arc_value}
use Rattle.desk_outside.specs.declared.deed.Deed.{Deed}
use Rattle.die_entries.specs.declared.sign.Sign.{Sign as SignOff}
use Rattle.book.specs.declared.state.ready.ReadyDesign.{ReadyDesign}
use Rattle.book.specs.declared.state.ready.ReadyLog.{ReadyLog}
use Rattle.book.specs.declared.state.ready.ReadySign.{ReadySign}
use Rattle.diagnosis.specs.Designs.{DesignFacts, ReadLogFacts}
use Rattle.book.specs.LegalDeeds.{fits}
use Rattle.book.specs.Changes.{StandsIn}
use Rattle.book.specs.Kinds.{design_deed, log_deed, sign_deed}
use Rattle.book.specs.Dies.{DieFacts, is_die, with_log, with_sign}
use Rattle.book.specs.State.{IsState, StateFacts}
use Rattle.book.specs.ReadyChanges.{IsReadyDesign, IsReadyLog, IsReadySign}
use Rattle.book.proofs.NewName.{name_is_new}
use Rattle.book.proofs.NumberedDesign.{position_at}
use Rattle.book.proofs.FoundDie.{die_there}
use Rattle.book.proofs.Keeping.{design_kept, log_kept, sign_kept}

-- ---- a design

pub design_ready : (old new : StateFacts) (by : ℕ) (d : DesignFacts) (ready : ReadyDesign) → fits old.deeds (design_deed by d).what ≡ true → new.deeds ≡ old.deeds
    → ready.deed ≡ design_deed by d → arc_value ready.design ≡ d → 0 < new.room → new.designs.next ≡ Some d → IsReadyDesign new ready
design_ready old new by d ready fit deeds is same room next = record {
  is = is ∙ ap (λ b. design_deed b d) (sym (ap (λ (e : Deed). e.by) is)) ∙ ap (design_deed ready.deed.by) (sym same);
  fit = subst (λ e. fits new.deeds (design_deed ready.deed.by e).what ≡ true) (sym same) (subst (λ ds. fits ds (design_deed by d).what ≡ true) (sym deeds) fit);
  room = room;
  next = next ∙ ap (λ e. Some e) (sym same);
}

module _ (kept : StateFacts) (ready : ReadyDesign) (is : IsReadyDesign kept ready) (was : IsState kept.deeds kept.designs.list kept.dies) where
  pub design_is_new : position (λ d. bytes_eq d.name (arc_value ready.design).name) kept.designs.list ≡ None
  design_is_new = name_is_new kept.deeds ready.deed.by (arc_value ready.design) is.fit kept.designs.list was.designs

  pub design_added : (deeds : List Deed) (designs : List DesignFacts) → deeds ≡ kept.deeds ++ ready.deed ∷ [] → designs ≡ kept.designs.list ++ arc_value ready.design ∷ [] → IsState deeds designs kept.dies
  design_added deeds designs e f =
      subst (λ ds. IsState ds designs kept.dies) (sym (e ∙ ap (λ deed. kept.deeds ++ deed ∷ []) is.is))
      (subst (λ ks. IsState (kept.deeds ++ design_deed ready.deed.by (arc_value ready.design) ∷ []) ks kept.dies) (sym f)
      (design_kept kept.deeds ready.deed.by (arc_value ready.design) is.fit kept.designs.list kept.dies was))

-- ---- a log

pub log_ready : (old new : StateFacts) (by : ℕ) (log : ReadLogFacts) (ready : ReadyLog) → fits old.deeds (log_deed by log).what ≡ true → StandsIn old.deeds log → new.deeds ≡ old.deeds
    → ready.deed ≡ log_deed by log → arc_value ready.log ≡ log → 0 < new.room → position (is_die log.design log.die) new.dies ≡ Some ready.place
    → ((k : DieFacts) → slice_get new.dies ready.place ≡ Some k → 0 < k.log_room) → IsReadyLog new ready
log_ready old new by log ready fit stands deeds is same room place log_room = record {
  is = is ∙ ap (λ b. log_deed b log) (sym (ap (λ (e : Deed). e.by) is)) ∙ ap (log_deed ready.deed.by) (sym same);
  fit = subst (λ l. fits new.deeds (log_deed ready.deed.by l).what ≡ true) (sym same) (subst (λ ds. fits ds (log_deed by log).what ≡ true) (sym deeds) fit);
  stands = subst (StandsIn new.deeds) (sym same) (subst (λ ds. StandsIn ds log) (sym deeds) stands);
  room = room;
  place = subst (λ (l : ReadLogFacts). position (is_die l.design l.die) new.dies ≡ Some ready.place) (sym same) place;
  log_room = log_room;
}

module _ (kept : StateFacts) (ready : ReadyLog) (is : IsReadyLog kept ready) where
  pub log_within : ready.place < length kept.dies
  log_within = (position_at (is_die (arc_value ready.log).design (arc_value ready.log).die) kept.dies ready.place is.place).1

  pub log_added : IsState kept.deeds kept.designs.list kept.dies → (deeds : List Deed) (dies : List DieFacts) → deeds ≡ kept.deeds ++ ready.deed ∷ []
      → ((k : DieFacts) → slice_get kept.dies ready.place ≡ Some k → dies ≡ slice_set kept.dies ready.place (with_log k (arc_value ready.log))) → IsState deeds kept.designs.list dies
  log_added was deeds dies e f =
      let log = arc_value ready.log in
      let there = die_there kept.dies log.design log.die ready.place is.place in
      subst (λ ds. IsState ds kept.designs.list dies) (sym (e ∙ ap (λ deed. kept.deeds ++ deed ∷ []) is.is))
      (subst (λ ks. IsState (kept.deeds ++ log_deed ready.deed.by log ∷ []) kept.designs.list ks) (sym (f there.0 there.1))
      (log_kept kept.deeds ready.deed.by log is.fit is.stands kept.dies ready.place there.0 is.place there.1 kept.designs.list was))

-- ---- a sign-off

pub sign_ready : (old new : StateFacts) (by : ℕ) (d x : List ℕ) (sign : SignOff) (ready : ReadySign) → fits old.deeds (sign_deed by d x sign).what ≡ true → new.deeds ≡ old.deeds
    → ready.deed ≡ sign_deed by d x sign → ready.sign ≡ sign → 0 < new.room → position (is_die d x) new.dies ≡ Some ready.place
    → ((k : DieFacts) → slice_get new.dies ready.place ≡ Some k → 0 < k.sign_room) → IsReadySign new ready
sign_ready old new by d x sign ready fit deeds is same room place sign_room = record {
  design = d;
  die = x;
  is = is ∙ ap (λ b. sign_deed b d x sign) (sym (ap (λ (e : Deed). e.by) is)) ∙ ap (sign_deed ready.deed.by d x) (sym same);
  fit = subst (λ s. fits new.deeds (sign_deed ready.deed.by d x s).what ≡ true) (sym same) (subst (λ ds. fits ds (sign_deed by d x sign).what ≡ true) (sym deeds) fit);
  room = room;
  place = place;
  sign_room = sign_room;
}

module _ (kept : StateFacts) (ready : ReadySign) (is : IsReadySign kept ready) where
  pub sign_within : ready.place < length kept.dies
  sign_within = (position_at (is_die is.design is.die) kept.dies ready.place is.place).1

  pub sign_added : IsState kept.deeds kept.designs.list kept.dies → (deeds : List Deed) (dies : List DieFacts) → deeds ≡ kept.deeds ++ ready.deed ∷ []
      → ((k : DieFacts) → slice_get kept.dies ready.place ≡ Some k → dies ≡ slice_set kept.dies ready.place (with_sign k ready.sign)) → IsState deeds kept.designs.list dies
  sign_added was deeds dies e f =
      let there = die_there kept.dies is.design is.die ready.place is.place in
      subst (λ ds. IsState ds kept.designs.list dies) (sym (e ∙ ap (λ deed. kept.deeds ++ deed ∷ []) is.is))
      (subst (λ ks. IsState (kept.deeds ++ sign_deed ready.deed.by is.design is.die ready.sign ∷ []) kept.designs.list ks) (sym (f there.0 there.1))
      (sign_kept kept.deeds ready.deed.by is.design is.die ready.sign is.fit kept.dies ready.place there.0 is.place there.1 kept.designs.list was))
