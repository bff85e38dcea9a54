-- A die that is shown with some of its logs.
use Rattle.std.proofs.Common.{◌≡◌, ℕ, ◌<◌, true, List, [], length, take, All, Option, Some, IfSome, sym, ap, ◌∙◌, subst, arith}
use Rattle.std.specs.Arc.{arc_value}
use Rattle.std.specs.List.{IsDistinct, take-map}
use Rattle.std.specs.Str.{bytes_eq}
use Rattle.std.proofs.lemmas.List.{length-map}
use Rattle.std.proofs.lemmas.List.Elements.{All-weaker, All-take}
use Rattle.desk_outside.specs.declared.deed.Deed.{Deed}
use Rattle.scan_model.specs.Words.{is_tag}
use Rattle.diagnosis.specs.Designs.{DesignFacts, ReadLogFacts, IsDesign, IsLogOf, texts_of}
use Rattle.die_entries.specs.declared.sign.Sign.{Sign as SignOff}
use Rattle.die_entries.specs.Entries.{arc_values}
use Rattle.die_entries.proofs.MoreLogs.{Log, texts_cut}
use Rattle.die_entries.proofs.Revisions.{distinct_take}
use Rattle.book.specs.Deeds.{design_text, design_test, test_of_text, test_of_reading, die_logs}
use Rattle.book.specs.LegalDeeds.{each_fits}
use Rattle.book.specs.Lookups.{IsLogIn, IsDieIn}
use Rattle.book.proofs.Sound.{sound}

pub some_is : {X : Type 0} (P : X → Type 0) (o : Option X) (x : X) → o ≡ Some x → IfSome o P → P x
some_is P o x is if_some = subst (λ p. IfSome p P) is if_some

has_logs : (deeds : List Deed) (d x : List ℕ) (logs : List ReadLogFacts) (signs : List SignOff) → IsDieIn deeds d x logs signs → 0 < length (die_logs deeds d x)
has_logs deeds d x logs signs found =
    let count : length (texts_of logs) ≡ length logs = length-map logs (λ (l : ReadLogFacts). l.text) in
    let same : length (texts_of logs) ≡ length (die_logs deeds d x) = ap length found.texts in
    let some = found.some in
    omega (arith, count, same)

pub die_tagged : (deeds : List Deed) (d x : List ℕ) (logs : List ReadLogFacts) (signs : List SignOff) → each_fits [] deeds ≡ true → IsDieIn deeds d x logs signs → is_tag x ≡ true
die_tagged deeds d x logs signs legal found = (sound d x deeds legal).logs.tagged (has_logs deeds d x logs signs found)

pub part_differs : (deeds : List Deed) (d x : List ℕ) (logs part : List Log) (signs : List SignOff) → each_fits [] deeds ≡ true → IsDieIn deeds d x (arc_values logs) signs → part ≡ take (length part) logs → IsDistinct bytes_eq (texts_of (arc_values part))
part_differs deeds d x logs part signs legal found cut =
    subst (λ (ls : List Log). IsDistinct bytes_eq (texts_of (arc_values ls))) (sym cut)
    (subst (IsDistinct bytes_eq) (sym (texts_cut logs (length part)))
    (distinct_take (length part) (texts_of (arc_values logs)) (subst (IsDistinct bytes_eq) (sym found.texts) (sound d x deeds legal).logs.differ)))

-- a log of the die stands for its facts over the design
pub log_of_design : (deeds : List Deed) (d : DesignFacts) (x : List ℕ) → IsDesign d → design_text deeds d.name ≡ Some d.text → (log : ReadLogFacts) → IsLogIn deeds d.name x log → IsLogOf d x log
log_of_design deeds d x design named log is = record {
  of_design = is.of_design;
  of_die = is.of_die;
  stands = is.stands d.test (ap (design_test deeds) is.of_design ∙ ap test_of_text named ∙ ap test_of_reading design.stands);
}

pub part_stands : (deeds : List Deed) (d : DesignFacts) (x : List ℕ) (logs part : List Log) (signs : List SignOff) → IsDesign d → design_text deeds d.name ≡ Some d.text → IsDieIn deeds d.name x (arc_values logs) signs
    → part ≡ take (length part) logs → All (IsLogOf d x) (arc_values part)
part_stands deeds d x logs part signs design named found cut =
    subst (λ (ls : List Log). All (IsLogOf d x) (arc_values ls)) (sym cut)
    (subst (All (IsLogOf d x)) (take-map (λ (l : Log). arc_value l) (length part) logs)
    (All-take (IsLogOf d x) (length part) (arc_values logs) (All-weaker (IsLogIn deeds d.name x) (IsLogOf d x) (log_of_design deeds d x design named) (arc_values logs) found.each)))

-- a die with a part of its logs, of a design that is there
pub record IsShown (deeds : List Deed) (d : DesignFacts) (x : List ℕ) (logs part : List Log) (signs : List SignOff) : Type 0 where
  pub legal : each_fits [] deeds ≡ true
  pub design : IsDesign d
  pub named : design_text deeds d.name ≡ Some d.text
  pub found : IsDieIn deeds d.name x (arc_values logs) signs
  pub cut : part ≡ take (length part) logs

pub die_as_named : (kept deeds : List Deed) (name d x : List ℕ) (logs : List ReadLogFacts) (signs : List SignOff) → kept ≡ deeds → name ≡ d → IsDieIn kept name x logs signs → IsDieIn deeds d x logs signs
die_as_named kept deeds name d x logs signs seen same found =
    subst (λ (n : List ℕ). IsDieIn deeds n x logs signs) same (subst (λ (ds : List Deed). IsDieIn ds name x logs signs) seen found)

-- a die that is shown, by the values that were read
pub is_shown : (kept deeds : List Deed) (inner d : DesignFacts) (name asked x : List ℕ) (logs from part : List Log) (signs : List SignOff) → kept ≡ deeds → each_fits [] deeds ≡ true → inner ≡ d → IsDesign inner
    → name ≡ inner.name → d.name ≡ asked → design_text deeds asked ≡ Some d.text → IsDieIn kept name x (arc_values logs) signs → from ≡ logs → part ≡ take (length part) from → IsShown deeds d x logs part signs
is_shown kept deeds inner d name asked x logs from part signs seen legal same design of_inner is_asked text found of_logs cut = record {
  legal = legal;
  design = subst IsDesign same design;
  named = subst (λ (n : List ℕ). design_text deeds n ≡ Some d.text) (sym is_asked) text;
  found = die_as_named kept deeds name d.name x (arc_values logs) signs seen (of_inner ∙ ap (λ (v : DesignFacts). v.name) same) found;
  cut = subst (λ (ls : List Log). part ≡ take (length part) ls) of_logs cut;
}
