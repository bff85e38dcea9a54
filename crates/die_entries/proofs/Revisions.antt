-- A die at a revision.
use Rattle.std.proofs.Common.{◌≡◌, ℕ, ◌<◌, ◌≤◌, false, List, length, take, get_or, All, sym, ap, ◌∙◌, subst, arith}
use Rattle.std.specs.Arc.{arc_value}
use Rattle.std.specs.List.{IsDistinct, take-map}
use Rattle.std.specs.Str.{bytes_eq}
use Rattle.std.proofs.lemmas.List.{length-map, length-take, length-take-le, get_or-take}
use Rattle.std.proofs.lemmas.List.Elements.{All-take}
use Rattle.std.proofs.lemmas.Map.Keys.{apart_from_distinct, IsDistinct-from_apart}
use Rattle.diagnosis.specs.Designs.{DesignFacts, ReadLogFacts, IsLogOf, texts_of, view_report}
use Rattle.die_entries.specs.Entries.{arc_values}
use Rattle.die_entries.specs.Revisions.{IsShowable, revision_report}
use Rattle.die_entries.proofs.MoreLogs.{Log, texts_cut}

pub distinct_take : (n : ℕ) (ts : List (List ℕ)) → IsDistinct bytes_eq ts → IsDistinct bytes_eq (take n ts)
distinct_take n ts differ =
    IsDistinct-from_apart bytes_eq (take n ts) (λ i j d below within.
    let count = length-take n ts in
    let last : j < n = omega (arith, count) in
    let first : i < n = omega arith in
    let inside : j < length ts = omega (arith, count) in
    subst (λ x. bytes_eq (get_or (take n ts) i d) x ≡ false) (sym (get_or-take n ts j d last)) (subst (λ x. bytes_eq x (get_or ts j d) ≡ false) (sym (get_or-take n ts i d first)) (apart_from_distinct bytes_eq ts i j d differ below inside)))

part_some : (logs : List Log) (revision : ℕ) → 0 < revision → revision ≤ length logs → 0 < length (arc_values (take revision logs))
part_some logs revision low high =
    let count : length (arc_values (take revision logs)) ≡ revision = length-map (take revision logs) (λ (l : Log). arc_value l) ∙ length-take-le revision logs high in
    omega (arith, count)

-- the first so many logs may be reported as all may
part_showable : (d : DesignFacts) (die : List ℕ) (logs : List Log) (revision : ℕ) → IsShowable d die (arc_values logs) → 0 < revision → revision ≤ length logs → IsShowable d die (arc_values (take revision logs))
part_showable d die logs revision all low high = record {
  tag = all.tag;
  some = part_some logs revision low high;
  each = subst (All (IsLogOf d die)) (take-map (λ (l : Log). arc_value l) revision logs) (All-take (IsLogOf d die) revision (arc_values logs) all.each);
  differ = subst (IsDistinct bytes_eq) (sym (texts_cut logs revision)) (distinct_take revision (texts_of (arc_values logs)) all.differ);
}

pub showable_at : (d : DesignFacts) (die : List ℕ) (logs part : List Log) (revision : ℕ) → part ≡ take revision logs → IsShowable d die (arc_values logs) → 0 < revision → revision ≤ length logs → IsShowable d die (arc_values part)
showable_at d die logs part revision is all low high = subst (λ (ls : List Log). IsShowable d die (arc_values ls)) (sym is) (part_showable d die logs revision all low high)

-- their report is that of the revision
pub report_of_part : (d : DesignFacts) (die : List ℕ) (logs part : List Log) (revision : ℕ) → part ≡ take revision logs → view_report (record { design = d; die = die; logs = arc_values part }) ≡ revision_report d die (arc_values logs) revision
report_of_part d die logs part revision is =
    ap (λ (ls : List ReadLogFacts). view_report (record { design = d; die = die; logs = ls })) (ap (λ (ls : List Log). arc_values ls) is ∙ sym (take-map (λ (l : Log). arc_value l) revision logs))
