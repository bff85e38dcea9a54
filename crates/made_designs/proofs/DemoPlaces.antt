-- The places that are tried, and the draw of the first.
use Rattle.std.proofs.Common.{◌≡◌, ℕ, ◌+◌, ◌%◌, ◌<◌, true, false, not, eqb, ltb, length, map, Option, Some, None, refl, sym, ap, subst, ◌∙◌, add-one, arith}
use Rattle.std.specs.List.{range_with_len, find}
use Rattle.std.proofs.lemmas.Bool.{ne_eqb}
use Rattle.std.proofs.lemmas.Bool.Decides.{nat_tests}
use Rattle.scan_model.specs.ScanTest.{ScanTest}
use Rattle.scan_model.specs.Universe.{universe}
use Rattle.diagnosis.specs.Designs.{ReadLogFacts}
use Rattle.made_laws.specs.Draws.{next_state, state_after, upper, draw}
use Rattle.made_designs.specs.MadeTexts.{text_draws}
use Rattle.made_designs.specs.Demo.{tried_places, predicts_some, injected_from, drawn_place}
use Rattle.made_designs.specs.InjectedFaults.{IsOwnLog, IsFirst, IsAfterTexts, IsDrawn}
use Rattle.made_designs.proofs.FirstPlace.{found_first, found_none}

some_or_none : (n : ℕ) → ltb 0 n ≡ not (eqb n 0)
some_or_none n = grind (arith, nat_tests)

-- the fault predicts a fail where its log has one
pub predicts_as_read : (t : ScanTest) (place : ℕ) (log : ReadLogFacts) → IsOwnLog t place log → predicts_some t place ≡ not (eqb (length log.facts.fails) 0)
predicts_as_read t place log own = ap (λ (l : ReadLogFacts). ltb 0 (length l.facts.fails)) (sym own.is) ∙ some_or_none (length log.facts.fails)

module _ (t : ScanTest) (first count : ℕ) (is_count : count ≡ length (universe t)) (some : 0 < count) where
  abbrev place : ℕ → ℕ
  place k = (first + k) % count

  all_tried : tried_places first count ≡ map place (range_with_len 0 256)
  all_tried = rw (ne_eqb count 0 (λ none. absurd (omega arith))) refl

  from_tried : injected_from first t ≡ find (predicts_some t) (map place (range_with_len 0 256))
  from_tried = ap (λ (n : ℕ). find (predicts_some t) (tried_places first n)) (sym is_count) ∙ ap (find (predicts_some t)) all_tried

  pub first_place : (i : ℕ) → i < 256 → ((k : ℕ) → k < i → predicts_some t ((first + k) % count) ≡ false) → predicts_some t ((first + i) % count) ≡ true → IsFirst t first (Some ((first + i) % count))
  first_place i lt before here = record { is = from_tried ∙ found_first (predicts_some t) place 256 i lt before here }

  pub no_place : ((k : ℕ) → k < 256 → predicts_some t ((first + k) % count) ≡ false) → IsFirst t first None
  no_place each = record { is = from_tried ∙ found_none (predicts_some t) place 256 each }

-- one more draw
drawn : (seed n below old new : ℕ) → old ≡ state_after seed n → new ≡ next_state old → upper new % below ≡ draw seed n below
drawn seed n below old new before next =
    let more : state_after seed (n + 1) ≡ next_state (state_after seed n) = rw (add-one n) refl in
    ap (λ (x : ℕ). upper x % below) (next ∙ ap next_state before ∙ sym more)

-- the first from the place that is drawn after the texts
pub drawn_first : (t : ScanTest) (seed blocks count old new first : ℕ) → IsAfterTexts seed blocks old → count ≡ length (universe t) → new ≡ next_state old → first ≡ upper new % count
    → (place : Option ℕ) → IsFirst t first place → IsDrawn seed blocks t place
drawn_first t seed blocks count old new first after is_count next is_first place found =
    let same : first ≡ drawn_place seed blocks t =
    is_first ∙ drawn seed (text_draws blocks) count old new after.is next ∙ ap (draw seed (text_draws blocks)) is_count in
    record { is = subst (λ (n : ℕ). injected_from n t ≡ place) same found.is }

-- without a place none is tried
pub none_drawn : (t : ScanTest) (seed blocks : ℕ) → length (universe t) ≡ 0 → IsDrawn seed blocks t None
none_drawn t seed blocks none = record { is = ap (λ (n : ℕ). find (predicts_some t) (tried_places (drawn_place seed blocks t) n)) none }
