-- The deeds of a store that nobody added to.
use Rattle.std.proofs.Common.{◌≡◌, ◌<◌, ◌==◌, ℕ, List, [], ◌∷◌, ◌++◌, length, drop, filter, refl, sym, ap, subst, ◌∙◌, append-nil, eq-eqb}
use Rattle.std.specs.Prelude.{All}
use Rattle.std.proofs.lemmas.List.Elements.{All-head}
use Rattle.std.proofs.Math.Seq.{drop-append_seam, drop-length}
use Rattle.desk_outside.specs.declared.deed.Deed.{Deed}
use Rattle.shared_desk.specs.Seats.{DeskFacts}
use Rattle.shared_desk.specs.StartAndEnd.{fresh_seat, HasOwn}
use Rattle.desk_answers.specs.Seats.{IsPrefix}

-- a deed of a number is among those of the number
first_of : (deed : Deed) (deeds : List Deed) → filter (λ (d : Deed). d.by == deed.by) (deed ∷ deeds) ≡ deed ∷ filter (λ (d : Deed). d.by == deed.by) deeds
first_of deed deeds = rw (eq-eqb deed.by deed.by refl) refl

nobody : (seats : ℕ) (more : List Deed) → All (λ (d : Deed). d.by < seats) more → ((i : ℕ) → i < seats → filter (λ (d : Deed). d.by == i) more ≡ []) → more ≡ []
nobody seats [] by none = refl
nobody seats (deed ∷ deeds) by none =
    let e = sym (first_of deed deeds) ∙ none deed.by (All-head (λ (d : Deed). d.by < seats) deed deeds by) in absurd (cc)

own_nothing : (desk : DeskFacts) (before more : List Deed) (i : ℕ) → desk.base ≡ length before → HasOwn (before ++ more) (fresh_seat desk before i) → filter (λ (d : Deed). d.by == i) more ≡ []
own_nothing desk before more i base own =
    let at : filter (λ (d : Deed). d.by == i) (drop (length before) (before ++ more)) ≡ filter (λ (d : Deed). d.by == i) (drop (length before) before) =
    subst (λ b. filter (λ (d : Deed). d.by == i) (drop b (before ++ more)) ≡ filter (λ (d : Deed). d.by == i) (drop b before)) base own.own in
    sym (ap (filter (λ (d : Deed). d.by == i)) (drop-append_seam before more)) ∙ at ∙ ap (filter (λ (d : Deed). d.by == i)) (drop-length before)

-- where every seat stands as at the opening, the deeds are those of the opening
pub nothing_new : (desk : DeskFacts) (before after : List Deed) (seats : ℕ) → desk.base ≡ length before → IsPrefix before after → All (λ (d : Deed). d.by < seats) (drop (length before) after)
    → ((i : ℕ) → i < seats → HasOwn after (fresh_seat desk before i)) → after ≡ before
nothing_new desk before after seats base (more, is) by own =
    let by_more : All (λ (d : Deed). d.by < seats) more = subst (All (λ (d : Deed). d.by < seats)) (ap (drop (length before)) is ∙ drop-append_seam before more) by in
    let none = nobody seats more by_more (λ i h. own_nothing desk before more i base (subst (λ ds. HasOwn ds (fresh_seat desk before i)) is (own i h))) in
    is ∙ ap (λ ds. before ++ ds) none ∙ append-nil before
