-- The two seats of a desk.
use Rattle.std.proofs.Common.{◌≡◌, ◌∙◌, ℕ, List, [], ◌∷◌, length, slice_index_or, refl, ap, arith}
use Rattle.std.specs.Prelude.{remove}
use Rattle.shared_desk.specs.Seats.{DeskFacts, SeatFacts}
use Rattle.shared_desk.specs.StartAndEnd.{AreAllSeats}

module _ (desk : DeskFacts) where
  -- the first of all seats, and the first of those behind it, are of the desk
  pub both_of_desk : (list : List SeatFacts) (first second : SeatFacts) → AreAllSeats desk list → desk.seats ≡ 2
      → first ≡ slice_index_or list 0 first → second ≡ slice_index_or (remove list 0) 0 second
      → (first.desk ≡ desk) × (second.desk ≡ desk)
  both_of_desk [] first second all two e f = absurd (omega (arith, all.count, two))
  both_of_desk (a ∷ []) first second all two e f = absurd (omega (arith, all.count, two))
  both_of_desk (a ∷ b ∷ list) first second all two e f =
      (ap (λ (s : SeatFacts). s.desk) e ∙ all.of_desk 0 a refl, ap (λ (s : SeatFacts). s.desk) f ∙ all.of_desk 1 b refl)

  -- and have the first two numbers
  pub both_numbered : (list : List SeatFacts) (first second : SeatFacts) → AreAllSeats desk list → desk.seats ≡ 2
      → first ≡ slice_index_or list 0 first → second ≡ slice_index_or (remove list 0) 0 second
      → (first.number ≡ 0) × (second.number ≡ 1)
  both_numbered [] first second all two e f = absurd (omega (arith, all.count, two))
  both_numbered (a ∷ []) first second all two e f = absurd (omega (arith, all.count, two))
  both_numbered (a ∷ b ∷ list) first second all two e f =
      (ap (λ (s : SeatFacts). s.number) e ∙ all.numbered 0 a refl, ap (λ (s : SeatFacts). s.number) f ∙ all.numbered 1 b refl)
