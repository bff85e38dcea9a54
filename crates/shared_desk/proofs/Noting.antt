-- Seats that are joined are noted.
use Rattle.std.proofs.Common.{◌≡◌, List, [], ◌∷◌, ◌++◌, refl, sym, ap, ◌∙◌, subst, arith}
use Rattle.std.specs.Prelude.{All, Contains}
use Rattle.std.proofs.lemmas.List.Elements.{All-cons, All-weaker, Contains-append_left, Contains-append_right}
use Rattle.atomic_table.specs.Table.{Me}
use Rattle.atomic_table.specs.Seated.{TableId}
use Rattle.shared_desk.specs.declared.turns.JoinedSeat.{JoinedSeat}
use Rattle.shared_desk.specs.declared.turns.SeatView.{SeatView}
use Rattle.shared_desk.specs.Turns.{Slot, note_of, longer, with_note, IsJoined}
use Rattle.shared_desk.specs.Stages.{IsIdle}
use Rattle.shared_desk.specs.Seats.{SeatFacts, seat_facts, seat_note}
use Rattle.shared_desk.proofs.Longest.{prefix_on, longer_first}

-- the first seat, after one more was joined into it
pub joined_more : (v : SeatView) (me me' : Me Slot SeatView) (w : SeatView) → IsIdle me → IsJoined v me.0 → me' ≡ (with_note me.0 w, []) → IsIdle me' × IsJoined v me'.0 × (me'.0.joined ≡ me.0.joined ++ note_of w ∷ [])
joined_more v me me' w idle joined next =
    let At : Me Slot SeatView → Type 0 = λ (m : Me Slot SeatView). IsIdle m × IsJoined v m.0 × (m.0.joined ≡ me.0.joined ++ note_of w ∷ []) in
    subst At (sym next) (
      record { view = record { spent = idle.view.spent; waits = idle.view.waits; holds = idle.view.holds }; hand = refl },
      record {
        about = joined.about;
        number = joined.number;
        seen = prefix_on v.seen me.0.seen (longer me.0.seen w.seen) joined.seen (longer_first me.0.seen w.seen);
        faults = prefix_on v.faults me.0.faults (longer me.0.faults w.faults) joined.faults (longer_first me.0.faults w.faults);
        mine = joined.mine;
        failed = joined.failed;
        given = joined.given;
      },
      refl,
    )

pub note_is : (place : TableId) (views : List SeatView) (w : SeatView) (seat : SeatFacts) → seat ≡ seat_facts place views → views ≡ w ∷ [] → seat_note seat ≡ note_of w
note_is place views w seat is one = ap seat_note (is ∙ ap (seat_facts place) one)

pub noted_more : (notes notes' : List JoinedSeat) (w : SeatView) (seat : SeatFacts) (done : List SeatFacts) → notes' ≡ notes ++ note_of w ∷ [] → seat_note seat ≡ note_of w
    → All (λ s. Contains notes (seat_note s)) done → All (λ s. Contains notes' (seat_note s)) (seat ∷ done)
noted_more notes notes' w seat done is note all =
    let There : List JoinedSeat → SeatFacts → Type 0 = λ (ns : List JoinedSeat) (s : SeatFacts). Contains ns (seat_note s) in
    subst (λ (ns : List JoinedSeat). All (There ns) (seat ∷ done)) (sym is)
    (All-cons (There (notes ++ note_of w ∷ [])) seat done (subst (Contains (notes ++ note_of w ∷ [])) (sym note) (Contains-append_right notes (note_of w ∷ []) (note_of w) (0, omega arith, refl)))
    (All-weaker (There notes) (There (notes ++ note_of w ∷ [])) (λ s there. Contains-append_left notes (note_of w ∷ []) (seat_note s) there) done all))
