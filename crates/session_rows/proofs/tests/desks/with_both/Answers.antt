use Rattle.std.proofs.Common.{◌≡◌, ◌∙◌, List, slice_index_or, ap}
use Rattle.std.specs.Prelude.{remove}
use Rattle.shared_desk.specs.Seats.{SeatFacts}
use Rattle.session_rows.proofs.SeatPairs.{both_of_desk, both_numbered}
use Rattle.session_rows.proofs.tests.desks.with_both.Goals as goal

pub returns-clause-desks : goal.returns-clause-desks
returns-clause-desks c =
    let rest = c.remove-first.ensures.items ∙ ap (λ (l : List SeatFacts). remove l 0) c.into_vec-list.ensures in
    both_of_desk c.args.desk c.args.seats c.remove-first.result c.remove-second.result c.requires.all c.requires.two
    (c.remove-first.ensures.value ∙ ap (λ (l : List SeatFacts). slice_index_or l 0 c.remove-first.result) c.into_vec-list.ensures)
    (c.remove-second.ensures.value ∙ ap (λ (l : List SeatFacts). slice_index_or l 0 c.remove-second.result) rest)

pub returns-clause-numbers : goal.returns-clause-numbers
returns-clause-numbers c =
    let rest = c.remove-first.ensures.items ∙ ap (λ (l : List SeatFacts). remove l 0) c.into_vec-list.ensures in
    both_numbered c.args.desk c.args.seats c.remove-first.result c.remove-second.result c.requires.all c.requires.two
    (c.remove-first.ensures.value ∙ ap (λ (l : List SeatFacts). slice_index_or l 0 c.remove-first.result) c.into_vec-list.ensures)
    (c.remove-second.ensures.value ∙ ap (λ (l : List SeatFacts). slice_index_or l 0 c.remove-second.result) rest)
