-- A desk that was started.
use Rattle.std.proofs.Common.{◌≡◌, ◌≤◌, ℕ, List, [], length, sym, ap, ◌∙◌}
use Rattle.std.specs.Prelude.{Option, Some, slice_get}
use Rattle.atomic_table.specs.Table.{Me}
use Rattle.atomic_table.specs.Seated.{TableId}
use Rattle.desk_outside.specs.declared.deed.Deed.{Deed}
use Rattle.book.specs.Changes.{BookFacts, IsBook}
use Rattle.shared_desk.specs.declared.turns.SeatView.{SeatView}
use Rattle.shared_desk.specs.OpenBooks.{OpenBookFacts}
use Rattle.shared_desk.specs.Turns.{Slot, terms_of, fresh_view}
use Rattle.shared_desk.specs.Seats.{DeskFacts, SeatFacts, desk_facts}
use Rattle.shared_desk.specs.StartAndEnd.{fresh_seat, IsStarted}

pub started : (told : Option (List Deed)) (limit count faults : ℕ) (book : BookFacts) (b : OpenBookFacts) (place : TableId) (laid desk : DeskFacts) (me : Me Slot SeatView) (list : List SeatFacts)
    → book.limit ≡ limit → IsBook book → faults ≤ book.faults → book.rows ≡ told → b ≡ record { book = book; faults = []; opened = book.faults }
    → laid ≡ desk_facts place (terms_of count b) → me ≡ (fresh_view (terms_of count b) b.book.deeds 0 1, []) → desk ≡ laid → length list ≡ count
    → ((i : ℕ) (seat : SeatFacts) → slice_get list i ≡ Some seat → seat ≡ fresh_seat laid me.0.seen i) → IsStarted told limit count faults desk list
started told limit count faults book b place laid desk me list limited is_book later same_rows is lays first same counted each =
    let opened : OpenBookFacts = record { book = book; faults = []; opened = book.faults } in
    let desk_is : desk ≡ desk_facts place (terms_of count opened) = same ∙ (lays ∙ ap (λ (x : OpenBookFacts). desk_facts place (terms_of count x)) is) in
    let seen : me.0.seen ≡ book.deeds = ap (λ (m : Me Slot SeatView). m.0.seen) first ∙ ap (λ (x : OpenBookFacts). x.book.deeds) is in
    let fresh : (i : ℕ) (seat : SeatFacts) → slice_get list i ≡ Some seat → seat ≡ fresh_seat desk book.deeds i =
    λ i seat at. each i seat at ∙ (ap (λ (d : DeskFacts). fresh_seat d me.0.seen i) (sym same) ∙ ap (λ (ds : List Deed). fresh_seat desk ds i) seen) in
    record {
      book = book;
      is_book = is_book;
      within = limited;
      rows = same_rows;
      later = later;
      seats = ap (λ (d : DeskFacts). d.seats) desk_is;
      limit_is = ap (λ (d : DeskFacts). d.limit) desk_is;
      base = ap (λ (d : DeskFacts). d.base) desk_is;
      opened = ap (λ (d : DeskFacts). d.opened) desk_is;
      tells = ap (λ (d : DeskFacts). d.tells) desk_is;
      all = record {
        count = counted ∙ sym (ap (λ (d : DeskFacts). d.seats) desk_is);
        of_desk = λ i seat at. ap (λ (s : SeatFacts). s.desk) (fresh i seat at);
        numbered = λ i seat at. ap (λ (s : SeatFacts). s.number) (fresh i seat at);
      };
      each = fresh;
    }
