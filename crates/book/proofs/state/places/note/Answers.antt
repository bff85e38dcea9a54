use Rattle.std.proofs.Common.{◌≡◌, Some, subst}
use Rattle.std.specs.Prelude.{if◌then◌else◌}
use Rattle.std.specs.Str.{bytes_eq}
use Rattle.book.specs.Places.{place_of}
use Rattle.book.proofs.Noting.{updates_bytes}
use Rattle.book.proofs.state.places.note.Goals as goal

pub returns-clause-ok : goal.returns-clause-ok
returns-clause-ok c q =
    subst (λ bs. place_of c.insert.new.self q ≡ (if bytes_eq bs q then Some c.args.place else place_of c.args.places.now q)) c.in_ok-key.ensures.items
    (updates_bytes c.in_ok-key.key.items c.args.places.now c.insert.new.self (Some c.args.place) c.in_ok-insert.ensures.updates q)
