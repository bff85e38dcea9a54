use Rattle.std.proofs.Common.{◌≡◌, length, inl, inr, arith}
use Rattle.std.proofs.lemmas.Bool.Decides.{nat_tests}
use Rattle.match_counts.specs.declared.piece.Piece.{Piece}
use Rattle.match_counts.proofs.WorkLists.{next_cut}
use Rattle.match_counts.proofs.piece.cut.Goals as goal

pub loop-rest-preserved : goal.loop-rest-preserved
loop-rest-preserved g c =
    let p : Piece = record { kind = c.args.kind; items = c.split_at.result.0 } in
    next_cut p c.loop-rest.rest.now c.split_at.result.1.now c.args.items.now c.args.pieces.now.items c.loop-rest.pieces.items c.insert.new.self.items c.min-place.result c.in_ok-insert.ensures.items c.split_at.ensures.by_index.0 c.loop-rest.invariant

pub returns : goal.returns
returns g c = λ k n.
    let before = c.loop-rest.invariant k n in
    let none : length c.loop-rest.rest.now ≡ 0 = grind (arith, nat_tests, c.loop-rest-test.ensures, c.loop-rest-test.false) in (
      λ has. before.0 (inl has),
      λ has. elim (before.1 has) [
        | inl was ↦ was
        | inr list ↦ absurd (omega (arith, none, list.1.1))
      ],
    )
