use Rattle.std.proofs.Common.{rules, ◌≡◌, ◌∷◌, [], ◌++◌, sym, ap, subst, ◌∙◌, append_assoc}
use Rattle.std.specs.Prelude.{All, Contains}
use Rattle.shared_desk.specs.Seats.{SeatFacts, seat_note}
use Rattle.shared_desk.proofs.Noting.{joined_more, note_is, noted_more}
use Rattle.shared_desk.proofs.finish.join_others.Goals as goal

pub loop-other-preserved : goal.loop-other-preserved
loop-other-preserved g c =
    let inv = c.loop-other.invariant in
    let w = c.into_seat.result.me.0 in
    let other = c.in-Some.other in
    let more = joined_more c.args.first.now.me.0 c.loop-other.first.me c.join_seat.new.first.me w inv.idle inv.joined c.join_seat.ensures.joined in
    let note = note_is c.other.inside.badge.table_id c.other.inside.badge.views w other (sym c.other.view_is) c.into_seat.ensures.2 in
    let popped : c.loop-other.others.items ≡ c.pop.new.self.items ++ other ∷ [] = c.in-Some.ensures.items in
    record {
      same = c.join_seat.ensures.same ∙ inv.same;
      idle = more.0;
      joined = more.1;
      done = other ∷ inv.done;
      parts = inv.parts ∙ (ap (λ xs. xs ++ inv.done) popped ∙ append_assoc c.pop.new.self.items (other ∷ []) inv.done);
      noted = noted_more _ _ w other inv.done more.2 note inv.noted;
    }

pub returns-clause-noted : goal.returns-clause-noted
returns-clause-noted g c =
    let inv = c.loop-other.invariant in
    let none : c.loop-other.others.items ≡ [] = search rules in
    let all : c.args.others.items ≡ inv.done = inv.parts ∙ ap (λ xs. xs ++ inv.done) none in
    subst (λ xs. All (λ (seat : SeatFacts). Contains c.loop-other.first.me.0.joined (seat_note seat)) xs) (sym all) inv.noted
