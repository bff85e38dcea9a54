use Rattle.std.proofs.Common.{◌≡◌, [], ◌∷◌, ◌++◌, length, ap, ◌∙◌, arith}
use Rattle.std.proofs.lemmas.List.{length-append}
use Rattle.book.proofs.RowsAhead.{one_asked}
use Rattle.book.proofs.ahead.asking.ask.Goals as goal

pub returns-then-room-eq0-clause-answers : goal.returns-then-room-eq0-clause-answers
returns-then-room-eq0-clause-answers g c = λ told before seen le.
    let inv = c.loop-row.invariant in
    one_asked told before (g.K.Keeper.faults c.loop-row.keeper) (g.K.Keeper.faults c.row-answer.new.self) c.args.first c.loop-row.row c.loop-row.answers.items c.push_back.new.self.items c.row-answer.result (inv.answers told before seen le) inv.count
    (omega (arith, le, inv.later)) c.row-answer.ensures.later (λ rows is. c.row-answer.ensures.told rows (inv.same ∙ seen ∙ is)) c.row-answer.ensures.failed c.in_ok-push_back.ensures.items

pub loop-row-preserved : goal.loop-row-preserved
loop-row-preserved g c =
    let inv = c.loop-row.invariant in
    let long : length c.push_back.new.self.items ≡ length (c.loop-row.answers.items ++ c.row-answer.result ∷ []) = ap length c.in_ok-push_back.ensures.items in
    record {
      answers = λ told before seen le.
          one_asked told before (g.K.Keeper.faults c.loop-row.keeper) (g.K.Keeper.faults c.row-answer.new.self) c.args.first c.loop-row.row c.loop-row.answers.items c.push_back.new.self.items c.row-answer.result (inv.answers told before seen le) inv.count
          (omega (arith, le, inv.later)) c.row-answer.ensures.later (λ rows is. c.row-answer.ensures.told rows (inv.same ∙ seen ∙ is)) c.row-answer.ensures.failed c.in_ok-push_back.ensures.items;
      count = omega (arith, long, inv.count, length-append c.loop-row.answers.items (c.row-answer.result ∷ []));
      same = c.row-answer.ensures.same ∙ inv.same;
      later = omega (arith, inv.later, c.row-answer.ensures.later);
    }
