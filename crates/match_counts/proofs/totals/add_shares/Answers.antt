use Rattle.std.proofs.Common.{length}
use Rattle.match_counts.proofs.AddedShares.{all_added, all_at_most}
use Rattle.match_counts.proofs.totals.add_shares.Goals as goal

pub returns-clause-sums : goal.returns-clause-sums
returns-clause-sums c = all_added (length c.args.added.now) c.fill.new.self (c.fill.ensures.after (λ y e. e)) c.args.totals.now c.args.shares.now c.add_more.new.added c.add_more.new.totals c.add_more.ensures

pub returns-clause-at_most : goal.returns-clause-at_most
returns-clause-at_most c = all_at_most (length c.args.added.now) c.fill.new.self (c.fill.ensures.after (λ y e. e)) c.args.totals.now c.args.shares.now c.add_more.new.added c.add_more.new.totals c.add_more.ensures
