use Rattle.std.proofs.Common.{take}
use Rattle.match_counts.proofs.AddedShares.{none_added, room_left, next_added}
use Rattle.match_counts.proofs.totals.add_more.Goals as goal

pub loop-share-init : goal.loop-share-init
loop-share-init c = none_added c.args.added.now c.args.totals.now

pub add_share-requires-clause-room : goal.add_share-requires-clause-room
add_share-requires-clause-room c = room_left (take c.loop-share.share-index c.args.shares.now) c.args.added.now c.args.totals.now c.loop-share.added c.loop-share.totals c.loop-share.invariant c.requires.room

pub loop-share-preserved : goal.loop-share-preserved
loop-share-preserved c = next_added c.args.shares.now c.loop-share.share-index c.args.added.now c.loop-share.added c.add_share.new.added c.args.totals.now c.loop-share.totals c.add_share.new.totals c.loop-share-test.true c.loop-share.invariant c.add_share.ensures
