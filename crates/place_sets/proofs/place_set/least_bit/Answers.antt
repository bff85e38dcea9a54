use Rattle.place_sets.proofs.PlaceWords.{no_bit, some_bit}
use Rattle.place_sets.proofs.place_set.least_bit.Goals as goal

pub returns-then-rest-eq0 : goal.returns-then-rest-eq0
returns-then-rest-eq0 c = no_bit c.args.word c.args.low c.requires c.if-rest-eq0.true

pub returns-else-rest-eq0 : goal.returns-else-rest-eq0
returns-else-rest-eq0 c = some_bit c.args.word c.args.low c.requires c.ranges.word.fits c.if-rest-eq0.false
