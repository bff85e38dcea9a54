use Rattle.std.proofs.Common.{ap, ◌∙◌, arith}
use Rattle.std.proofs.lemmas.List.{map_push}
use Rattle.bench_reader.specs.NetUses.{use_view, use_views}
use Rattle.bench_reader.proofs.NetsByName.{operand_used}
use Rattle.bench_reader.proofs.first_round.add_operands.Goals as goal

pub loop-i-preserved : goal.loop-i-preserved
loop-i-preserved c = record {
  uses =
      operand_used c.args.line c.args.net c.loop-i.i (use_views c.args.uses.now.items) (use_views c.loop-i.uses.items) (use_views c.push_reserved.new.self.items) c.args.operands.now _ c.loop-i-test.true c.loop-i.invariant.uses
      (ap use_views c.push_reserved.ensures.items ∙ map_push use_view c.loop-i.uses.items _);
  room = omega (arith, c.push_reserved.ensures.len, c.push_reserved.ensures.capacity, c.loop-i.invariant.room);
}
