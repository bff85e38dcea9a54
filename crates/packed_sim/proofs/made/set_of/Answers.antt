use Rattle.std.proofs.Common.{true≢false, sym, ◌∙◌, arith}
use Rattle.place_sets.specs.Places.{has_place}
use Rattle.packed_sim.proofs.Observed.{listed_in, only_listed, all_listed}
use Rattle.packed_sim.proofs.made.set_of.Goals as goal

pub loop-net-init : goal.loop-net-init
loop-net-init c = record {
  wide = c.in_ok-set.ensures.room;
  all = λ k lt. absurd (omega arith);
  only = λ n is. absurd (true≢false (sym is ∙ c.in_ok-set.ensures.empty n));
}

pub loop-net-preserved : goal.loop-net-preserved
loop-net-preserved c =
    let listed = c.args.listed.now in
    let before = has_place c.loop-net.set in
    let after = has_place c.insert.new.self in
    record {
      wide = omega (arith, c.loop-net.invariant.wide, c.insert.ensures.room);
      all = listed_in listed c.loop-net.net-index before after c.loop-net-test.true c.insert.ensures.places c.loop-net.invariant.all;
      only = only_listed listed c.loop-net.net-index before after c.loop-net-test.true c.insert.ensures.places c.loop-net.invariant.only;
    }

pub returns : goal.returns
returns c = λ n. (all_listed c.args.listed.now (has_place c.loop-net.set) (λ k lt. c.loop-net.invariant.all k (omega (arith, lt, c.loop-net-test.false))) n, c.loop-net.invariant.only n)
