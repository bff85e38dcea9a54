use Rattle.std.proofs.Common.{ℕ, ◌<◌, length}
use Rattle.std.proofs.lemmas.List.Elements.{All-pop}
use Rattle.fault_effects.proofs.region.descend.Goals as goal

pub returns-in_default-clause-region : goal.returns-in_default-clause-region
returns-in_default-clause-region g c =
    let Below : ℕ → Type 0 = λ n. n < length c.args.work.now.parts.now.netlist.nets in
    let before = c.loop.invariant.region in
    record {
      root = before.root;
      held = before.held;
      flip = before.flip;
      members = before.members;
      path = (All-pop Below c.loop.region.path.items c.pop.new.self.items c.pop.result c.pop.ensures.items before.path).0;
    }

pub enter-requires-clause-region : goal.enter-requires-clause-region
enter-requires-clause-region g c =
    let Below : ℕ → Type 0 = λ n. n < length c.args.work.now.parts.now.netlist.nets in
    let before = c.loop.invariant.region in
    record {
      root = before.root;
      held = before.held;
      flip = before.flip;
      members = before.members;
      path = (All-pop Below c.loop.region.path.items c.pop.new.self.items c.pop.result c.pop.ensures.items before.path).0;
    }

pub enter-requires-clause-net : goal.enter-requires-clause-net
enter-requires-clause-net g c =
    let Below : ℕ → Type 0 = λ n. n < length c.args.work.now.parts.now.netlist.nets in
    rw c.in-Some.is at (All-pop Below c.loop.region.path.items c.pop.new.self.items c.pop.result c.pop.ensures.items c.loop.invariant.region.path).1

pub loop-preserved : goal.loop-preserved
loop-preserved g c = record {
  scratch = c.enter.ensures.scratch;
  kept = c.in_ok-enter.ensures.kept;
  region = c.in_ok-enter.ensures.region.region;
}
