use Rattle.std.proofs.Common.{ℕ, ◌<◌, length}
use Rattle.std.proofs.lemmas.List.Elements.{All-pop}
use Rattle.fault_effects.proofs.flip_order.Listing.put_region.Goals as goal

pub loop-init : goal.loop-init
loop-init c = record {
  listing = c.in_ok-put.ensures.listing;
  root = c.in_ok-put.ensures.seen;
  kept = c.in_ok-put.ensures.kept;
}

pub returns-in_default-clause-listing : goal.returns-in_default-clause-listing
returns-in_default-clause-listing c =
    let Below : ℕ → Type 0 = λ n. n < length c.args.parts.now.netlist.nets in
    let before = c.loop.invariant.listing in
    record {
      count = before.count;
      within = before.within;
      due = (All-pop Below c.loop.self.due.items c.pop.new.self.items c.pop.result c.pop.ensures.items before.due).0;
      listed = before.listed;
    }

pub put-requires-in-loop-clause-net : goal.put-requires-in-loop-clause-net
put-requires-in-loop-clause-net c =
    let Below : ℕ → Type 0 = λ n. n < length c.args.parts.now.netlist.nets in
    rw c.in-Some.is at (All-pop Below c.loop.self.due.items c.pop.new.self.items c.pop.result c.pop.ensures.items c.loop.invariant.listing.due).1

pub put-requires-in-loop-clause-listing : goal.put-requires-in-loop-clause-listing
put-requires-in-loop-clause-listing c =
    let Below : ℕ → Type 0 = λ n. n < length c.args.parts.now.netlist.nets in
    let before = c.loop.invariant.listing in
    record {
      count = before.count;
      within = before.within;
      due = (All-pop Below c.loop.self.due.items c.pop.new.self.items c.pop.result c.pop.ensures.items before.due).0;
      listed = before.listed;
    }

pub loop-preserved : goal.loop-preserved
loop-preserved c = record {
  listing = c.in_ok-put-2.ensures.listing;
  root = c.in_ok-put-2.ensures.kept c.args.root c.loop.invariant.root;
  kept = λ n seen. c.in_ok-put-2.ensures.kept n (c.loop.invariant.kept n seen);
}
