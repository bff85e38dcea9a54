use Rattle.std.proofs.Common.{ℕ, ◌<◌, List, length, sym, subst}
use Rattle.std.specs.Prelude.{All}
use Rattle.std.proofs.lemmas.List.Elements.{All-nil, All-push}
use Rattle.fault_effects.proofs.region.climb.Goals as goal

pub loop-init : goal.loop-init
loop-init g c = record {
  at = c.requires.net;
  region = record {
    root = c.requires.region.root;
    held = c.requires.region.held;
    flip = c.requires.region.flip;
    members = c.requires.region.members;
    path = rw c.clear.ensures.items (All-nil _);
  };
}

pub loop-preserved : goal.loop-preserved
loop-preserved g c =
    let Below : ℕ → Type 0 = λ n. n < length c.args.work.now.parts.now.netlist.nets in
    let Each : List ℕ → Type 0 = All Below in
    let gate = c.in-Some.reader.gate in
    let there : Below gate = c.in-Some.ensures.operand.there in
    let before = c.loop.invariant.region in
    record {
      at = there;
      region = record {
        root = before.root;
        held = before.held;
        flip = before.flip;
        members = before.members;
        path = subst Each (sym c.in_ok-push.ensures.items) (All-push Below c.loop.region.path.items gate before.path there);
      };
    }
