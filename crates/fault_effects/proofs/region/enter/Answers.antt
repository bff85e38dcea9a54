use Rattle.std.proofs.Common.{List, length, sym, subst}
use Rattle.std.specs.Prelude.{All}
use Rattle.std.proofs.lemmas.List.Elements.{All-push}
use Rattle.fault_effects.specs.declared.region.Member.{Member}
use Rattle.fault_effects.specs.Regions.{ShowsAs, IsEntered}
use Rattle.fault_effects.proofs.region.enter.Goals as goal
use Rattle.fault_effects.proofs.region.enter.Goals.{in-Some, in-None+in_ok-lanes-in-None}

pub returns-clause-region : goal.returns-clause-region
returns-clause-region g c =
    let o = c.args.work.now.observer.now in
    let m = g.O.Observer.model o in
    let b = g.O.Observer.block o in
    let region = c.match-upstream_lanes.region in
    let lanes = c.match-upstream_lanes.lanes in
    let member : Member = record { net = c.args.net; lanes = lanes } in
    let told : IsEntered (g.O.Observer.holds o) m b (length c.args.work.now.parts.now.netlist.nets) region c.args.net lanes = elim c.match-upstream_lanes.branch [
      | in-Some w ↦ rw (w.region-is, w.lanes-is) w.in-Some.ensures
      | in-None+in_ok-lanes-in-None w ↦ rw (w.region-is, w.lanes-is) w.in_ok-lanes-in-None.ensures.region
    ] in
    let Each : List Member → Type 0 = All (λ x. ShowsAs m b told.region.root x.net x.lanes) in
    record {
      region = record {
        root = told.region.root;
        held = told.region.held;
        flip = told.region.flip;
        members = subst Each (sym c.in_ok-push.ensures.items) (All-push (λ x. ShowsAs m b told.region.root x.net x.lanes) region.members.items member told.region.members told.shows);
        path = told.region.path;
      };
      shows = told.shows;
    }
