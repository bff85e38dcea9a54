use Rattle.std.proofs.Common.{◌≡◌, ◌-◌, ℕ, ◌<◌, true, List, length, sym, subst}
use Rattle.std.specs.Prelude.{All}
use Rattle.std.proofs.lemmas.Option.{get_or_from_slice_get, slice_get_within}
use Rattle.scan_model.specs.ScanTest.{ScanTest}
use Rattle.lane_rows.specs.GoodRows.{pattern_of}
use Rattle.fault_effects.specs.declared.region.Member.{Member}
use Rattle.fault_effects.specs.Readers.{IsPinOf}
use Rattle.fault_effects.specs.Regions.{ShowsAs}
use Rattle.fault_effects.proofs.Effects.{through_reader, through_both}
use Rattle.fault_effects.proofs.region.upstream_lanes.Goals as goal

pub downstream-lanes-requires-clause-pin : goal.downstream-lanes-requires-clause-pin
downstream-lanes-requires-clause-pin g c = rw c.requires.work.test c.in_ok-reader.ensures.only.there

pub returns : goal.returns
returns g c =
    let work = c.requires.work in
    let o = c.args.work.now.observer.now in
    let t = c.args.work.now.parts.now in
    let m = g.O.Observer.model o in
    let b = g.O.Observer.block o in
    let region = c.requires.region in
    let root = region.root in
    let members = c.deref.result.now in
    let i = length members - 1 in
    let last = c.in_ok-last.last.now in
    let reader = c.in_ok-reader.reader in
    let sole = c.in_ok-reader.ensures in
    let told = sym c.in_ok-last.ensures.value in
    let Shown : Member → Type 0 = λ x. ShowsAs m b root x.net x.lanes in
    let Each : List Member → Type 0 = All Shown in
    let each : Each members = subst Each (sym c.deref.ensures.value) region.members in
    let member : Shown last = subst Shown (get_or_from_slice_get members i last last told) (each i last (slice_get_within members i last told)) in
    let Above : ℕ → Type 0 = λ n. ShowsAs m b root n last.lanes in
    let Of : ScanTest → Type 0 = λ x. IsPinOf x reader.pin reader.gate in
    let step = through_reader t work.faults m work.model b c.args.net reader c.downstream-lanes.result sole
    (λ (j : ℕ) (lt : j < 512) (captured : m.captures (pattern_of b j) ≡ true). c.downstream-lanes.ensures reader.gate j (subst Of (sym work.test) sole.operand) lt captured) in
    record {
      region = region;
      shows = through_both m b root c.args.net reader.gate c.downstream-lanes.result last.lanes c.and.result step (subst Above (sym c.if-reader-last.false) member) c.and.ensures;
    }
