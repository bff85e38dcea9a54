use Rattle.std.proofs.Common.{◌≡◌, ◌∙◌, ℕ, ◌+◌, ◌*◌, ◌/◌, ◌%◌, ◌<◌, Global, List, length, ap, sym, subst, map, arith}
use Rattle.std.specs.Prelude.{All, Contains, IfOk}
use Rattle.std.specs.Arc.{arc_value}
use Rattle.std.specs.declared.sync.Arc.{Arc}
use Rattle.std.proofs.lemmas.Result.{IfOk-weaker}
use Rattle.scan_model.specs.declared.logs.LogFacts.{LogFacts}
use Rattle.scan_model.specs.declared.logs.Scored.{Scored}
use Rattle.scan_model.specs.ScanTest.{ScanTest}
use Rattle.scan_model.specs.MatchCounts.{candidates}
use Rattle.scan_model.specs.Response.{expected_rows}
use Rattle.log_join.specs.Joining.{StandsFor}
use Rattle.packed_sim.specs.PackedParts.{BelongsTo}
use Rattle.fault_effects.specs.Owners.{places_of}
use Rattle.diagnosis.specs.declared.log.ReadLog.{ReadLog}
use Rattle.diagnosis.specs.Designs.{DesignFacts, ReadLogFacts, StandsOver, facts_of}
use Rattle.diagnosis.specs.DesignRows.{rows_in}
use Rattle.diagnosis.specs.Cases.{case_of}
use Rattle.diagnosis.proofs.Cases.{logs_stand}
use Rattle.diagnosis.proofs.Views.{view_is_case}
use Rattle.slat_view.specs.declared.slat.Slat.{Slat}
use Rattle.slat_view.specs.Slat.{failing_patterns, slat_rows, fitting_places}
use Rattle.slat_view.specs.Tests.{IsSlatUpTo, fitting_among}
use Rattle.slat_view.proofs.FittingCandidates.{fitting_listed}
use Rattle.slat_view.proofs.views.slat_places.Goals as goal

pub joined_of-requires : goal.joined_of-requires
joined_of-requires g c =
    let v = c.args.view.now in
    let d = c.design-design.result.now in
    let t = c.parts-parts.result.now in
    let logs = facts_of (map (λ (log : Arc ReadLog Global). arc_value log) c.as_slice.result.now) in
    let is_t : t ≡ v.design.test = c.parts-parts.ensures.value ∙ ap (λ (x : DesignFacts). x.test) c.design-design.ensures in
    let stand : All (StandsOver v.design.test) v.logs = logs_stand (case_of v) (view_is_case v c.logs.ensures.view) in
    let Over : ScanTest → Type 0 = λ x. All (StandsOver x) (map (λ (log : Arc ReadLog Global). arc_value log) c.as_slice.result.now) in
    let Of : List ReadLogFacts → Type 0 = λ ls. All (StandsOver v.design.test) ls in
    record { stand = subst Over (sym is_t) (subst Of (sym (ap (λ (ls : List (Arc ReadLog Global)). map (λ (log : Arc ReadLog Global). arc_value log) ls) c.as_slice.ensures ∙ c.logs.ensures.logs)) stand) }

pub make-requires-clause-expected : goal.make-requires-clause-expected
make-requires-clause-expected g c = c.expected-expected.ensures ∙ ap expected_rows (sym c.parts-parts.ensures.value)

pub make-requires-clause-good : goal.make-requires-clause-good
make-requires-clause-good g c = subst (BelongsTo c.parts-parts.result.now) (sym c.good.ensures) (subst (λ (t : ScanTest). BelongsTo t (rows_in c.in_ok-rows.rows)) (sym c.parts-parts.ensures.value) c.in_ok-rows.ensures)

pub block-requires-clause-trials : goal.block-requires-clause-trials
block-requires-clause-trials g c κs within = record { expected = c.expected-expected.ensures ∙ ap expected_rows (sym c.parts-parts.ensures.value); die = c.in_ok-die.ensures.prepared }

pub block-requires-clause-block : goal.block-requires-clause-block
block-requires-clause-block g c κs within =
    let v = c.args.view.now in
    let d = c.design-design.result.now in
    let t = c.parts-parts.result.now in
    let logs = facts_of (map (λ (log : Arc ReadLog Global). arc_value log) c.as_slice.result.now) in
    let is_t : t ≡ v.design.test = c.parts-parts.ensures.value ∙ ap (λ (x : DesignFacts). x.test) c.design-design.ensures in
    omega (arith, c.in_ok-die.ensures.prepared.good.rows.count, ap (λ (x : ScanTest). length x.patterns) is_t, c.requires)

pub block-requires-clause-small : goal.block-requires-clause-small
block-requires-clause-small g c =
    let is_t : c.parts-parts.result.now ≡ c.args.view.now.design.test = c.parts-parts.ensures.value ∙ ap (λ (x : DesignFacts). x.test) c.design-design.ensures in
    omega (arith, c.patterns.ensures.fits.patterns.few, ap (λ (x : ScanTest). length x.patterns) is_t, c.requires)

pub returns-clause-places : goal.returns-clause-places
returns-clause-places g c =
    let v = c.args.view.now in
    let d = c.design-design.result.now in
    let t = c.parts-parts.result.now in
    let logs = facts_of (map (λ (log : Arc ReadLog Global). arc_value log) c.as_slice.result.now) in
    let is_t : t ≡ v.design.test = c.parts-parts.ensures.value ∙ ap (λ (x : DesignFacts). x.test) c.design-design.ensures in
    let are_logs : logs ≡ facts_of v.logs = ap facts_of (ap (λ (ls : List (Arc ReadLog Global)). map (λ (log : Arc ReadLog Global). arc_value log) ls) c.as_slice.ensures ∙ c.logs.ensures.logs) in
    let stands = c.in_ok-joined.ensures.stands in
    let w = c.args.pattern in
    let within : w < length t.patterns = omega (arith, c.requires, ap (λ (x : ScanTest). length x.patterns) is_t) in
    let here : 512 * (w / 512) + w % 512 ≡ w = omega arith in
    let lane_lt : w % 512 < 512 = omega arith in
    let block = c.in_ok-tried.ensures logs (subst (StandsFor logs) (sym c.in_ok-die.ensures.joined) stands) in
    let found = block.fits (w % 512) lane_lt (omega (arith, here, within)) in
    let places = places_of c.in_ok-die.die.suspects in
    let is : fitting_among t logs (512 * (w / 512) + w % 512) places ≡ fitting_places v.design.test (facts_of v.logs) w =
    ap (λ (n : ℕ). fitting_among t logs n places) here
    ∙ c.in_ok-die.ensures.fits logs stands w within
    ∙ ap (λ (x : ScanTest). fitting_places x logs w) is_t
    ∙ ap (λ (ls : List LogFacts). fitting_places v.design.test ls w) are_logs in
    IfOk-weaker c.places_with.result _ (λ ps. ps ≡ fitting_places v.design.test (facts_of v.logs) w) (λ ps shown. shown ∙ rw c.as_slice-2.ensures (found ∙ is)) c.places_with.ensures

pub returns-clause-candidates : goal.returns-clause-candidates
returns-clause-candidates g c =
    let v = c.args.view.now in
    let logs = facts_of v.logs in
    let All_of : List ℕ → Type 0 = All (Contains (map (λ (row : Scored). row.place) (candidates v.design.test logs))) in
    IfOk-weaker c.places_with.result (λ ps. ps ≡ fitting_places v.design.test logs c.args.pattern) All_of
    (λ ps is. subst All_of (sym is) (fitting_listed v.design.test logs c.args.pattern c.requires)) (returns-clause-places g c)
