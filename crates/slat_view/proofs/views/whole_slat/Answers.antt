use Rattle.std.proofs.Common.{◌≡◌, ◌∙◌, ℕ, ◌+◌, ◌*◌, ◌/◌, ◌%◌, ◌<◌, Global, List, length, ap, sym, subst, map, arith}
use Rattle.std.specs.Prelude.{All, Contains, IfOk}
use Rattle.std.specs.Arc.{arc_value}
use Rattle.std.specs.declared.sync.Arc.{Arc}
use Rattle.scan_model.specs.declared.logs.LogFacts.{LogFacts}
use Rattle.scan_model.specs.ScanTest.{ScanTest}
use Rattle.scan_model.specs.Response.{expected_rows}
use Rattle.log_join.specs.Joining.{StandsFor}
use Rattle.packed_sim.specs.PackedParts.{BelongsTo}
use Rattle.fault_effects.specs.Owners.{places_of}
use Rattle.diagnosis.specs.declared.log.ReadLog.{ReadLog}
use Rattle.diagnosis.specs.Designs.{DesignFacts, ReadLogFacts, StandsOver, facts_of}
use Rattle.diagnosis.specs.DesignRows.{rows_in}
use Rattle.diagnosis.specs.Cases.{case_of}
use Rattle.diagnosis.proofs.Cases.{logs_stand}
use Rattle.diagnosis.proofs.Views.{view_is_case}
use Rattle.slat_view.specs.WholeCounts.{IsWholeOf}
use Rattle.slat_view.proofs.views.whole_slat.Goals as goal

pub joined_of-requires : goal.joined_of-requires
joined_of-requires g c =
    let v = c.args.view.now in
    let d = c.design-design.result.now in
    let t = c.parts-parts.result.now in
    let logs = facts_of (map (λ (log : Arc ReadLog Global). arc_value log) c.as_slice.result.now) in
    let is_t : t ≡ v.design.test = c.parts-parts.ensures.value ∙ ap (λ (x : DesignFacts). x.test) c.design-design.ensures in
    let stand : All (StandsOver v.design.test) v.logs = logs_stand (case_of v) (view_is_case v c.logs.ensures.view) in
    let Over : ScanTest → Type 0 = λ x. All (StandsOver x) (map (λ (log : Arc ReadLog Global). arc_value log) c.as_slice.result.now) in
    let Of : List ReadLogFacts → Type 0 = λ ls. All (StandsOver v.design.test) ls in
    record { stand = subst Over (sym is_t) (subst Of (sym (ap (λ (ls : List (Arc ReadLog Global)). map (λ (log : Arc ReadLog Global). arc_value log) ls) c.as_slice.ensures ∙ c.logs.ensures.logs)) stand) }

pub make-requires-clause-expected : goal.make-requires-clause-expected
make-requires-clause-expected g c = c.expected-expected.ensures ∙ ap expected_rows (sym c.parts-parts.ensures.value)

pub make-requires-clause-good : goal.make-requires-clause-good
make-requires-clause-good g c = subst (BelongsTo c.parts-parts.result.now) (sym c.good.ensures) (subst (λ (t : ScanTest). BelongsTo t (rows_in c.in_ok-rows.rows)) (sym c.parts-parts.ensures.value) c.in_ok-rows.ensures)

pub whole_of-requires-clause-trials : goal.whole_of-requires-clause-trials
whole_of-requires-clause-trials g c κs within = record { expected = c.expected-expected.ensures ∙ ap expected_rows (sym c.parts-parts.ensures.value); die = c.in_ok-die.ensures.prepared }

pub returns-clause-whole : goal.returns-clause-whole
returns-clause-whole g c =
    let v = c.args.view.now in
    let t = c.parts-parts.result.now in
    let logs = facts_of (map (λ (log : Arc ReadLog Global). arc_value log) c.as_slice.result.now) in
    let is_t : t ≡ v.design.test = c.parts-parts.ensures.value ∙ ap (λ (x : DesignFacts). x.test) c.design-design.ensures in
    let are_logs : logs ≡ facts_of v.logs = ap facts_of (ap (λ (ls : List (Arc ReadLog Global)). map (λ (log : Arc ReadLog Global). arc_value log) ls) c.as_slice.ensures ∙ c.logs.ensures.logs) in
    let made : IfOk c.whole_of.result (IsWholeOf t logs) = c.whole_of.ensures.whole logs (subst (StandsFor logs) (sym c.in_ok-die.ensures.joined) c.in_ok-joined.ensures.stands) (c.in_ok-die.ensures.fits logs c.in_ok-joined.ensures.stands) in
    let of_test : IfOk c.whole_of.result (IsWholeOf v.design.test logs) = subst (λ (x : ScanTest). IfOk c.whole_of.result (IsWholeOf x logs)) is_t made in
    subst (λ (ls : List LogFacts). IfOk c.whole_of.result (IsWholeOf v.design.test ls)) are_logs of_test
