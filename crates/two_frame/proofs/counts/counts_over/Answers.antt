use Rattle.std.proofs.Common.{◌≡◌, ◌^◌, ◌<◌, List, length, sym, ap, subst, ◌∙◌}
use Rattle.std.specs.Prelude.{All, filter}
use Rattle.std.specs.List.{range_with_len}
use Rattle.std.proofs.lemmas.Result.{IfOk-weaker}
use Rattle.scan_model.specs.Coverage.{bits_of}
use Rattle.fault_effects.specs.declared.suspect.Suspect.{Suspect}
use Rattle.fault_effects.specs.Owners.{IsSuspectOf, places_of}
use Rattle.match_counts.specs.Totals.{AreTotals, candidates_in}
use Rattle.two_frame.specs.TwoFrame.{transitions, frame_class, frame_fails, frame_candidates}
use Rattle.two_frame.specs.FrameRows.{transition_at}
use Rattle.two_frame.specs.FanInMarks.{AreReaching, reaches}
use Rattle.two_frame.proofs.FrameSuspects.{suspects_in}
use Rattle.two_frame.proofs.FanInMarks.{reaching_candidates}
use Rattle.two_frame.proofs.counts.counts_over.Goals as goal

pub owners_of-requires-clause-few : goal.owners_of-requires-clause-few
owners_of-requires-clause-few c = let Few : List Suspect → Type 0 = λ xs. length xs < 2 ^ 32 in subst Few (sym c.as_slice.ensures) c.in_ok-suspects.ensures.few

pub returns : goal.returns
returns c = λ logs stands.
    let t = c.args.parts.now in
    let suspects = c.as_slice-3.result.now in
    let marks = c.deref.result.now in
    let classes = frame_class t logs in
    let fails = frame_fails t in
    let Are : List Suspect → Type 0 = All (IsSuspectOf t) in
    let are = subst Are (sym c.as_slice-3.ensures) c.in_ok-suspects.ensures.each in
    let Below : List Suspect → Type 0 = All (λ s. s.place < length (transitions t)) in
    let below = subst Below (sym c.as_slice-3.ensures) c.in_ok-suspects.ensures.below in
    let reaching = subst (AreReaching t logs) (sym c.deref.ensures.value) (c.in_ok-marks.ensures.marks logs stands) in
    let places : places_of suspects ≡ filter (λ p. reaches t marks (transition_at t p)) (range_with_len 0 (length (transitions t))) = ap places_of c.as_slice-3.ensures ∙ c.in_ok-suspects.ensures.places in
    let Whole : List Suspect → Type 0 = λ xs. AreTotals (bits_of t) classes fails xs c.in_ok-totals.totals in
    let whole = subst Whole (c.as_slice-2.ensures ∙ sym c.as_slice-3.ensures) (c.in_ok-totals.ensures.totals logs stands) in
    IfOk-weaker c.list_candidates.result (λ rows. rows ≡ candidates_in (transitions t) (bits_of t) classes fails (places_of suspects)) (λ rows. rows ≡ frame_candidates t logs)
    (λ rows is. is ∙ ap (candidates_in (transitions t) (bits_of t) classes fails) places
    ∙ reaching_candidates t c.circuit.ensures.fits c.order.result.now (rw c.circuit.ensures.value at c.order.ensures) logs marks reaching)
    (c.list_candidates.ensures (transitions t) (bits_of t) classes fails (suspects_in t suspects are below) whole)
