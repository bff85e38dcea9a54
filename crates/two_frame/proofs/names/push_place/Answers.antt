use Rattle.std.proofs.Common.{◌≡◌, ◌++◌, get_or, ap, sym, ◌∙◌}
use Rattle.std.proofs.lemmas.Option.{get_or_from_slice_get}
use Rattle.std.proofs.lemmas.Result.{on_ok_weaker}
use Rattle.scan_model.specs.declared.fault.Fault.{Fault}
use Rattle.scan_model.specs.Universe.{universe}
use Rattle.scan_model.specs.ReportText.{no_fault}
use Rattle.fault_universe.specs.LineWords.{after_spaces}
use Rattle.fault_universe.proofs.SpacedWords.{space_before}
use Rattle.two_frame.specs.TwoFrame.{transitions, slow_words}
use Rattle.two_frame.proofs.SlowPlaces.{slow_at, words_there}
use Rattle.two_frame.proofs.names.push_place.Goals as goal

pub returns : goal.returns
returns c =
    let t = c.args.parts.now in
    let f = c.in-Some.fault in
    let line = c.args.line.now in
    let is_fault : get_or (transitions t) c.args.place no_fault ≡ f = slow_at t c.args.place no_fault c.requires ∙ get_or_from_slice_get (universe t) c.args.place f no_fault (sym c.in-Some.ensures.fault) in
    on_ok_weaker c.push_slow.result
    (λ done. done ∙ rw c.in_ok-push.ensures.ok (space_before line (slow_words t f) (words_there t f)) ∙ ap (λ (x : Fault). line ++ after_spaces (slow_words t x)) (sym is_fault))
    c.push_slow.ensures
