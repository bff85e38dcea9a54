use Rattle.std.proofs.Common.{◌≡◌, ◌<◌, ◌++◌, length, get_or, ap, sym, ◌∙◌, arith}
use Rattle.std.proofs.lemmas.Option.{get_or_from_slice_get}
use Rattle.std.proofs.lemmas.Result.{on_ok_weaker}
use Rattle.scan_model.specs.declared.fault.Fault.{Fault}
use Rattle.scan_model.specs.declared.fault.Fault.TheVariants.{Stem, Branch, Bridge, Cell}
use Rattle.scan_model.specs.ScanTest.{ScanTest}
use Rattle.scan_model.specs.Universe.{universe}
use Rattle.scan_model.specs.ReportText.{fault_words, no_fault}
use Rattle.fault_universe.specs.LineWords.{after_spaces}
use Rattle.fault_universe.proofs.SpacedWords.{space_before}
use Rattle.diag_report.proofs.names.push_place.Goals as goal

-- a fault has words
words_there : (t : ScanTest) (f : Fault) → 0 < length (fault_words t f)
words_there t (Stem n v) = omega arith
words_there t (Branch p v) = omega arith
words_there t (Bridge a b kind) = omega arith
words_there t (Cell h i kind) = omega arith

pub returns : goal.returns
returns c =
    let t = c.args.parts.now in
    let f = c.in-Some.fault in
    let line = c.args.line.now in
    let is_fault : get_or (universe t) c.args.place no_fault ≡ f = get_or_from_slice_get (universe t) c.args.place f no_fault (sym c.in-Some.ensures.fault) in
    on_ok_weaker c.push_fault.result
    (λ done. done ∙ rw c.in_ok-push.ensures.ok (space_before line (fault_words t f) (words_there t f)) ∙ ap (λ (x : Fault). line ++ after_spaces (fault_words t x)) (sym is_fault))
    c.push_fault.ensures
