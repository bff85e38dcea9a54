use Rattle.std.proofs.Common.{◌≡◌, ◌∷◌, ◌++◌, [], get_or, append_assoc, ap, sym, ◌∙◌}
use Rattle.std.specs.Prelude.{codes, decimal}
use Rattle.std.proofs.lemmas.Option.{get_or_from_slice_get}
use Rattle.scan_model.specs.declared.fault.Fault.{Fault}
use Rattle.scan_model.specs.Universe.{universe}
use Rattle.scan_model.specs.ReportText.{spaced, fault_words, no_fault}
use Rattle.fault_universe.proofs.SpacedWords.{words_more, space_before}
use Rattle.slat_view.proofs.Texts.{words_there, line_ended}
use Rattle.slat_view.proofs.text.place_line.Goals as goal

pub returns : goal.returns
returns c =
    let t = c.args.parts.now in
    let f = c.in-Some.fault in
    let text = c.args.text.now in
    let word = codes "fault" in
    let digits = decimal c.args.place in
    let is_fault : get_or (universe t) c.args.place no_fault ≡ f = get_or_from_slice_get (universe t) c.args.place f no_fault (sym c.in-Some.ensures.fault) in
    let written : c.push_fault.new.line ≡ text ++ spaced ((word ∷ digits ∷ []) ++ fault_words t (get_or (universe t) c.args.place no_fault)) =
    c.in_ok-push_fault.ensures
    ∙ rw (c.in_ok-push.ensures.ok, c.in_ok-push_number.ensures, c.in_ok-append.ensures.ok, c.from.ensures, append_assoc text word (32 ∷ digits)) (space_before (text ++ spaced (word ∷ digits ∷ [])) (fault_words t f) (words_there t f))
    ∙ words_more text word (digits ∷ []) (fault_words t f)
    ∙ ap (λ (x : Fault). text ++ spaced ((word ∷ digits ∷ []) ++ fault_words t x)) (sym is_fault) in
    line_ended c.push-2.result text c.push-2.new.self c.push_fault.new.line (spaced ((word ∷ digits ∷ []) ++ fault_words t (get_or (universe t) c.args.place no_fault))) written c.push-2.ensures.ok
