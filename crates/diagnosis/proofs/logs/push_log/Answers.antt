use Rattle.std.proofs.Common.{rules, ◌≡◌, ◌+◌, ◌∙◌, ◌∷◌, [], Global, Some, None, ap, sym, refl, map, length, false}
use Rattle.std.specs.Prelude.{position}
use Rattle.std.specs.Arc.{arc_value}
use Rattle.std.specs.declared.sync.Arc.{Arc}
use Rattle.std.specs.Str.{bytes_eq}
use Rattle.std.proofs.lemmas.List.{map-append, length-map, length-append}
use Rattle.scan_model.specs.Words.{has_word}
use Rattle.diagnosis.specs.declared.log.ReadLog.{ReadLog}
use Rattle.diagnosis.specs.Designs.{ReadLogFacts, texts_of}
use Rattle.diagnosis.proofs.Places.{found_at, found_nowhere}
use Rattle.diagnosis.proofs.logs.push_log.Goals as goal

pub returns-in-Some-clause-added : goal.returns-in-Some-clause-added
returns-in-Some-clause-added c =
    let texts = texts_of (map (λ (log : Arc ReadLog Global). arc_value log) c.args.logs.now) in
    let text = (arc_value c.args.log).text in
    let same : c.text.result.now ≡ text = c.text.ensures ∙ ap (λ (l : ReadLogFacts). l.text) c.deref.ensures in
    let at : position (bytes_eq text) texts ≡ Some c.in-Some.place = rw (← c.as_slice.ensures, ← same) (sym c.place_of.ensures ∙ c.in-Some.is) in
    let found = found_at (bytes_eq text) texts c.in-Some.place at in
    (found.0, ap (λ n. n + 1) found.1, refl)

pub returns-clause-added : goal.returns-clause-added
returns-clause-added c =
    let logs = c.args.logs.now in
    let shown = map (λ (log : Arc ReadLog Global). arc_value log) in
    let text = (arc_value c.args.log).text in
    let same : c.text.result.now ≡ text = c.text.ensures ∙ ap (λ (l : ReadLogFacts). l.text) c.deref.ensures in
    let nowhere : c.place_of.result ≡ None = search rules in
    let is_new : has_word (texts_of (shown logs)) text ≡ false = found_nowhere (bytes_eq text) (texts_of (shown logs)) (rw (← c.as_slice.ensures, ← same) (sym c.place_of.ensures ∙ nowhere)) in
    let now : length c.push.new.self ≡ length logs + 1 = ap length c.in_ok-push.ensures.ok ∙ length-append logs (c.args.log ∷ []) in
    let number : c.len-number.result ≡ length (shown logs) + 1 = c.len-number.ensures ∙ now ∙ ap (λ n. n + 1) (sym (length-map logs (λ (log : Arc ReadLog Global). arc_value log))) in
    (is_new, number, ap shown c.in_ok-push.ensures.ok ∙ map-append (λ (log : Arc ReadLog Global). arc_value log) logs (c.args.log ∷ []))
