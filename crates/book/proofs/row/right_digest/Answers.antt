use Rattle.std.proofs.Common.{ℕ, List, ◌&&◌, nat_le, length, is_some, IfOk, IfSome, ◌≡◌, sym, ap, ◌∙◌, subst, rules}
use Rattle.std.specs.Arc.{arc_value}
use Rattle.std.proofs.lemmas.List.{length-map}
use Rattle.sha2.specs.Sha256.{sha256}
use Rattle.diagnosis.specs.Designs.{DesignFacts, ReadLogFacts}
use Rattle.die_entries.specs.Entries.{arc_values}
use Rattle.book.specs.Deeds.{die_logs, report_at}
use Rattle.book.proofs.Showing.{some_is}
use Rattle.book.proofs.RowSigns.{none_within, is_kept, kept_report, kept_showable, kept_signed, kept_count}
use Rattle.book.proofs.DesignsAhead.{all_one, found_in}
use Rattle.book.proofs.row.right_digest.Goals as goal

pub returns-in_default-clause-within : goal.returns-in_default-clause-within
returns-in_default-clause-within g c = none_within c.args.kept.now.deeds c.args.design.now c.args.die.now c.args.revision c.requires.fit (search rules)

pub digest_at-requires-clause-showable : goal.digest_at-requires-clause-showable
digest_at-requires-clause-showable g c κs within =
    let found = some_is _ _ _ c.in-Some.is c.design.ensures.some in
    let d : DesignFacts = arc_value c.in-Some.found.design.now in
    let logs : List ReadLogFacts = arc_values c.logs-logs.result.now in
    let kept = is_kept c.args.kept.now.deeds c.deref.result.now d c.in-Some.found.number c.name.result.now c.args.design.now c.args.die.now logs c.in-Some-2.die_found.now.logs c.signs-signs.result.now c.in-Some-2.die_found.now.signs
    c.requires.fit c.deref.ensures c.name.ensures.design c.name.ensures.value found (some_is _ _ _ c.in-Some-2.is c.in_ok-die_found.ensures.some) c.logs-logs.ensures c.signs-signs.ensures in
    kept_showable c.args.kept.now.deeds d c.args.die.now logs c.signs-signs.result.now kept

pub digest_at-requires-clause-signed : goal.digest_at-requires-clause-signed
digest_at-requires-clause-signed g c κs within =
    let found = some_is _ _ _ c.in-Some.is c.design.ensures.some in
    let d : DesignFacts = arc_value c.in-Some.found.design.now in
    let logs : List ReadLogFacts = arc_values c.logs-logs.result.now in
    let kept = is_kept c.args.kept.now.deeds c.deref.result.now d c.in-Some.found.number c.name.result.now c.args.design.now c.args.die.now logs c.in-Some-2.die_found.now.logs c.signs-signs.result.now c.in-Some-2.die_found.now.signs
    c.requires.fit c.deref.ensures c.name.ensures.design c.name.ensures.value found (some_is _ _ _ c.in-Some-2.is c.in_ok-die_found.ensures.some) c.logs-logs.ensures c.signs-signs.ensures in
    kept_signed c.args.kept.now.deeds d c.args.die.now logs c.signs-signs.result.now kept

pub returns-clause-right : goal.returns-clause-right
returns-clause-right g c =
    let found = some_is _ _ _ c.in-Some.is c.design.ensures.some in
    let d : DesignFacts = arc_value c.in-Some.found.design.now in
    let logs : List ReadLogFacts = arc_values c.logs-logs.result.now in
    let kept = is_kept c.args.kept.now.deeds c.deref.result.now d c.in-Some.found.number c.name.result.now c.args.design.now c.args.die.now logs c.in-Some-2.die_found.now.logs c.signs-signs.result.now c.in-Some-2.die_found.now.signs
    c.requires.fit c.deref.ensures c.name.ensures.design c.name.ensures.value found (some_is _ _ _ c.in-Some-2.is c.in_ok-die_found.ensures.some) c.logs-logs.ensures c.signs-signs.ensures in
    let same : report_at c.args.kept.now.deeds d.name c.args.die.now c.args.revision ≡ report_at c.args.kept.now.deeds c.args.design.now c.args.die.now c.args.revision =
    ap (λ (n : List ℕ). report_at c.args.kept.now.deeds n c.args.die.now c.args.revision) found.named in
    subst (λ (report : List ℕ). IfOk c.digest_at.result (λ r. IfSome r (λ digest. digest ≡ sha256 report))) (kept_report c.args.kept.now.deeds d c.args.die.now logs c.signs-signs.result.now kept c.args.revision ∙ same) c.digest_at.ensures.right

pub returns-clause-within : goal.returns-clause-within
returns-clause-within g c =
    let found = some_is _ _ _ c.in-Some.is c.design.ensures.some in
    let d : DesignFacts = arc_value c.in-Some.found.design.now in
    let logs : List ReadLogFacts = arc_values c.logs-logs.result.now in
    let kept = is_kept c.args.kept.now.deeds c.deref.result.now d c.in-Some.found.number c.name.result.now c.args.design.now c.args.die.now logs c.in-Some-2.die_found.now.logs c.signs-signs.result.now c.in-Some-2.die_found.now.signs
    c.requires.fit c.deref.ensures c.name.ensures.design c.name.ensures.value found (some_is _ _ _ c.in-Some-2.is c.in_ok-die_found.ensures.some) c.logs-logs.ensures c.signs-signs.ensures in
    let count : length c.logs-logs.result.now ≡ length (die_logs c.args.kept.now.deeds c.args.design.now c.args.die.now) =
    sym (length-map c.logs-logs.result.now (λ l. arc_value l)) ∙ kept_count c.args.kept.now.deeds d c.args.die.now logs c.signs-signs.result.now kept ∙ ap (λ (n : List ℕ). length (die_logs c.args.kept.now.deeds n c.args.die.now)) found.named in
    subst (λ (n : ℕ). IfOk c.digest_at.result (λ r. is_some r ≡ (nat_le 1 c.args.revision && nat_le c.args.revision n))) count c.digest_at.ensures.within

pub digest_at-requires-clause-foreseen : goal.digest_at-requires-clause-foreseen
digest_at-requires-clause-foreseen g c κs within =
    let found = some_is _ _ _ c.in-Some.is c.design.ensures.some in
    let d : DesignFacts = arc_value c.in-Some.found.design.now in
    all_one c.args.kept.now.deeds d c.args.foreseen.now (found_in c.args.kept.now.deeds c.deref.result.now d c.args.design.now c.in-Some.found.number c.deref.ensures c.name.ensures.design found) c.requires.foreseen
