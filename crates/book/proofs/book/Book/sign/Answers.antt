use Rattle.std.proofs.Common.{◌≡◌, ◌<◌, ℕ, List, true, length, refl, sym, ap, ◌∙◌, subst, rules}
use Rattle.sha2.specs.Sha256.{sha256}
use Rattle.std.specs.Str.{bytes_eq}
use Rattle.diagnosis.specs.Designs.{ViewFacts, view_report, IsDesign}
use Rattle.desk_outside.specs.declared.deed.DeedKind.TheVariants.{Sign}
use Rattle.book.specs.LegalDeeds.{fits}
use Rattle.book.specs.Changes.{BookFacts, IsBook}
use Rattle.book.specs.Kinds.{sign_deed}
use Rattle.book.proofs.Changing.{book_after, unchanged, digest_differs}
use Rattle.book.proofs.Fitting.{sign_fits_at}
use Rattle.book.proofs.book.Book.sign.Goals as goal

pub returns-then-not-is_same_digest : goal.returns-then-not-is_same_digest
returns-then-not-is_same_digest g c =
    let v = c.args.checked.now in
    unchanged _ _ _ c.args.self.now (subst IsBook c.self.view_is c.self.invariant)
    (digest_differs c.args.self.now.limit c.args.self.now.deeds v.design.name v.die (length v.logs) (sha256 (view_report v)) c.digest.result.now c.args.signer.now c.args.digest.now c.digest.ensures.value (sym c.is_same_digest.ensures ∙ c.if-not-is_same_digest.true)) refl

pub record_sign-requires : goal.record_sign-requires
record_sign-requires g c =
    let design : IsDesign c.args.checked.now.design =
    subst IsDesign (c.design.ensures ∙ ap (λ (v : ViewFacts). v.design) c.view-view.ensures) c.name-design.ensures.design in
    record {
      fits =
          sign_fits_at c.self.inside.kept.deeds c.args.self.now.deeds c.args.checked.now c.name-design.result.now c.die-die.result.now c.in_ok-copy_of.field-0 c.as_slice.result.now c.args.digest.now c.revision-revision.result c.in_ok-place.place c.in-Created.number
          design c.requires.view c.digest.ensures.some (search rules) (subst (λ (r : List ℕ). bytes_eq c.args.digest.now r ≡ true) c.digest.ensures.value (sym c.is_same_digest.ensures ∙ c.if-not-is_same_digest.false)) (sym (ap (λ (b : BookFacts). b.deeds) c.self.view_is))
          (search rules) (search rules) (search rules) (search rules) c.in_ok-place.ensures c.in-Created.is;
    }

pub invariant_of-self-2 : goal.invariant_of-self-2
invariant_of-self-2 g c =
    let design : IsDesign c.args.checked.now.design =
    subst IsDesign (c.design.ensures ∙ ap (λ (v : ViewFacts). v.design) c.view-view.ensures) c.name-design.ensures.design in
    let one : fits c.self.inside.kept.deeds (Sign c.name-design.result.now c.die-die.result.now c.revision-revision.result c.in_ok-copy_of.field-0 c.args.digest.now) ≡ true =
    sign_fits_at c.self.inside.kept.deeds c.args.self.now.deeds c.args.checked.now c.name-design.result.now c.die-die.result.now c.in_ok-copy_of.field-0 c.as_slice.result.now c.args.digest.now c.revision-revision.result c.in_ok-place.place c.in-Created.number
    design c.requires.view c.digest.ensures.some (search rules) (subst (λ (r : List ℕ). bytes_eq c.args.digest.now r ≡ true) c.digest.ensures.value (sym c.is_same_digest.ensures ∙ c.if-not-is_same_digest.false)) (sym (ap (λ (b : BookFacts). b.deeds) c.self.view_is))
    (search rules) (search rules) (search rules) (search rules) c.in_ok-place.ensures c.in-Created.is in
    let room : length c.self.inside.kept.deeds < c.self.inside.limit = subst (λ (b : BookFacts). length b.deeds < b.limit) (sym c.self.view_is) c.in_ok-has_room.ensures.room in
    book_after c.record_sign.result (sign_deed c.args.by c.name-design.result.now c.die-die.result.now (record { revision = c.revision-revision.result; signer = c.in_ok-copy_of.field-0; digest = c.args.digest.now })) _ _ c.self.invariant room one c.record_sign.ensures.deeds refl c.record_sign.ensures.rows
