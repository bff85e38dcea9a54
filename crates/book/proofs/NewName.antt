-- A design that fits has a new name.
use Rattle.std.proofs.Common.{◌≡◌, ℕ, List, true, ◌&&◌, get_or, Option, Some, None, refl, map}
use Rattle.std.specs.Prelude.{is_none}
use Rattle.std.specs.List.{position}
use Rattle.std.specs.Result.{is_ok}
use Rattle.std.specs.Str.{bytes_eq}
use Rattle.std.proofs.lemmas.Option.{slice_get-get_or}
use Rattle.desk_outside.specs.declared.deed.Deed.{Deed}
use Rattle.scan_model.specs.Words.{is_tag}
use Rattle.diagnosis.specs.Bundle.{bundle_reading}
use Rattle.diagnosis.specs.Designs.{DesignFacts}
use Rattle.book.specs.Deeds.{designs, design_text}
use Rattle.book.specs.LegalDeeds.{fits}
use Rattle.book.specs.Kinds.{named, design_deed}
use Rattle.book.proofs.Growing.{and_left, and_right}
use Rattle.book.proofs.NumberedDesign.{found_design, position_at}

none_from : {X : Type 0} (o : Option X) → is_none o ≡ true → o ≡ None
none_from None e = refl
none_from (Some x) e = absurd cc

module _ (deeds : List Deed) (by : ℕ) (d : DesignFacts) (fit : fits deeds (design_deed by d).what ≡ true) where
  pub text_is_new : design_text deeds d.name ≡ None
  text_is_new = none_from (design_text deeds d.name)
      (and_left (is_none (design_text deeds d.name)) (is_ok (bundle_reading d.text)) (and_right (is_tag d.name) (is_none (design_text deeds d.name) && is_ok (bundle_reading d.text)) fit))

  -- no design has the name of one that fits
  pub name_is_new : (kept : List DesignFacts) → map named kept ≡ designs deeds → position (λ e. bytes_eq e.name d.name) kept ≡ None
  name_is_new kept same = by_place (position (λ e. bytes_eq e.name d.name) kept) refl
    where
      by_place : (o : Option ℕ) → position (λ e. bytes_eq e.name d.name) kept ≡ o → position (λ e. bytes_eq e.name d.name) kept ≡ None
      by_place None e = e
      by_place (Some i) e =
          let found = found_design deeds kept d.name same i (get_or kept i d) e (slice_get-get_or kept i d (position_at (λ x. bytes_eq x.name d.name) kept i e).1) in
          let there : design_text deeds d.name ≡ Some (get_or kept i d).text = found.text in
          let absent = text_is_new in absurd cc
