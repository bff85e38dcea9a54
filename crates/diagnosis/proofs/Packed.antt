-- The bundle of four texts has them in its sections, each ended, and reads as they do.
use Rattle.std.proofs.Common.{◌≡◌, ℕ, ◌+◌, true, false, List, [], ◌∷◌, ◌++◌, length, map, cond, option_map, Ok, None, refl, ap, ◌∙◌}
use Rattle.std.specs.Prelude.{codes}
use Rattle.std.specs.List.{All, slice_split}
use Rattle.std.specs.Str.{bytes_eq}
use Rattle.std.proofs.lemmas.List.Splits.{slice_split-cons_yes, slice_split_at, slice_split_none}
use Rattle.scan_model.specs.declared.fault.Profile.{Profile}
use Rattle.scan_model.specs.declared.fault.Profile.TheVariants.{One, Two}
use Rattle.scan_model.specs.ScanTest.{ScanTest}
use Rattle.scan_model.specs.Lines.{text_lines, line_at, pieces}
use Rattle.scan_model.specs.TextFaults.{first_fault}
use Rattle.scan_model.specs.ReportText.{concatenated}
use Rattle.text_parts.specs.TextEnd.{is_ended, ended}
use Rattle.design_bundle.specs.FourTexts.{FourTexts}
use Rattle.design_bundle.specs.Bundle.{is_mark, sections, texts_in, bundle_rule, marks_fault, profile_line, profile_of, behind_line, marked_part, lines_on, lines_before, bundle_fault, bundle_texts, marked_text, named_text, bundle_text}
use Rattle.diagnosis.specs.Bundle.{texts_reading, refused_or_read, bundle_reading}
use Rattle.diagnosis.proofs.Ended.{ended-is_ended, lines_behind, pieces_behind, concatenated_pieces, unmarked_lines}
use Rattle.diagnosis.proofs.EndedReadings.{ended_texts, ended_read}
use Rattle.diagnosis.proofs.AreUnmarked.{AreUnmarked}
use Rattle.diagnosis.proofs.Markers.{markers_in_order}

-- ---- a bundle that is cut behind its lines

module _ (cut : List ℕ → List (List ℕ)) (behind : (text : List ℕ) → is_ended text ≡ true → (rest : List ℕ) → cut (text ++ rest) ≡ cut text ++ cut rest) where
  cut_text : (marker text rest : List ℕ) → is_ended marker ≡ true → cut (marker ++ (ended text ++ rest)) ≡ cut marker ++ (cut (ended text) ++ cut rest)
  cut_text marker text rest e = behind marker e (ended text ++ rest) ∙ ap (λ ls. cut marker ++ ls) (behind (ended text) (ended-is_ended text) rest)

  cut_bundle : (texts : FourTexts) → cut (marked_text texts)
      ≡ cut (codes "%netlist\n") ++ (cut (ended texts.netlist) ++ (cut (codes "%scan\n") ++ (cut (ended texts.scan) ++ (cut (codes "%patterns\n") ++ (cut (ended texts.patterns) ++ (cut (codes "%neighbours\n") ++ cut (ended texts.neighbours)))))))
  cut_bundle texts =
      let from_neighbours : List ℕ = codes "%neighbours\n" ++ ended texts.neighbours in
      let from_patterns : List ℕ = codes "%patterns\n" ++ (ended texts.patterns ++ from_neighbours) in
      let from_scan : List ℕ = codes "%scan\n" ++ (ended texts.scan ++ from_patterns) in
      cut_text (codes "%netlist\n") texts.netlist from_scan refl
      ∙ ap (λ ls. cut (codes "%netlist\n") ++ (cut (ended texts.netlist) ++ ls)) (
      cut_text (codes "%scan\n") texts.scan from_patterns refl
      ∙ ap (λ ls. cut (codes "%scan\n") ++ (cut (ended texts.scan) ++ ls)) (
      cut_text (codes "%patterns\n") texts.patterns from_neighbours refl
      ∙ ap (λ ls. cut (codes "%patterns\n") ++ (cut (ended texts.patterns) ++ ls)) (behind (codes "%neighbours\n") refl (ended texts.neighbours))))

-- ---- rule 81 and the sections

-- four lists behind their markers
split_at_markers : (netlist scan patterns neighbours : List (List ℕ))
    → All (λ piece. is_mark piece ≡ false) netlist → All (λ piece. is_mark piece ≡ false) scan → All (λ piece. is_mark piece ≡ false) patterns → All (λ piece. is_mark piece ≡ false) neighbours
    → slice_split is_mark (codes "%netlist\n" ∷ (netlist ++ (codes "%scan\n" ∷ (scan ++ (codes "%patterns\n" ∷ (patterns ++ (codes "%neighbours\n" ∷ neighbours)))))))
    ≡ [] ∷ netlist ∷ scan ∷ patterns ∷ neighbours ∷ []
split_at_markers netlist scan patterns neighbours n s p g =
    let from_patterns : List (List ℕ) = patterns ++ (codes "%neighbours\n" ∷ neighbours) in
    let from_scan : List (List ℕ) = scan ++ (codes "%patterns\n" ∷ from_patterns) in
    slice_split-cons_yes is_mark (codes "%netlist\n") (netlist ++ (codes "%scan\n" ∷ from_scan)) refl
    ∙ ap (λ parts. [] ∷ parts) (slice_split_at is_mark netlist (codes "%scan\n") from_scan n refl)
    ∙ ap (λ parts. [] ∷ netlist ∷ parts) (slice_split_at is_mark scan (codes "%patterns\n") from_patterns s refl)
    ∙ ap (λ parts. [] ∷ netlist ∷ scan ∷ parts) (slice_split_at is_mark patterns (codes "%neighbours\n") neighbours p refl)
    ∙ ap (λ parts. [] ∷ netlist ∷ scan ∷ patterns ∷ parts) (slice_split_none is_mark neighbours g)

whole : (text : List ℕ) → concatenated (pieces (ended text)) ≡ ended text
whole text = concatenated_pieces (ended text) (ended-is_ended text)

module _ (texts : FourTexts) (unmarked : AreUnmarked texts) where
  pub no_mark_fault : marks_fault (marked_text texts) ≡ None
  no_mark_fault =
      ap (λ ls. first_fault (bundle_rule ls) (length ls + 1)) (cut_bundle text_lines lines_behind texts)
      ∙ markers_in_order (text_lines (ended texts.netlist)) (text_lines (ended texts.scan)) (text_lines (ended texts.patterns)) (text_lines (ended texts.neighbours))
      (unmarked_lines (ended texts.netlist) (ended-is_ended texts.netlist) unmarked.netlist)
      (unmarked_lines (ended texts.scan) (ended-is_ended texts.scan) unmarked.scan)
      (unmarked_lines (ended texts.patterns) (ended-is_ended texts.patterns) unmarked.patterns)
      (unmarked_lines (ended texts.neighbours) (ended-is_ended texts.neighbours) unmarked.neighbours)

  pub sections_are : sections (marked_text texts) ≡ [] ∷ ended texts.netlist ∷ ended texts.scan ∷ ended texts.patterns ∷ ended texts.neighbours ∷ []
  sections_are =
      ap (λ ps. map concatenated (slice_split is_mark ps)) (cut_bundle pieces pieces_behind texts)
      ∙ ap (map concatenated) (split_at_markers (pieces (ended texts.netlist)) (pieces (ended texts.scan)) (pieces (ended texts.patterns)) (pieces (ended texts.neighbours)) unmarked.netlist unmarked.scan unmarked.patterns unmarked.neighbours)
      ∙ rw (whole texts.netlist, whole texts.scan, whole texts.patterns, whole texts.neighbours) refl

  pub texts_are : texts_in texts.profile (marked_text texts) ≡ ended_texts texts
  texts_are = rw sections_are refl

  -- the first line of the marked part is a marker, and so names no profile
  first_line : line_at (text_lines (marked_text texts)) 0 ≡ codes "%netlist"
  first_line = ap (λ ls. line_at ls 0) (cut_bundle text_lines lines_behind texts)

  names_itself : (profile : Profile) → profile_of (named_text profile (marked_text texts)) ≡ profile
  names_itself One = ap (λ line. cond (bytes_eq line profile_line) Two One) first_line
  names_itself Two = ap (λ ls. cond (bytes_eq (line_at ls 0) profile_line) Two One) (lines_behind (codes "%profile 2\n") refl (marked_text texts))

  marked_itself : (profile : Profile) → marked_part (named_text profile (marked_text texts)) ≡ marked_text texts
  marked_itself One = ap (λ line. cond (bytes_eq line profile_line) (behind_line (marked_text texts)) (marked_text texts)) first_line
  marked_itself Two =
      let named : List ℕ = codes "%profile 2\n" ++ marked_text texts in
      ap (λ ls. cond (bytes_eq (line_at ls 0) profile_line) (behind_line named) named) (lines_behind (codes "%profile 2\n") refl (marked_text texts))

  pub no_fault : bundle_fault (bundle_text texts) ≡ None
  no_fault =
      ap (λ part. option_map (lines_on (lines_before (profile_of (bundle_text texts)))) (marks_fault part)) (marked_itself texts.profile)
      ∙ ap (option_map (lines_on (lines_before (profile_of (bundle_text texts))))) no_mark_fault

  pub bundled_are : bundle_texts (bundle_text texts) ≡ ended_texts texts
  bundled_are = ap (λ part. texts_in (profile_of (bundle_text texts)) part) (marked_itself texts.profile) ∙ ap (λ profile. texts_in profile (marked_text texts)) (names_itself texts.profile) ∙ texts_are

  pub unmarked_reads : (t : ScanTest) → texts_reading texts ≡ Ok t → bundle_reading (bundle_text texts) ≡ Ok t
  unmarked_reads t e = ap (λ fault. refused_or_read fault (bundle_texts (bundle_text texts))) no_fault ∙ ap texts_reading bundled_are ∙ ended_read texts t e
