-- Files as places of texts.
use Rattle.std.proofs.Common.{◌≡◌, ◌∙◌, ◌<◌, ◌≤◌, ℕ, true, false, nat_le, List, Option, Some, None, IsSomeAnd, Result, Ok, Err, IfOk, IfErr, refl, sym, ap, subst, length, arith}
use Rattle.std.proofs.lemmas.Bool.Decides.{nat_tests}
use Rattle.desk_outside.specs.declared.shelf.File.{File}
use Rattle.desk_outside.specs.Files.{text_of}
use Rattle.design_bundle.specs.FourTexts.{four}
use Rattle.diagnosis.specs.declared.section.DesignText.{DesignText}
use Rattle.diagnosis.specs.declared.section.DesignText.TheVariants.{Netlist, Scan, Patterns, Neighbours}
use Rattle.diagnosis.specs.Texts.{Place, Source}
use Rattle.diagnosis.specs.TextHalts.{IsHad, HaltsAt, place_of}
use Rattle.desk_commands.specs.declared.design.FileSource.{FileSource}
use Rattle.desk_commands.specs.declared.files.Refusal.{Refusal}
use Rattle.desk_commands.specs.declared.files.Refusal.TheVariants.{Absent, TooLong, Rule}
use Rattle.desk_commands.specs.declared.files.Stop.{Stop}
use Rattle.desk_commands.specs.declared.files.Stop.TheVariants.{Refused, Fault, NoMemory}
use Rattle.command_words.specs.Invocations.{DesignNames}
use Rattle.desk_commands.specs.FileReadings.{file_limit, served, file_place, files_source, name_of}
use Rattle.command_words.specs.CommandViews.{shown_files}
use Rattle.desk_commands.specs.CommandStops.{StopsAt, halt_of}
use Rattle.desk_commands.specs.Designs.{AreFilesOf}
use Rattle.scan_model.specs.declared.fault.Profile.{Profile}

-- ---- a file

is_too_long : (text : Option (List ℕ)) → IsSomeAnd text (λ t. file_limit < length t) → served text ≡ Err TooLong
is_too_long None long = absurd long
is_too_long (Some text) long = let over : nat_le (length text) file_limit ≡ false = grind (arith, nat_tests) in rw over refl

module _ (files : List File) (name : List ℕ) where
  -- a file that doesn't serve
  pub halts_at : (stop : Stop) → StopsAt (text_of files name) name stop → HaltsAt (file_place files name) (halt_of stop)
  halts_at (Refused n Absent) is = (is.0, rw is.1 refl)
  halts_at (Refused n TooLong) is = (is.0, is_too_long (text_of files name) is.1)
  halts_at (Refused n (Rule fault)) is = absurd is.1
  halts_at (Fault n) is = is
  halts_at NoMemory is = tt

  -- one that does
  pub serves_as : (text : List ℕ) → text_of files name ≡ Some text → length text ≤ file_limit → served (text_of files name) ≡ Ok text
  serves_as text held within = let fits : nat_le (length text) file_limit ≡ true = grind (arith, nat_tests) in rw (held, fits) refl

  pub is_had : (result : Result (List ℕ) Stop) → IfOk result (λ text. text_of files name ≡ Some text) → IfOk result (λ text. length text ≤ file_limit)
      → IfErr result (StopsAt (text_of files name) name) → IsHad (λ text. text) halt_of (file_place files name) result
  is_had (Ok text) held within stops = serves_as text held within
  is_had (Err stop) held within stops = halts_at stop stops

-- ---- the files of a design

pub place_is : (files : List File) (names : DesignNames) (part : DesignText) → place_of (files_source files names) part ≡ file_place files (name_of names part)
place_is files names Netlist = refl
place_is files names Scan = refl
place_is files names Patterns = refl
place_is files names Neighbours = refl

module _ (files : FileSource) (part : DesignText) (seen : Option (List File)) (source : Source (List ℕ) Refusal) (tells : AreFilesOf files seen source)
    (name : List ℕ) (named : name ≡ name_of (shown_files files.names) part) where
  file_of_design : place_of source part ≡ file_place tells.0 name
  file_of_design =
      ap (λ (s : Source (List ℕ) Refusal). place_of s part) tells.2 ∙ place_is tells.0 (shown_files files.names) part ∙ ap (file_place tells.0) (sym named)

  pub design_had : (result : Result (List ℕ) Stop) → ((held : List File) → seen ≡ Some held → IfOk result (λ text. text_of held name ≡ Some text))
      → IfOk result (λ text. length text ≤ file_limit) → ((held : List File) → seen ≡ Some held → IfErr result (StopsAt (text_of held name) name))
      → IsHad (λ text. text) halt_of (place_of source part) result
  design_had result held within stops =
      subst (λ (place : Place (List ℕ) Refusal). IsHad {S = Stop} (λ (text : List ℕ). text) halt_of place result) (sym file_of_design)
      (is_had tells.0 name result (held tells.0 tells.1) within (stops tells.0 tells.1))

-- texts that are the same one by one
pub same_four : (profile profile' : Profile) (netlist netlist' scan scan' patterns patterns' neighbours neighbours' : List ℕ) → profile ≡ profile' → netlist ≡ netlist' → scan ≡ scan' → patterns ≡ patterns'
    → neighbours ≡ neighbours' → four profile netlist scan patterns neighbours ≡ four profile' netlist' scan' patterns' neighbours'
same_four profile profile' netlist netlist' scan scan' patterns patterns' neighbours neighbours' o p q r s = rw (o, p, q, r, s) refl
