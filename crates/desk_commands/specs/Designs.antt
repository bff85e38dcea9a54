-- Designs as the program reads them.
use Rattle.std.specs.Prelude.{◌≡◌, ℕ, List, Option, Some}
use Rattle.desk_outside.specs.declared.shelf.File.{File}
use Rattle.diagnosis.specs.declared.texts.ReadDesign.{ReadDesign}
use Rattle.diagnosis.specs.Texts.{ReadTexts, Source}
use Rattle.diagnosis.specs.ReadDesigns as of_texts
use Rattle.desk_commands.specs.declared.design.FileSource.{FileSource}
use Rattle.desk_commands.specs.declared.files.Refusal.{Refusal}
use Rattle.desk_commands.specs.FileReadings.{files_source}
use Rattle.command_words.specs.CommandViews.{shown_files}

abbrev pub shown_design : ReadDesign (List ℕ) → ReadTexts
shown_design d = of_texts.shown_design (λ text. text) d

-- the texts are those of the files of these names, which the shelf tells
abbrev pub AreFilesOf : FileSource → Option (List File) → Source (List ℕ) Refusal → Type 0
AreFilesOf files seen source = (held : List File) × (seen ≡ Some held) × (source ≡ files_source held (shown_files files.names))
