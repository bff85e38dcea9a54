-- Files that are read one after another, up to the first that doesn't serve.
use Rattle.std.specs.Prelude.{ℕ, List, length, nat_le, if◌then◌else◌, Option, None, Some, Result, Ok, Err}
use Rattle.desk_outside.specs.declared.shelf.File.{File}
use Rattle.desk_outside.specs.Files.{text_of}
use Rattle.diagnosis.specs.declared.section.DesignText.{DesignText}
use Rattle.diagnosis.specs.declared.section.DesignText.TheVariants.{Netlist, Scan, Patterns, Neighbours}
use Rattle.diagnosis.specs.Texts as texts
use Rattle.desk_commands.specs.declared.files.Refusal.{Refusal}
use Rattle.desk_commands.specs.declared.files.Refusal.TheVariants.{Absent, TooLong, Rule}
use Rattle.command_words.specs.Invocations.{DesignNames}

-- the longest file that is read, in bytes
abbrev pub file_limit : ℕ
file_limit = 16777216

-- what files come to: a value, or the name of the first that is refused and why; and the names of those that are read, in their order
abbrev pub Reading : Type 0 → Type 0
Reading X = texts.Reading (List ℕ) Refusal X

-- the text of a file, where it serves
abbrev pub served : Option (List ℕ) → Result (List ℕ) Refusal
served None = Err Absent
served (Some text) = if nat_le (length text) file_limit then Ok text else Err TooLong

abbrev pub file_place : List File → List ℕ → texts.Place (List ℕ) Refusal
file_place files name = record { name = name; text = served (text_of files name) }

-- why a file is refused for the first fault of its text, a line and a rule
abbrev pub for_fault : ℕ × ℕ → Refusal
for_fault fault = Rule (record { line = fault.0; rule = fault.1 })

-- what the text of a file stands for by its rules
abbrev pub file_reading : {X : Type 0} → List File → (List ℕ → Result X (ℕ × ℕ)) → List ℕ → Reading X
file_reading files reads name = texts.one_text (file_place files name) (λ text. texts.by_rules for_fault (reads text))

-- the files of a design, in its profile
abbrev pub files_source : List File → DesignNames → texts.Source (List ℕ) Refusal
files_source files names = record {
  profile = names.profile;
  netlist = file_place files names.netlist;
  scan = file_place files names.scan;
  patterns = file_place files names.patterns;
  neighbours = file_place files names.neighbours;
  rule = for_fault;
}

-- the name of one of them
abbrev pub name_of : DesignNames → DesignText → List ℕ
name_of names Netlist = names.netlist
name_of names Scan = names.scan
name_of names Patterns = names.patterns
name_of names Neighbours = names.neighbours
