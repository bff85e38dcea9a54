-- The commands as `clap` knows them, and what it finds of their words.
use Rattle.std.specs.Prelude.{Bool, true, false, List, [], ◌∷◌, Some, unwrap_or, codes}
use Rattle.clap.specs.Words.{App, Row, Rule, Text, all_of, first_of, new_app, new_rule, with_rule}
use Rattle.command_words.specs.declared.argument.Argument.{Argument}
use Rattle.command_words.specs.declared.table.Task.{Task}
use Rattle.command_words.specs.Arguments.{name_of}
use Rattle.command_words.specs.Table.{Form}
use Rattle.command_words.specs.Invocations.{Invocation, asked_by}

-- an argument of one word
abbrev pub argument : Text → Rule
argument name = record (new_rule name) { required = true }

-- an argument of one word or more
abbrev pub arguments : Text → Rule
arguments name = record (argument name) { range = Some (record { start_inclusive = 1; end_inclusive = 18446744073709551615 }) }

-- the command with these arguments too
abbrev pub with_arguments : App → List Argument → App
with_arguments app [] = app
with_arguments app (a ∷ rest) = with_arguments (with_rule app (argument (name_of a))) rest

-- and with one for its logs, where it has logs
abbrev pub with_logs : Bool → App → App
with_logs true app = with_rule app (arguments (codes "log"))
with_logs false app = app

abbrev pub app_of_form : Form → App
app_of_form form = with_logs form.has_logs (with_arguments (new_app form.word) form.arguments)

-- the word that was found of each argument, and those that were found of the logs
module _ (rows : List Row) where
  abbrev pub found_word : Argument → Text
  found_word a = unwrap_or (first_of (name_of a) rows) []

  abbrev pub found_logs : List Text
  found_logs = unwrap_or (all_of (codes "log") rows) []

  -- what is asked for by these words
  abbrev pub asked_in : Task → Invocation
  asked_in = asked_by found_word found_logs
