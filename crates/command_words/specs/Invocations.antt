-- What right words ask for.
use Rattle.std.specs.Prelude.{◌≡◌, ◌≤◌, ℕ, ◌+◌, Bool, true, false, if◌then◌else◌, List, [], ◌∷◌, length, drop, Option, None, Some, option_map}
use Rattle.std.specs.Str.{bytes_eq}
use Rattle.scan_model.specs.Words.{is_tag, number_of}
use Rattle.scan_model.specs.declared.fault.Profile.{Profile}
use Rattle.command_words.specs.declared.argument.Argument.{Argument}
use Rattle.command_words.specs.declared.argument.Argument.TheVariants as argument
use Rattle.command_words.specs.declared.table.Product.{Product}
use Rattle.command_words.specs.declared.table.Product.TheVariants.{Summary, Bundle}
use Rattle.command_words.specs.declared.table.Task.{Task}
use Rattle.command_words.specs.declared.table.Task.TheVariants as task
use Rattle.command_words.specs.Words.{word_at}
use Rattle.command_words.specs.Arguments.{name_of}
use Rattle.command_words.specs.Table.{Form}
use Rattle.command_words.specs.RightWords.{form_named}

-- the files of a design, by their names, and the profile in which they are read
pub record DesignNames : Type 0 where
  pub profile : Profile
  pub netlist : List ℕ
  pub scan : List ℕ
  pub patterns : List ℕ
  pub neighbours : List ℕ

-- and the tags of a design and a die, the name of the channels of a compactor, and the names of the logs
pub record Request : Type 0 where
  pub design : List ℕ
  pub die : List ℕ
  pub files : DesignNames
  pub channels : List ℕ
  pub logs : List (List ℕ)

-- the connections of a port over a store
pub record Service : Type 0 where
  pub port : ℕ
  pub workers : ℕ
  pub sessions : ℕ
  pub store : List ℕ

-- a product of a request, the demonstration, or a service
pub data Invocation : Type 0 where
  making : Product → Request → Invocation
  -- a seed and a number of blocks
  trying : ℕ → ℕ → Invocation
  serving : Service → Invocation

-- ---- the word of each argument, and those that are left for logs

-- where the words from a place on are those of these arguments; empty where the argument isn't one of them
abbrev pub word_among : List Argument → ℕ → List (List ℕ) → Argument → List ℕ
word_among [] place words a = []
word_among (b ∷ rest) place words a = if bytes_eq (name_of a) (name_of b) then word_at words place else word_among rest (place + 1) words a

module _ (form : Form) (words : List (List ℕ)) where
  abbrev pub word_for : Argument → List ℕ
  word_for = word_among form.arguments 1 words

  abbrev pub log_words : List (List ℕ)
  log_words = if form.has_logs then drop (length form.arguments + 1) words else []

-- ---- what they ask for

abbrev pub number_or_zero : Option ℕ → ℕ
number_or_zero None = 0
number_or_zero (Some n) = n

abbrev pub number_for : (Argument → List ℕ) → Argument → ℕ
number_for word_of a = number_or_zero (number_of (word_of a))

module _ (word_of : Argument → List ℕ) (logs : List (List ℕ)) where
  abbrev pub request_by : Profile → Request
  request_by profile = record {
    design = word_of argument.Design;
    die = word_of argument.Die;
    files = record {
      profile = profile;
      netlist = word_of argument.Netlist;
      scan = word_of argument.Scan;
      patterns = word_of argument.Patterns;
      neighbours = word_of argument.Neighbours;
    };
    channels = word_of argument.Channels;
    logs = logs;
  }

  abbrev pub service_by : Service
  service_by = record {
    port = number_for word_of argument.Port;
    workers = number_for word_of argument.Workers;
    sessions = number_for word_of argument.Sessions;
    store = word_of argument.Store;
  }

  abbrev pub asked_by : Task → Invocation
  asked_by (task.Make product profile) = making product (request_by profile)
  asked_by task.Demo = trying (number_for word_of argument.Seed) (number_for word_of argument.Blocks)
  asked_by task.Serve = serving service_by

-- the words of this command
abbrev pub asked_of : List (List ℕ) → Form → Invocation
asked_of words form = asked_by (word_for form words) (log_words form words) form.task

-- what words ask for, nothing where they are no command's
abbrev pub asked : List (List ℕ) → Option Invocation
asked words = option_map (asked_of words) (form_named words)

-- ---- which of the commands

abbrev pub serves : Option Invocation → Bool
serves None = false
serves (Some (making product request)) = false
serves (Some (trying seed blocks)) = false
serves (Some (serving service)) = true

-- one of the commands that come to a page
abbrev pub comes_to_page : Option Invocation → Bool
comes_to_page None = false
comes_to_page (Some (making product request)) = true
comes_to_page (Some (trying seed blocks)) = true
comes_to_page (Some (serving service)) = false

-- the words are those of `serve`
abbrev pub is_serve : List (List ℕ) → Bool
is_serve words = serves (asked words)

-- ---- what right words promise

-- all is made for a die of a design, but for these
abbrev pub is_of_die : Product → Bool
is_of_die Summary = false
is_of_die Bundle = false
is_of_die _ = true

abbrev pub IsSound : Invocation → Type 0
IsSound (making product request) = is_of_die product ≡ true → (is_tag request.design ≡ true) × (is_tag request.die ≡ true)
IsSound (trying seed blocks) = (1 ≤ blocks) × (blocks ≤ 200)
IsSound (serving service) = (1 ≤ service.workers) × (service.workers ≤ 64)
