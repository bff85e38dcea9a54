-- The commands and what is asked of them, as the program has them.
use Rattle.std.specs.Prelude.{◌≡◌, List, ℕ, false, map, Option, None, Some}
use Rattle.command_words.specs.declared.command.DesignFiles.{DesignFiles}
use Rattle.command_words.specs.declared.command.Order.{Order}
use Rattle.command_words.specs.declared.command.Service as code_service
use Rattle.command_words.specs.declared.command.Command.{Command}
use Rattle.command_words.specs.declared.command.Command.TheVariants.{Make, Demo}
use Rattle.command_words.specs.declared.table.Form as code_form
use Rattle.command_words.specs.Table.{Form}
use Rattle.command_words.specs.Invocations.{Invocation, making, trying, DesignNames, IsSound, Request, Service, asked, comes_to_page}

abbrev pub shown_form : code_form.Form → Form
shown_form form = record { word = form.word.now; task = form.task; arguments = form.arguments.now; has_logs = form.has_logs }

abbrev pub shown_files : DesignFiles → DesignNames
shown_files files = record {
  profile = files.profile;
  netlist = files.netlist.now;
  scan = files.scan.now;
  patterns = files.patterns.now;
  neighbours = files.neighbours.now;
}

abbrev pub shown_order : Order → Request
shown_order r = record { design = r.design.now; die = r.die.now; files = shown_files r.files; channels = r.channels.now; logs = map (λ name. name.now) r.logs.items }

abbrev pub shown_service : code_service.Service → Service
shown_service s = record { port = s.port; workers = s.workers; sessions = s.sessions; store = s.store.now }

abbrev pub shown : Command → Invocation
shown (Make product order) = making product (shown_order order)
shown (Demo demo) = trying demo.seed demo.blocks

-- the command that is asked for; none where that comes to no page
abbrev pub IsCommandFor : Invocation → Option Command → Type 0
IsCommandFor a None = comes_to_page (Some a) ≡ false
IsCommandFor a (Some command) = shown command ≡ a

-- the command that the words ask for; none where they ask for none that comes to a page
abbrev pub IsAskedBy : List (List ℕ) → Option Command → Type 0
IsAskedBy words None = comes_to_page (asked words) ≡ false
IsAskedBy words (Some command) = (asked words ≡ Some (shown command)) × IsSound (shown command)
