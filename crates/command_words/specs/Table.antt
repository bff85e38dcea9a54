-- The table of the commands.
use Rattle.std.specs.Prelude.{ℕ, Bool, true, false, List, [], ◌∷◌, ◌++◌, codes}
use Rattle.scan_model.specs.declared.fault.Profile.TheVariants.{One, Two}
use Rattle.command_words.specs.declared.argument.Argument.{Argument}
use Rattle.command_words.specs.declared.argument.Argument.TheVariants.{Design, Die, Netlist, Scan, Patterns, Neighbours, Channels, Seed, Blocks, Port, Workers, Sessions, Store}
use Rattle.command_words.specs.declared.table.Product.TheVariants.{Summary, Bundle, Report, TransitionReport, CompactReport}
use Rattle.command_words.specs.declared.table.Task.{Task}
use Rattle.command_words.specs.declared.table.Task.TheVariants.{Make, Demo, Serve}

-- the command's own word, what it does, what each of the next words is for, and whether one word or more are left for logs
pub record Form : Type 0 where
  pub word : List ℕ
  pub task : Task
  pub arguments : List Argument
  pub has_logs : Bool

-- the files of a design, and those of one that is tested with two-frame patterns
abbrev pub design_files : List Argument
design_files = Netlist ∷ Scan ∷ Patterns ∷ Neighbours ∷ []

abbrev pub launch_files : List Argument
launch_files = Netlist ∷ Scan ∷ Patterns ∷ []

abbrev pub commands : List Form
commands =
    record { word = codes "check"; task = Make Summary One; arguments = design_files; has_logs = false }
    ∷ record { word = codes "check2"; task = Make Summary Two; arguments = design_files; has_logs = false }
    ∷ record { word = codes "pack"; task = Make Bundle One; arguments = design_files; has_logs = false }
    ∷ record { word = codes "pack2"; task = Make Bundle Two; arguments = design_files; has_logs = false }
    ∷ record { word = codes "diagnose"; task = Make Report One; arguments = Design ∷ Die ∷ design_files; has_logs = true }
    ∷ record { word = codes "diagnose2"; task = Make Report Two; arguments = Design ∷ Die ∷ design_files; has_logs = true }
    ∷ record { word = codes "loc"; task = Make TransitionReport One; arguments = Design ∷ Die ∷ launch_files; has_logs = true }
    ∷ record { word = codes "compact"; task = Make CompactReport One; arguments = Design ∷ Die ∷ (design_files ++ Channels ∷ []); has_logs = true }
    ∷ record { word = codes "demo"; task = Demo; arguments = Seed ∷ Blocks ∷ []; has_logs = false }
    ∷ record { word = codes "serve"; task = Serve; arguments = Port ∷ Workers ∷ Sessions ∷ Store ∷ []; has_logs = false }
    ∷ []
