-- The arguments of the commands: the name of each, and what its word must be.
use Rattle.std.specs.Prelude.{ℕ, List, codes}
use Rattle.command_words.specs.declared.argument.Argument.{Argument}
use Rattle.command_words.specs.declared.argument.Argument.TheVariants.{Design, Die, Netlist, Scan, Patterns, Neighbours, Channels, Seed, Blocks, Port, Workers, Sessions, Store}
use Rattle.command_words.specs.declared.argument.Kind.{Kind}
use Rattle.command_words.specs.declared.argument.Kind.TheVariants.{Plain, Tag, Number}

abbrev pub name_of : Argument → List ℕ
name_of Design = codes "design"
name_of Die = codes "die"
name_of Netlist = codes "netlist"
name_of Scan = codes "scan"
name_of Patterns = codes "patterns"
name_of Neighbours = codes "neighbours"
name_of Channels = codes "channels"
name_of Seed = codes "seed"
name_of Blocks = codes "blocks"
name_of Port = codes "port"
name_of Workers = codes "workers"
name_of Sessions = codes "sessions"
name_of Store = codes "store"

-- a tag, a number word of a number within bounds, or any plain word
abbrev pub kind_of : Argument → Kind
kind_of Design = Tag
kind_of Die = Tag
kind_of Netlist = Plain
kind_of Scan = Plain
kind_of Patterns = Plain
kind_of Neighbours = Plain
kind_of Channels = Plain
kind_of Seed = Number 0 4294967295
kind_of Blocks = Number 1 200
kind_of Port = Number 1 65535
kind_of Workers = Number 1 64
kind_of Sessions = Number 1 1000000
kind_of Store = Plain
