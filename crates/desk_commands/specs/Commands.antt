-- What each command comes to.
use Rattle.std.specs.Prelude.{ℕ, List, [], Option, None, Some, codes}
use Rattle.desk_outside.specs.declared.shelf.File.{File}
use Rattle.command_words.specs.declared.table.Product.{Product}
use Rattle.command_words.specs.declared.table.Product.TheVariants.{Summary, Bundle, Report, TransitionReport, CompactReport}
use Rattle.command_words.specs.Invocations.{Invocation, making, trying, serving, Request, asked}
use Rattle.desk_commands.specs.FileReadings.{Reading}
use Rattle.desk_commands.specs.Work.{Output, output_of, check_reading, pack_reading, report_reading}
use Rattle.desk_commands.specs.Views.{loc_reading, compact_reading}
use Rattle.desk_commands.specs.Demo.{demo_output}

abbrev pub misunderstood : Output
misunderstood = record { status = 2; text = codes "words not understood\n"; read = [] }

module _ (files : List File) where
  -- what is made of files
  abbrev pub product_reading : Product → Request → Reading (List ℕ)
  product_reading Summary request = check_reading files request.files
  product_reading Bundle request = pack_reading files request.files
  product_reading Report request = report_reading files request
  product_reading TransitionReport request = loc_reading files request
  product_reading CompactReport request = compact_reading files request

  -- the status, the bytes to write and the files read of what words ask for; `serve` comes to no page
  abbrev pub output_for : Option Invocation → Output
  output_for None = misunderstood
  output_for (Some (making product request)) = output_of (product_reading product request)
  output_for (Some (trying seed blocks)) = demo_output seed blocks
  output_for (Some (serving service)) = misunderstood

-- of the words of a command
abbrev pub work : List (List ℕ) → List File → Output
work words files = output_for files (asked words)
