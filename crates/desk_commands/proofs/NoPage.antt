-- What the words come to, from what they ask for.
use Rattle.std.proofs.Common.{◌≡◌, false, Option, None, Some, List, ℕ, refl, true≢false}
use Rattle.desk_outside.specs.declared.shelf.File.{File}
use Rattle.command_words.specs.Invocations.{Invocation, making, trying, serving, asked, comes_to_page}
use Rattle.desk_commands.specs.Commands.{misunderstood, output_for, work}

no_output : (files : List File) (a : Option Invocation) → comes_to_page a ≡ false → output_for files a ≡ misunderstood
no_output files None none = refl
no_output files (Some (serving service)) none = refl
no_output files (Some (making product request)) none = absurd (true≢false none)
no_output files (Some (trying seed blocks)) none = absurd (true≢false none)

pub no_page : (words : List (List ℕ)) (files : List File) → comes_to_page (asked words) ≡ false → work words files ≡ misunderstood
no_page words files none = no_output files (asked words) none
