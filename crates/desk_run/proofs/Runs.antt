-- What is due at the end of a run.
use Rattle.std.proofs.Common.{◌≡◌, Some, List, ℕ, ap, subst, sym}
use Rattle.desk_outside.specs.declared.shelf.File.{File}
use Rattle.command_words.specs.Invocations.{Invocation, asked}
use Rattle.desk_commands.specs.Work.{Output}
use Rattle.desk_commands.specs.Commands.{output_for, work}
use Rattle.desk_commands.specs.CommandEnds.{IsDueOf}

-- what is due of what is asked for is due of the words that ask for it
pub asked_due : (words : List (List ℕ)) (files : List File) (a : Invocation) (rose : Type 0) (status : ℕ) (text : List ℕ) → asked words ≡ Some a
    → IsDueOf (output_for files (Some a)) rose status text → IsDueOf (work words files) rose status text
asked_due words files a rose status text says is = subst (λ (output : Output). IsDueOf output rose status text) (sym (ap (output_for files) says)) is
