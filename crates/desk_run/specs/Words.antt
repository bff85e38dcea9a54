-- Which words are right, and what those of `serve` ask for.
use Rattle.std.specs.Prelude.{ℕ, List, Bool, is_some}
use Rattle.desk_serve.specs.Runs.{RunOrder}
use Rattle.command_words.specs.Invocations.{Service, asked}

-- they are those of a command
abbrev pub are_right : List (List ℕ) → Bool
are_right words = is_some (asked words)

-- what a run of `serve` is asked for
abbrev pub run_for : Service → RunOrder
run_for s = record { port = s.port; workers = s.workers; sessions = s.sessions; store = s.store }
