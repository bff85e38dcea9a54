-- Logs that are read one after another and added to a die.
use Rattle.std.specs.Prelude.{◌≡◌, ℕ, List, [], ◌∷◌, ◌++◌, length, filter_map, if◌then◌else◌, Result, Ok, Err}
use Rattle.desk_outside.specs.declared.shelf.File.{File}
use Rattle.scan_model.specs.declared.logs.LogFacts.{LogFacts}
use Rattle.scan_model.specs.Words.{has_word}
use Rattle.scan_model.specs.LogText.{LogFrame, log_reading}
use Rattle.scan_model.specs.DieReport.{accepted, different}
use Rattle.log_join.specs.Joining.{JoinedBits, StandsFor, IsJoinedOf}
use Rattle.desk_commands.specs.declared.files.Stop.{Stop}
use Rattle.desk_commands.specs.FileReadings.{Reading}
use Rattle.desk_commands.specs.CommandStops.{Follows}
use Rattle.desk_commands.specs.Work.{logs_after, logs_reading}

-- what follows from the names that are left, after these texts, follows from all names
abbrev pub GoesOn : List File → LogFrame → List (List ℕ) → List (List ℕ) → List (List ℕ) → Type 0
GoesOn files frame names texts left =
    (result : Result (List (List ℕ)) Stop) → Follows result (logs_after files frame texts left) → Follows result (logs_reading files frame names)

-- these are the different ones of the texts that reading comes to, each at its first place
pub record AreRead (reading : Reading (List (List ℕ))) (texts : List (List ℕ)) : Type 0 where
  pub all : List (List ℕ)
  pub serve : reading.outcome ≡ Ok all
  pub are_different : texts ≡ different all

-- the texts with one more, unless it is there
abbrev pub with_text : List (List ℕ) → List ℕ → List (List ℕ)
with_text texts text = if has_word texts text then texts else texts ++ text ∷ []

-- a text that breaks no rule is added
pub record IsTaken (frame : LogFrame) (text : List ℕ) (old new : List (List ℕ)) : Type 0 where
  pub facts : LogFacts
  pub reads : log_reading frame text ≡ Ok facts
  pub added : new ≡ with_text old text

-- a file serves, and its text is added
pub record IsFileTaken (frame : LogFrame) (reading : Reading (List ℕ)) (old new : List (List ℕ)) : Type 0 where
  pub text : List ℕ
  pub serves : reading.outcome ≡ Ok text
  pub taken : IsTaken frame text old new

-- the log of a file is added; a stop is one of reading
abbrev pub FileFollows : {X : Type 0} → LogFrame → Result X Stop → List (List ℕ) → List (List ℕ) → Reading (List ℕ) → Type 0
FileFollows frame (Ok x) old new reading = IsFileTaken frame reading old new
FileFollows frame (Err stop) old new reading = Follows {X = List ℕ} (Err stop) reading

-- ---- logs that are joined

-- different texts of logs that were read for a frame
pub record JoinedTexts : Type 0 where
  pub frame : LogFrame
  pub texts : List (List ℕ)

-- the logs that texts stand for
abbrev pub read_logs : LogFrame → List (List ℕ) → List LogFacts
read_logs frame texts = filter_map (λ text. accepted (log_reading frame text)) texts

-- joined for the patterns and the points of a frame
abbrev pub IsJoinedFor : LogFrame → JoinedBits → Type 0
IsJoinedFor frame joined = IsJoinedOf (length frame.shifts) (length frame.points) joined

-- they are joined logs
abbrev pub StandsForSome : JoinedBits → Type 0
StandsForSome joined = (logs : List LogFacts) × StandsFor logs joined

-- each text stands for a log, and they are joined
pub record AreJoined (j : JoinedTexts) (joined : JoinedBits) : Type 0 where
  pub size : IsJoinedFor j.frame joined
  pub stands : StandsFor (read_logs j.frame j.texts) joined
  pub count : length (read_logs j.frame j.texts) ≡ length j.texts
