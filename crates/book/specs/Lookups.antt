-- What is found in a book.
use Rattle.std.specs.Prelude.{◌≡◌, ◌<◌, ℕ, List, length, All, Some}
use Rattle.desk_outside.specs.declared.deed.Deed.{Deed}
use Rattle.die_entries.specs.declared.sign.Sign.{Sign as SignOff}
use Rattle.diagnosis.specs.Designs.{DesignFacts, ReadLogFacts, texts_of}
use Rattle.book.specs.Deeds.{design_text, die_logs, die_signs}
use Rattle.book.specs.Answers.{design_number}
use Rattle.book.specs.Changes.{StandsIn}

-- the design of a name, and its number
pub record IsFound (deeds : List Deed) (name : List ℕ) (number : ℕ) (d : DesignFacts) : Type 0 where
  pub named : d.name ≡ name
  pub text : design_text deeds name ≡ Some d.text
  pub numbered : number ≡ design_number deeds name

-- the log is of this design and die, and stands for its facts
pub record IsLogIn (deeds : List Deed) (design die : List ℕ) (log : ReadLogFacts) : Type 0 where
  pub of_design : log.design ≡ design
  pub of_die : log.die ≡ die
  pub stands : StandsIn deeds log

-- a die that has a log, with its logs and its sign-offs
pub record IsDieIn (deeds : List Deed) (design die : List ℕ) (logs : List ReadLogFacts) (signs : List SignOff) : Type 0 where
  pub texts : texts_of logs ≡ die_logs deeds design die
  pub sign_offs : signs ≡ die_signs deeds design die
  pub some : 0 < length logs
  pub each : All (IsLogIn deeds design die) logs
