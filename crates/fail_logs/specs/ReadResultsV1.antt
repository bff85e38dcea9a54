-- What the result of a reader says of a log of version 1, by the definition of when that was the only version.
use Rattle.std.specs.Prelude.{ℕ, ◌≡◌, Result, Ok, Err}
use Rattle.scan_model.specs.declared.logs.Bit.{Bit}
use Rattle.scan_model.specs.declared.logs.LogFacts.{LogFacts}
use Rattle.scan_model.specs.Coverage.{covers}
use Rattle.scan_model.specs.LogTextV1.{LogV1, covers_v1}
use Rattle.text_parts.specs.declared.fault.ReadFault.{ReadFault}
use Rattle.text_parts.specs.ReadResults.{Fails}

-- the log has the failing bits of the old definition, and its covered bits
pub record SaysAsBefore (log : LogFacts) (old : LogV1) : Type 0 where
  pub fails : log.fails ≡ old.fails
  pub covers : (b : Bit) → covers log b ≡ covers_v1 old b

-- the first fault is that of the old definition, and a log says what it said by it
abbrev pub GivesV1 : Result LogFacts ReadFault → Result LogV1 (ℕ × ℕ) → Type 0
GivesV1 (Ok log) read = (old : LogV1) × (read ≡ Ok old) × SaysAsBefore log old
GivesV1 (Err e) read = Fails e read
