-- The last bytes of a run, and its exit status.
use Rattle.std.specs.Prelude.{◌≡◌, ◌⊎◌, ℕ, List, Option}
use Rattle.std.specs.Io.KnownBytes.{append_known}
use Rattle.desk_outside.specs.Bytes.{AddsPart}
use Rattle.run_ends.specs.declared.ending.Ending.{Ending}
use Rattle.run_ends.specs.declared.ending.Ending.TheVariants.{Done, SinkFault, StoreFault, NoMemory, Spoiled, StreetFault}

abbrev pub status_of : Ending → ℕ
status_of (Done sessions deeds) = 0
status_of SinkFault = 6
status_of StoreFault = 7
status_of NoMemory = 8
status_of (Spoiled row) = 9
status_of StreetFault = 10

-- the bytes of an ending were added; or the sink failed, and some from their front were
abbrev pub Writes : Ending → List ℕ → Ending → Option (List ℕ) → Option (List ℕ) → Type 0 → Type 0
Writes ending text result old new rose =
    ((result ≡ ending) × (new ≡ append_known old text)) ⊎ ((result ≡ SinkFault) × AddsPart old new text × rose)

-- all the bytes were added; or the sink's count rose, and bytes from their front were added
abbrev pub Ends : ℕ → List ℕ → ℕ → Option (List ℕ) → Option (List ℕ) → Type 0 → Type 0
Ends status text result old new rose =
    ((result ≡ status) × (new ≡ append_known old text)) ⊎ ((result ≡ 6) × AddsPart old new text × rose)
