-- What a book keeps of its deeds.
use Rattle.std.specs.Prelude.{◌≡◌, ℕ, true, List, [], map, All, None, Some}
use Rattle.desk_outside.specs.declared.deed.Deed.{Deed}
use Rattle.scan_model.specs.Words.{is_tag}
use Rattle.die_entries.specs.declared.sign.Sign.{Sign as SignOff}
use Rattle.diagnosis.specs.Designs.{DesignFacts, ReadLogFacts, texts_of}
use Rattle.book.specs.Deeds.{designs, design_text, die_logs, die_signs}
use Rattle.book.specs.LegalDeeds.{each_fits}
use Rattle.book.specs.Kinds.{named}
use Rattle.book.specs.Places.{DesignsFacts}
use Rattle.book.specs.Lookups.{IsLogIn}
use Rattle.book.specs.Dies.{DieFacts, kept_logs, kept_signs}

-- these are the logs and the sign-offs of a die
pub record AreOfDie (deeds : List Deed) (design die : List ℕ) (logs : List ReadLogFacts) (signs : List SignOff) : Type 0 where
  pub texts : texts_of logs ≡ die_logs deeds design die
  pub sign_offs : signs ≡ die_signs deeds design die
  pub each : All (IsLogIn deeds design die) logs
  -- a die of a design that isn't there has no log
  pub unknown : design_text deeds design ≡ None → logs ≡ []
  -- a die without logs has no sign-off
  pub unsigned : logs ≡ [] → signs ≡ []

-- what is kept of deeds that fit
pub record IsState (deeds : List Deed) (kept : List DesignFacts) (dies : List DieFacts) : Type 0 where
  pub fit : each_fits [] deeds ≡ true
  pub designs : map named kept ≡ designs deeds
  pub tags : (name text : List ℕ) → design_text deeds name ≡ Some text → is_tag name ≡ true
  pub each_die : (design die : List ℕ) → AreOfDie deeds design die (kept_logs dies design die) (kept_signs dies design die)

-- deeds, and for how many more there is room
pub record DeedsFacts : Type 0 where
  pub list : List Deed
  pub room : ℕ

-- the deeds, for how many more there is room, and the designs and dies that come from them
pub record StateFacts : Type 0 where
  pub deeds : List Deed
  pub room : ℕ
  pub designs : DesignsFacts
  pub dies : List DieFacts
