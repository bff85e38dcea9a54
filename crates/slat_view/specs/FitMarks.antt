-- Marks on the faults that are tried.
use Rattle.std.specs.Prelude.{◌≡◌, ℕ, ◌<◌, List, length, Bool, true}
use Rattle.scan_model.specs.declared.logs.LogFacts.{LogFacts}
use Rattle.scan_model.specs.Marks.{is_marked}
use Rattle.scan_model.specs.ScanTest.{ScanTest}
use Rattle.scan_model.specs.Universe.{universe}
use Rattle.lane_rows.specs.GoodRows.{pattern_of}
use Rattle.diag_report.specs.PredictedLog.{fault_of}
use Rattle.slat_view.specs.Slat.{fits}

-- each fault is marked that fits one of the first patterns
abbrev pub HaveFitsUpTo : ScanTest → List LogFacts → ℕ → List Bool → Type 0
HaveFitsUpTo t logs n marks = (p w : ℕ) → p < length (universe t) → w < n → w < length t.patterns → fits t logs w (fault_of t p) ≡ true → is_marked marks p ≡ true

-- each fault is marked that fits a pattern of block b, and what was marked stays so
pub record AreFitsMarked (t : ScanTest) (logs : List LogFacts) (b : ℕ) (old new : List Bool) : Type 0 where
  pub kept : (p : ℕ) → is_marked old p ≡ true → is_marked new p ≡ true
  pub fits : (p j : ℕ) → p < length (universe t) → j < 512 → pattern_of b j < length t.patterns → fits t logs (pattern_of b j) (fault_of t p) ≡ true → is_marked new p ≡ true
