-- What the readers of designs answer.
use Rattle.std.specs.Prelude.{◌≡◌, ℕ, Result, Err, ⊤}
use Rattle.diagnosis.specs.declared.section.Section.{Section}
use Rattle.diagnosis.specs.declared.section.BundleFault.{BundleFault}
use Rattle.diagnosis.specs.declared.section.BundleFault.TheVariants.{Text, NoMemory}

-- a refusal is the one that the reading has; memory may have run out
abbrev pub RefusedBy : {X : Type 0} → Result X (Section × (ℕ × ℕ)) → BundleFault → Type 0
RefusedBy reading (Text section fault) = reading ≡ Err (section, (fault.line, fault.rule))
RefusedBy reading NoMemory = ⊤
