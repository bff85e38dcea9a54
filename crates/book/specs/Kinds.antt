-- The deeds of designs, logs and sign-offs, and a list after a deed.
use Rattle.std.specs.Prelude.{ℕ, List, [], ◌∷◌, ◌++◌, Result, Ok, Err}
use Rattle.std.specs.Arc.{arc_value}
use Rattle.std.specs.declared.alloc.Global.{Global}
use Rattle.std.specs.declared.sync.Arc.{Arc}
use Rattle.desk_outside.specs.declared.deed.Deed.{Deed}
use Rattle.desk_outside.specs.declared.deed.DeedKind.TheVariants.{Design, Log, Sign}
use Rattle.desk_outside.specs.declared.keeper.KeepFault.{KeepFault}
use Rattle.die_entries.specs.declared.sign.Sign.{Sign as SignOff}
use Rattle.diagnosis.specs.Designs.{DesignFacts, ReadLogFacts}
use Rattle.book.specs.Deeds.{NamedText}

abbrev pub design_deed : ℕ → DesignFacts → Deed
design_deed by d = record { by = by; what = Design d.name d.text }

abbrev pub log_deed : ℕ → ReadLogFacts → Deed
log_deed by log = record { by = by; what = Log log.design log.die log.text }

abbrev pub sign_deed : ℕ → List ℕ → List ℕ → SignOff → Deed
sign_deed by design die sign = record { by = by; what = Sign design die sign.revision sign.signer sign.digest }

-- the text of a design behind a reference
abbrev pub text_behind : Arc DesignFacts Global → List ℕ
text_behind d = (arc_value d).text

-- the list with one more at its end, where the call went well
abbrev pub appended : {X : Type 0} → Result (Unit {0}) KeepFault → List X → X → List X
appended (Ok done) xs x = xs ++ x ∷ []
appended (Err fault) xs x = xs

abbrev pub named : DesignFacts → NamedText
named d = record { name = d.name; text = d.text }
