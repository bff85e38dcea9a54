-- A die at its revisions: the revision r has its first r logs.
use Rattle.std.specs.Prelude.{◌≡◌, ◌<◌, ℕ, true, List, length, take, All}
use Rattle.std.specs.List.{IsDistinct}
use Rattle.std.specs.Str.{bytes_eq}
use Rattle.sha2.specs.Sha256.{sha256}
use Rattle.scan_model.specs.Words.{is_tag}
use Rattle.diagnosis.specs.Designs.{DesignFacts, ReadLogFacts, ViewFacts, IsLogOf, texts_of, view_report}
use Rattle.die_entries.specs.declared.sign.Sign.{Sign as SignOff}

-- the report of a die may be made of these logs
pub record IsShowable (d : DesignFacts) (die : List ℕ) (logs : List ReadLogFacts) : Type 0 where
  pub tag : is_tag die ≡ true
  pub some : 0 < length logs
  pub each : All (IsLogOf d die) logs
  pub differ : IsDistinct bytes_eq (texts_of logs)

-- the report of a die at a revision
abbrev pub revision_report : DesignFacts → List ℕ → List ReadLogFacts → ℕ → List ℕ
revision_report d die logs revision = view_report (record { design = d; die = die; logs = take revision logs })

-- the sign-off has the digest of the report at its revision
abbrev pub SignsReport : DesignFacts → List ℕ → List ReadLogFacts → SignOff → Type 0
SignsReport d die logs sign = sign.digest ≡ sha256 (revision_report d die logs sign.revision)

-- if the die's design has the name of this one, it has the same scan test
abbrev pub IsOneByName : DesignFacts → ViewFacts → Type 0
IsOneByName d view = view.design.name ≡ d.name → view.design.test ≡ d.test
