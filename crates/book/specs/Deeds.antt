-- The state after a list of deeds, read off the list.
use Rattle.std.specs.Prelude.{ℕ, ◌&&◌, if◌then◌else◌, List, [], take, filter_map, slice_get, Option, Some, None, Result, Ok, Err}
use Rattle.std.specs.Str.{bytes_eq}
use Rattle.desk_outside.specs.declared.deed.Deed.{Deed}
use Rattle.desk_outside.specs.declared.deed.DeedKind.{DeedKind}
use Rattle.desk_outside.specs.declared.deed.DeedKind.TheVariants.{Design, Log, Sign}
use Rattle.scan_model.specs.ScanTest.{ScanTest}
use Rattle.scan_model.specs.DieReport.{die_report}
use Rattle.die_entries.specs.declared.sign.Sign.{Sign as SignOff}
use Rattle.diagnosis.specs.Bundle.{bundle_reading}

-- a name with a text
pub record NamedText : Type 0 where
  pub name : List ℕ
  pub text : List ℕ

abbrev pub design_in : DeedKind → Option NamedText
design_in (Design name text) = Some (record { name = name; text = text })
design_in (Log design die text) = None
design_in (Sign design die revision signer digest) = None

abbrev pub log_in : List ℕ → List ℕ → DeedKind → Option (List ℕ)
log_in d x (Design name text) = None
log_in d x (Log design die text) = if bytes_eq design d && bytes_eq die x then Some text else None
log_in d x (Sign design die revision signer digest) = None

abbrev pub sign_in : List ℕ → List ℕ → DeedKind → Option SignOff
sign_in d x (Design name text) = None
sign_in d x (Log design die text) = None
sign_in d x (Sign design die revision signer digest) =
    if bytes_eq design d && bytes_eq die x then Some (record { revision = revision; signer = signer; digest = digest }) else None

-- the designs, in their order
abbrev pub designs : List Deed → List NamedText
designs deeds = filter_map (λ deed. design_in deed.what) deeds

abbrev pub text_if_named : List ℕ → NamedText → Option (List ℕ)
text_if_named name d = if bytes_eq d.name name then Some d.text else None

-- the text of the design of a name
abbrev pub design_text : List Deed → List ℕ → Option (List ℕ)
design_text deeds name = slice_get (filter_map (text_if_named name) (designs deeds)) 0

abbrev pub test_of_reading : {E : Type 0} → Result ScanTest E → Option ScanTest
test_of_reading (Ok t) = Some t
test_of_reading (Err e) = None

abbrev pub test_of_text : Option (List ℕ) → Option ScanTest
test_of_text None = None
test_of_text (Some text) = test_of_reading (bundle_reading text)

-- the scan test of the design of a name
abbrev pub design_test : List Deed → List ℕ → Option ScanTest
design_test deeds name = test_of_text (design_text deeds name)

-- the log texts of a die, in their order: the die's revision r has the first r of them
abbrev pub die_logs : List Deed → List ℕ → List ℕ → List (List ℕ)
die_logs deeds design die = filter_map (λ deed. log_in design die deed.what) deeds

-- the sign-offs of a die, in their order
abbrev pub die_signs : List Deed → List ℕ → List ℕ → List SignOff
die_signs deeds design die = filter_map (λ deed. sign_in design die deed.what) deeds

abbrev pub report_over : Option ScanTest → List ℕ → List ℕ → List (List ℕ) → List ℕ
report_over None design die texts = []
report_over (Some t) design die texts = die_report t design die texts

-- the report of a die at a revision
abbrev pub report_at : List Deed → List ℕ → List ℕ → ℕ → List ℕ
report_at deeds design die revision = report_over (design_test deeds design) design die (take revision (die_logs deeds design die))
