-- Which lists of deeds are legal: each deed fits those before it.
use Rattle.std.specs.Prelude.{ℕ, Bool, true, false, not, ◌&&◌, nat_le, nat_lt, if◌then◌else◌, List, [], ◌∷◌, ◌++◌, length, is_none, Option, Some, None}
use Rattle.std.specs.List.{list_any}
use Rattle.std.specs.Result.{is_ok}
use Rattle.std.specs.Str.{bytes_eq}
use Rattle.sha2.specs.Sha256.{sha256}
use Rattle.desk_outside.specs.declared.deed.Deed.{Deed}
use Rattle.desk_outside.specs.declared.deed.DeedKind.{DeedKind}
use Rattle.desk_outside.specs.declared.deed.DeedKind.TheVariants.{Design, Log, Sign}
use Rattle.scan_model.specs.ScanTest.{ScanTest}
use Rattle.scan_model.specs.Words.{is_tag, has_word}
use Rattle.scan_model.specs.LogText.{log_frame, log_reading}
use Rattle.diagnosis.specs.Bundle.{bundle_reading}
use Rattle.die_entries.specs.Entries.{is_signed_by}
use Rattle.book.specs.Deeds.{design_text, design_test, die_logs, die_signs, report_at}

-- the text stands for a log of the design and the die, where the design is there
abbrev pub is_log_over : Option ScanTest → List ℕ → List ℕ → List ℕ → Bool
is_log_over None design die text = false
is_log_over (Some t) design die text = is_ok (log_reading (log_frame t design die) text)

-- what was done fits these deeds
abbrev pub fits : List Deed → DeedKind → Bool
fits deeds (Design name text) = is_tag name && (is_none (design_text deeds name) && is_ok (bundle_reading text))
fits deeds (Log design die text) =
    is_tag die && (is_log_over (design_test deeds design) design die text && not (has_word (die_logs deeds design die) text))
fits deeds (Sign design die revision signer digest) =
    is_tag signer
    && ((nat_le 1 revision && nat_le revision (length (die_logs deeds design die)))
    && (bytes_eq digest (sha256 (report_at deeds design die revision))
    && not (list_any (is_signed_by revision signer) (die_signs deeds design die))))

-- after these deeds, each fits those before it
abbrev pub each_fits : List Deed → List Deed → Bool
each_fits before [] = true
each_fits before (deed ∷ deeds) = fits before deed.what && each_fits (before ++ deed ∷ []) deeds

abbrev pub is_legal : ℕ → List Deed → Bool
is_legal limit deeds = nat_le (length deeds) limit && each_fits [] deeds

-- after these deeds, the place of the first that doesn't fit those before it or stands past the limit
abbrev pub spoiled_after : ℕ → List Deed → List Deed → Option ℕ
spoiled_after limit before [] = None
spoiled_after limit before (deed ∷ deeds) =
    if nat_lt (length before) limit && fits before deed.what then spoiled_after limit (before ++ deed ∷ []) deeds else Some (length before)

-- the first row of a list that isn't legal
abbrev pub spoiled_row : ℕ → List Deed → Option ℕ
spoiled_row limit rows = spoiled_after limit [] rows
