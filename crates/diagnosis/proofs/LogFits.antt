-- What a log stands for lies within the patterns and the points of its test.
use Rattle.std.proofs.Common.{◌≡◌, ℕ, ◌≤◌, List, length, map, replicate, Ok, subst, arith}
use Rattle.std.proofs.lemmas.List.{length-map}
use Rattle.scan_model.specs.declared.logs.LogFacts.{LogFacts}
use Rattle.scan_model.specs.declared.logs.LogForm.TheVariants.{FailLog}
use Rattle.scan_model.specs.Coverage.{FitsLog}
use Rattle.scan_model.specs.Lines.{text_lines}
use Rattle.scan_model.specs.ScanTest.{ScanTest, IsScanTest, points_of}
use Rattle.scan_model.specs.LogText.{LogFrame, LogLine, log_frame, log_fault, log_reading, log_of_lines, later_lines, is_shift}
use Rattle.fail_logs.specs.FrameFacts.{IsFrame}
use Rattle.fail_logs.specs.Places.{places_in}
use Rattle.fail_logs.proofs.Accepted.{faultless}
use Rattle.fail_logs.proofs.TestFrame.{frame_is_sound, test_points}
use Rattle.fail_logs.proofs.Whole.{was_read, lines_fit}

pub log_fits : (t : ScanTest) (design die text : List ℕ) (log : LogFacts) → IsScanTest t → length (points_of t) ≤ 131072 → log_reading (log_frame t design die) text ≡ Ok log → FitsLog (length t.patterns) (length (points_of t)) log
log_fits t design die text log fits few reads =
    let frame : LogFrame = log_frame t design die in
    let ls : List LogLine = later_lines frame.form (text_lines text) in
    let rows : List (List ℕ) = places_in (map (λ n. replicate n 0) (map (λ h. length h.cells) t.chains)) 0 (points_of t) in
    let names : List (List ℕ) = map (λ h. h.name) t.chains in
    let lengths : List ℕ = map (λ h. length h.cells) t.chains in
    let each_named : length names ≡ length t.chains = length-map t.chains (λ h. h.name) in
    let each_long : length lengths ≡ length t.chains = length-map t.chains (λ h. length h.cells) in
    let sound : IsFrame frame rows =
    frame_is_sound t fits FailLog names lengths (points_of t) design die fits.chains.names_differ (omega (arith, each_named, each_long)) (omega (arith, each_named, fits.chains.few)) (test_points t) few in
    let read = was_read (log_fault frame text) (log_of_lines frame ls) log reads in
    let count : length (map is_shift t.patterns) ≡ length t.patterns = length-map t.patterns is_shift in
    let fit = subst (λ n. FitsLog n (length (points_of t)) (log_of_lines frame ls)) count (lines_fit frame rows sound ls (faultless frame rows text sound read.0)) in
    subst (FitsLog (length t.patterns) (length (points_of t))) read.1 fit
