-- What `demo` prints: a design that is made, a fault that is put into it, and the diagnosis of the log that the fault predicts.
use Rattle.std.specs.Prelude.{ℕ, ◌+◌, ◌%◌, ◌==◌, nat_lt, cond, Bool, List, [], ◌∷◌, ◌++◌, map, length, decimal, codes, Option, Some, None, Result, Ok, Err}
use Rattle.std.specs.List.{range_with_len, enumerate_from, find}
use Rattle.sha2.specs.Sha256.{sha256}
use Rattle.hex.specs.Hex.{encode_lower}
use Rattle.scan_model.specs.declared.fault.Fault.{Fault}
use Rattle.scan_model.specs.declared.logs.Scored.{Scored}
use Rattle.scan_model.specs.ScanTest.{ScanTest}
use Rattle.scan_model.specs.Universe.{universe}
use Rattle.scan_model.specs.MatchCounts.{candidates}
use Rattle.scan_model.specs.Ranking.{ranked}
use Rattle.scan_model.specs.ReportText.{line, concatenated, fault_words}
use Rattle.scan_model.specs.DieReport.{die_report}
use Rattle.diag_report.specs.PredictedLog.{fault_of, predicted_bits, predicted_log, predicted_facts}
use Rattle.diag_report.specs.Summary.{count_line}
use Rattle.diagnosis.specs.declared.section.Section.{Section}
use Rattle.diagnosis.specs.Bundle.{texts_reading}
use Rattle.made_laws.specs.Draws.{draw}
use Rattle.made_designs.specs.MadeTexts.{made_texts, text_draws}

-- the name of the design and of the die
abbrev pub demo_name : List ℕ
demo_name = codes "demo"

-- ---- the fault that is put in

-- 256 places of a list of so many, one after another from the first that is drawn, the last followed by place 0
abbrev pub tried_places : ℕ → ℕ → List ℕ
tried_places first count = cond (count == 0) [] (map (λ i. (first + i) % count) (range_with_len 0 256))

abbrev pub predicts_some : ScanTest → ℕ → Bool
predicts_some t place = nat_lt 0 (length (predicted_bits t (fault_of t place)))

-- the first of the tried places whose fault predicts a fail
abbrev pub injected_from : ℕ → ScanTest → Option ℕ
injected_from first t = find (predicts_some t) (tried_places first (length (universe t)))

-- the draw after those of the texts, of a place among all faults
abbrev pub drawn_place : ℕ → ℕ → ScanTest → ℕ
drawn_place seed blocks t = draw seed (text_draws blocks) (length (universe t))

-- ---- its diagnosis

-- the candidates over the log that the fault predicts, best first
abbrev pub own_candidates : ScanTest → Fault → List Scored
own_candidates t f = ranked (candidates t (predicted_facts t f ∷ []))

-- the report over that log
abbrev pub own_report : ScanTest → Fault → List ℕ
own_report t f = die_report t demo_name demo_name (predicted_log t demo_name demo_name f ∷ [])

-- the line of the candidate of rank e.0
abbrev pub rank_line : ℕ × Scored → List ℕ
rank_line e = line (codes "rank" ∷ decimal e.0 ∷ codes "tfsf" ∷ decimal e.1.counts.tfsf ∷ codes "tfsp" ∷ decimal e.1.counts.tfsp ∷ codes "tpsf" ∷ decimal e.1.counts.tpsf ∷ [])

-- the line of the candidate at a place, where there is one
abbrev pub rank_lines_of : Option (ℕ × Scored) → List (List ℕ)
rank_lines_of None = []
rank_lines_of (Some e) = rank_line e ∷ []

abbrev pub rank_lines : List Scored → ℕ → List (List ℕ)
rank_lines rows place = rank_lines_of (find (λ e. e.1.place == place) (enumerate_from 1 rows))

abbrev pub injected_lines : ScanTest → Option ℕ → List (List ℕ)
injected_lines t None = line (codes "injected" ∷ codes "none" ∷ []) ∷ []
injected_lines t (Some place) =
    line (codes "injected" ∷ decimal place ∷ fault_words t (fault_of t place))
    ∷ count_line (codes "fails") (length (predicted_bits t (fault_of t place)))
    ∷ count_line (codes "candidates") (length (own_candidates t (fault_of t place)))
    ∷ (rank_lines (own_candidates t (fault_of t place)) place
    ++ line (codes "digest" ∷ encode_lower (sha256 (own_report t (fault_of t place))) ∷ []) ∷ [])

abbrev pub demo_lines : ℕ → ℕ → ScanTest → List (List ℕ)
demo_lines seed blocks t =
    line (codes "demo" ∷ decimal seed ∷ decimal blocks ∷ [])
    ∷ count_line (codes "nets") (length t.netlist.nets)
    ∷ count_line (codes "faults") (length (universe t))
    ∷ injected_lines t (injected_from (drawn_place seed blocks t) t)

-- ---- the whole text

-- over what texts stand for: those of 1 to 200 blocks break no rule, so that there is a test
abbrev pub text_over : ℕ → ℕ → Result ScanTest (Section × (ℕ × ℕ)) → List ℕ
text_over seed blocks (Ok t) = concatenated (demo_lines seed blocks t)
text_over seed blocks (Err refused) = []

abbrev pub demo_written : ℕ → ℕ → List ℕ
demo_written seed blocks = text_over seed blocks (texts_reading (made_texts seed blocks))
