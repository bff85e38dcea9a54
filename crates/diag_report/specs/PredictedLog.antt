-- The fail log that a fault predicts.
use Rattle.std.specs.Prelude.{◌≡◌, ℕ, ◌-◌, ◌≤◌, ◌↔◌, IsTrue, All, ◌&&◌, Bool, false, List, [], ◌∷◌, ◌++◌, map, filter, length, decimal, codes, slice_index_or}
use Rattle.std.specs.List.{list_any, list_all}
use Rattle.scan_model.specs.declared.fault.Fault.{Fault}
use Rattle.scan_model.specs.declared.logs.Bit.{Bit}
use Rattle.scan_model.specs.declared.logs.Counts.{Counts}
use Rattle.scan_model.specs.declared.logs.LogFacts.{LogFacts}
use Rattle.scan_model.specs.ScanTest.{ScanTest, name_of}
use Rattle.scan_model.specs.Response.{predicts_fail}
use Rattle.scan_model.specs.Universe.{universe}
use Rattle.scan_model.specs.Coverage.{bits_of}
use Rattle.scan_model.specs.MatchCounts.{counts_of}
use Rattle.scan_model.specs.Words.{is_filled, is_name_byte}
use Rattle.scan_model.specs.ReportText.{line, bit_line, concatenated, no_fault}

-- the fault at a place of the list of all modelled faults
abbrev pub fault_of : ScanTest → ℕ → Fault
fault_of t place = slice_index_or (universe t) place no_fault

abbrev pub last_pattern : ScanTest → ℕ
last_pattern t = length t.patterns - 1

-- the words that say that the patterns up to the last are tested
abbrev pub tested_words : ℕ → List (List ℕ)
tested_words last = codes "tested" ∷ decimal 0 ∷ decimal last ∷ []

-- the lines before the first fail: all patterns are tested
abbrev pub head_lines : ScanTest → List ℕ → List ℕ → List (List ℕ)
head_lines t design die =
    line (codes "FAILLOG" ∷ codes "1" ∷ [])
    ∷ line (codes "die" ∷ die ∷ [])
    ∷ line (codes "design" ∷ design ∷ [])
    ∷ line (tested_words (last_pattern t))
    ∷ []

-- a line for each of these bits at which the fault predicts a fail
abbrev pub fail_lines : ScanTest → Fault → List Bit → List (List ℕ)
fail_lines t f bits = map (bit_line t (codes "fail")) (filter (predicts_fail t f) bits)

abbrev pub end_line : List ℕ
end_line = line (codes "end" ∷ [])

abbrev pub predicted_lines : ScanTest → List ℕ → List ℕ → Fault → List (List ℕ)
predicted_lines t design die f = head_lines t design die ++ (fail_lines t f (bits_of t) ++ end_line ∷ [])

abbrev pub predicted_log : ScanTest → List ℕ → List ℕ → Fault → List ℕ
predicted_log t design die f = concatenated (predicted_lines t design die f)

-- ---- what the log stands for

-- the bits at which the fault predicts a fail, in bit order
abbrev pub predicted_bits : ScanTest → Fault → List Bit
predicted_bits t f = filter (predicts_fail t f) (bits_of t)

-- the complete log over all patterns with exactly these fails
abbrev pub predicted_facts : ScanTest → Fault → LogFacts
predicted_facts t f = record {
  ranges = record { first = 0; last = last_pattern t } ∷ [];
  truncated = false;
  fails = predicted_bits t f;
  cuts = [];
}

abbrev pub own_counts : ScanTest → Fault → Counts
own_counts t f = counts_of t (predicted_facts t f ∷ []) f

-- Over the log that it predicts alone, a fault explains each failing bit and predicts no passing bit to fail; it explains
-- one or more exactly where it predicts a fail somewhere.
pub record ExplainsOwnLog (t : ScanTest) (f : Fault) : Type 0 where
  pub all_explained : (own_counts t f).tfsp ≡ 0
  pub none_wrong : (own_counts t f).tpsf ≡ 0
  pub each_matched : (own_counts t f).tfsf ≡ length (predicted_bits t f)
  pub some_matched : (1 ≤ (own_counts t f).tfsf) ↔ IsTrue (list_any (predicts_fail t f) (bits_of t))

-- ---- names that a log can name

-- at least one byte, all of which are name bytes
abbrev pub is_word_name : List ℕ → Bool
is_word_name w = is_filled w && list_all is_name_byte w

-- the names of the nets, and so of the outputs, and of the chains are such words
pub record HasWordNames (t : ScanTest) : Type 0 where
  pub nets : All (λ n. IsTrue (is_word_name n.name)) t.netlist.nets
  pub outputs : All (λ n. IsTrue (is_word_name (name_of t n))) t.netlist.outputs
  pub chains : All (λ h. IsTrue (is_word_name h.name)) t.chains
