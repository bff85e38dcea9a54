-- The summary of a design.
use Rattle.std.specs.Prelude.{ℕ, List, [], ◌∷◌, ◌++◌, map, length, decimal, codes}
use Rattle.scan_model.specs.declared.parts.Pair.{Pair}
use Rattle.scan_model.specs.ScanTest.{ScanTest, name_of, cells_of}
use Rattle.scan_model.specs.Universe.{universe}
use Rattle.scan_model.specs.ReportText.{line, concatenated}

abbrev pub count_line : List ℕ → ℕ → List ℕ
count_line word count = line (word ∷ decimal count ∷ [])

abbrev pub circuit_lines : ScanTest → List (List ℕ)
circuit_lines t =
    count_line (codes "inputs") (length t.netlist.inputs)
    ∷ count_line (codes "outputs") (length t.netlist.outputs)
    ∷ count_line (codes "nets") (length t.netlist.nets)
    ∷ count_line (codes "pins") (length t.netlist.pins)
    ∷ []

abbrev pub test_lines : ScanTest → List (List ℕ)
test_lines t =
    count_line (codes "chains") (length t.chains)
    ∷ count_line (codes "cells") (length (cells_of t.chains))
    ∷ count_line (codes "patterns") (length t.patterns)
    ∷ count_line (codes "pairs") (length t.pairs.kept)
    ∷ count_line (codes "left-out") (length t.pairs.left_out)
    ∷ count_line (codes "faults") (length (universe t))
    ∷ []

-- the words for a pair that was left out: its record number, and its nets
abbrev pub left_out_words : ScanTest → Pair → List (List ℕ)
left_out_words t pair = codes "left-out-row" ∷ decimal pair.row ∷ name_of t pair.a ∷ name_of t pair.b ∷ []

abbrev pub left_out_line : ScanTest → Pair → List ℕ
left_out_line t pair = line (left_out_words t pair)

-- how many there are of each, and then the pairs that were left out, in list order
abbrev pub summary_lines : ScanTest → List (List ℕ)
summary_lines t = circuit_lines t ++ (test_lines t ++ map (left_out_line t) t.pairs.left_out)

abbrev pub summary_text : ScanTest → List ℕ
summary_text t = concatenated (summary_lines t)
