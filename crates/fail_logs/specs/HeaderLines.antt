-- The headers of a log after one more line.
use Rattle.std.specs.Prelude.{ℕ, ◌<◌, ◌++◌, ◌∷◌, [], true}
use Rattle.scan_model.specs.LogText.{LogLine, Headers, die_line, design_line, tested_line, out_line, cell_line, cut_out_line, cut_chain_line, number}

abbrev pub with_line : Headers → LogLine → Headers
with_line h (die_line w) = record { die = true; design = h.design; ranges = h.ranges; begun = h.begun }
with_line h (design_line w) = record { die = h.die; design = true; ranges = h.ranges; begun = h.begun }
with_line h (tested_line a b) = record { die = h.die; design = h.design; ranges = h.ranges ++ record { first = number a; last = number b } ∷ []; begun = h.begun }
with_line h (out_line p n) = record { die = h.die; design = h.design; ranges = h.ranges; begun = true }
with_line h (cell_line p c w) = record { die = h.die; design = h.design; ranges = h.ranges; begun = true }
with_line h cut_out_line = record { die = h.die; design = h.design; ranges = h.ranges; begun = true }
with_line h (cut_chain_line w) = record { die = h.die; design = h.design; ranges = h.ranges; begun = true }
with_line h l = h

-- the last pattern of a `tested` line is below n
abbrev pub EndsBelow : ℕ → LogLine → Type 0
EndsBelow n (tested_line a b) = number b < n
EndsBelow n l = Unit {0}
