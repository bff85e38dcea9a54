-- Small texts, computed: what each stands for, or its first fault. Rules stand here by the numbers of the formats.
use Rattle.std.specs.Prelude.{◌≡◌, ℕ, true, false, List, [], ◌∷◌, ◌++◌, length, Some, None, Ok, Err, codes, refl}
use Rattle.scan_model.specs.declared.circuit.GateKind.TheVariants.{Nand}
use Rattle.scan_model.specs.declared.circuit.Driver.{Driver}
use Rattle.scan_model.specs.declared.circuit.Driver.TheVariants.{Input, Flop, Gate}
use Rattle.scan_model.specs.declared.circuit.Net.{Net}
use Rattle.scan_model.specs.declared.circuit.PinPlace.TheVariants as place
use Rattle.scan_model.specs.declared.values.Tri.TheVariants.{Zero, One, Unknown}
use Rattle.scan_model.specs.declared.parts.PatternKind.TheVariants.{Capture, Shift}
use Rattle.scan_model.specs.declared.parts.Point.TheVariants.{Output, Cell}
use Rattle.scan_model.specs.Netlist.{netlist}
use Rattle.scan_model.specs.NetlistText.{netlist_fault, netlist_reading, circuit_of}
use Rattle.scan_model.specs.ScanText.{scan_reading}
use Rattle.scan_model.specs.PatternText.{PatternFrame, pattern_reading}
use Rattle.scan_model.specs.declared.logs.LogForm.TheVariants.{FailLog, CompactLog}
use Rattle.scan_model.specs.LogText.{LogFrame, log_reading, log_fault}
use Rattle.scan_model.specs.LogTextV1 as v1

-- lines, each with LF
abbrev text : List (List ℕ) → List ℕ
text [] = []
text (l ∷ ls) = l ++ (10 ∷ text ls)

-- ---- netlists

loop_of_gates : netlist_fault (text (codes "INPUT(c)" ∷ codes "a = AND(b, c)" ∷ codes "b = OR(a, c)" ∷ [])) ≡ Some (2, 8)
loop_of_gates = refl

undefined_net : netlist_fault (text (codes "INPUT(a)" ∷ codes "y = AND(a, q)" ∷ [])) ≡ Some (2, 7)
undefined_net = refl

unknown_word : netlist_fault (text (codes "INPUT(a)" ∷ codes "y = FOO(a)" ∷ [])) ≡ Some (2, 3)
unknown_word = refl

wrong_count : netlist_fault (text (codes "INPUT(a)" ∷ codes "y = NOT(a, a)" ∷ [])) ≡ Some (2, 4)
wrong_count = refl

defined_twice : netlist_fault (text (codes "INPUT(a)" ∷ codes "INPUT(a)" ∷ [])) ≡ Some (2, 6)
defined_twice = refl

no_form : netlist_fault (text (codes "INPUT(a)" ∷ codes "INPUT(b" ∷ [])) ≡ Some (2, 2)
no_form = refl

-- comments, CR before LF, either case, free blanks, and no end of the last line
loose : netlist_reading (codes "# c" ++ (13 ∷ 10 ∷ []) ++ codes "input(a)" ++ (13 ∷ 10 ∷ []) ++ codes "OUTPUT ( y )  # out" ++ (13 ∷ 10 ∷ []) ++ codes "y = nand(a)")
    ≡ Ok (netlist
    (record { name = codes "a"; driver = Input; first_pin = 0; pin_count = 0 } ∷ record { name = codes "y"; driver = Gate Nand; first_pin = 1; pin_count = 1 } ∷ [])
    (record { net = 1; place = place.Output 0 } ∷ record { net = 0; place = place.Operand 1 0 } ∷ [])
    (0 ∷ [])
    (1 ∷ []))
loose = refl

abbrev s27_text : List ℕ
s27_text = text (codes "INPUT(G0)" ∷ codes "INPUT(G1)" ∷ codes "INPUT(G2)" ∷ codes "INPUT(G3)" ∷ codes "OUTPUT(G17)" ∷ codes "G5 = DFF(G10)" ∷ codes "G6 = DFF(G11)" ∷ codes "G7 = DFF(G13)" ∷ codes "G14 = NOT(G0)" ∷ codes "G17 = NOT(G11)" ∷ codes "G8 = AND(G14, G6)" ∷ codes "G15 = OR(G12, G8)" ∷ codes "G16 = OR(G3, G8)" ∷ codes "G9 = NAND(G16, G15)" ∷ codes "G10 = NOR(G14, G11)" ∷ codes "G11 = NOR(G5, G9)" ∷ codes "G12 = NOR(G1, G7)" ∷ codes "G13 = NOR(G2, G12)" ∷ [])

no_fault : netlist_fault s27_text ≡ None
no_fault = refl

pin_number : (circuit_of s27_text).outputs ≡ 8 ∷ []
pin_number = refl

pin_total : length (circuit_of s27_text).pins ≡ 22
pin_total = refl

-- ---- scan texts, over the nets of s27 that matter

abbrev net : Driver → List ℕ → Net
net driver name = record { name = name; driver = driver; first_pin = 0; pin_count = 0 }

abbrev nets : List Net
nets = net Input (codes "G0") ∷ net Flop (codes "G5") ∷ net Flop (codes "G6") ∷ net Flop (codes "G7") ∷ net Input (codes "G8") ∷ []

not_a_flop : scan_reading nets (codes "CHAIN c0 G5 G8") ≡ Err (1, 13)
not_a_flop = refl

twice_in_a_chain : scan_reading nets (codes "CHAIN c0 G5 G5") ≡ Err (1, 14)
twice_in_a_chain = refl

no_such_net : scan_reading nets (codes "CHAIN c0 G99") ≡ Err (1, 12)
no_such_net = refl

no_cells : scan_reading nets (codes "CHAIN c0") ≡ Err (1, 11)
no_cells = refl

-- the lowest rule on the line, though it stands later in it
lowest_rule : scan_reading nets (codes "CHAIN c0 G8 G99") ≡ Err (1, 12)
lowest_rule = refl

one_chain : scan_reading nets (codes "CHAIN c0 G5 G6 G7") ≡ Ok (record { name = codes "c0"; cells = 1 ∷ 2 ∷ 3 ∷ [] } ∷ [])
one_chain = refl

-- ---- pattern texts

abbrev frame : PatternFrame
frame = record { inputs = 4; lengths = 3 ∷ []; keyword = codes "CAPTURE"; shifts = true }

few_words : pattern_reading frame (codes "CAPTURE 0000") ≡ Err (1, 22)
few_words = refl

short_inputs : pattern_reading frame (codes "CAPTURE 000 000") ≡ Err (1, 23)
short_inputs = refl

other_value : pattern_reading frame (codes "CAPTURE 0002 000") ≡ Err (1, 24)
other_value = refl

other_keyword : pattern_reading frame (codes "RUN 0") ≡ Err (1, 21)
other_keyword = refl

no_pattern : pattern_reading frame [] ≡ Err (1, 26)
no_pattern = refl

a_shift : pattern_reading frame (codes "SHIFT 1x0") ≡ Ok (record { kind = Shift; inputs = []; loads = (One ∷ Unknown ∷ Zero ∷ []) ∷ [] } ∷ [])
a_shift = refl

-- a frame without shifts
abbrev launching : PatternFrame
launching = record { inputs = 4; lengths = 3 ∷ []; keyword = codes "LOC"; shifts = false }

no_such_keyword : pattern_reading launching (codes "CAPTURE 0011 001") ≡ Err (1, 21)
no_such_keyword = refl

no_shift : pattern_reading launching (codes "SHIFT 001") ≡ Err (1, 21)
no_shift = refl

a_launch : pattern_reading launching (codes "LOC 0011 0x1") ≡ Ok (record { kind = Capture; inputs = Zero ∷ Zero ∷ One ∷ One ∷ []; loads = (Zero ∷ Unknown ∷ One ∷ []) ∷ [] } ∷ [])
a_launch = refl

-- ---- fail logs, of c17 with one CAPTURE pattern

abbrev c17 : LogFrame
c17 = record {
  form = FailLog;
  outputs = codes "22" ∷ codes "23" ∷ [];
  chains = [];
  lengths = [];
  points = Output 0 ∷ Output 1 ∷ [];
  shifts = false ∷ [];
  design = codes "c17";
  die = codes "D1";
}

abbrev log_with : List ℕ → List ℕ → List ℕ → List (List ℕ) → List ℕ
log_with design tested fail more = text (codes "FAILLOG 1" ∷ codes "die D1" ∷ design ∷ tested ∷ fail ∷ more)

abbrev log_a : List ℕ
log_a = log_with (codes "design c17") (codes "tested 0 0") (codes "fail 0 out 22") (codes "end" ∷ [])

whole : log_reading c17 log_a ≡ Ok (record { ranges = record { first = 0; last = 0 } ∷ []; truncated = false; fails = record { pattern = 0; point = 0 } ∷ []; cuts = [] })
whole = refl

nowhere : log_fault c17 (log_with (codes "design c17") (codes "tested 0 0") (codes "fail 0 out 99") (codes "end" ∷ [])) ≡ Some (5, 58)
nowhere = refl

untested : log_fault c17 (log_with (codes "design c17") (codes "tested 0 0") (codes "fail 1 out 22") (codes "end" ∷ [])) ≡ Some (5, 59)
untested = refl

no_number : log_fault c17 (log_with (codes "design c17") (codes "tested 0 0") (codes "fail 00 out 22") (codes "end" ∷ [])) ≡ Some (5, 54)
no_number = refl

bad_range : log_fault c17 (log_with (codes "design c17") (codes "tested 0 5") (codes "fail 0 out 22") (codes "end" ∷ [])) ≡ Some (4, 57)
bad_range = refl

no_end : log_fault c17 (log_with (codes "design c17") (codes "tested 0 0") (codes "fail 0 out 22") []) ≡ Some (6, 61)
no_end = refl

after_end : log_fault c17 (log_with (codes "design c17") (codes "tested 0 0") (codes "fail 0 out 22") (codes "end" ∷ codes "more" ∷ [])) ≡ Some (7, 62)
after_end = refl

other_design : log_fault c17 (log_with (codes "design c18") (codes "tested 0 0") (codes "fail 0 out 22") (codes "end" ∷ [])) ≡ Some (3, 55)
other_design = refl

empty_log : log_fault c17 [] ≡ Some (1, 52)
empty_log = refl

-- of s27 with a SHIFT pattern
abbrev s27 : LogFrame
s27 = record {
  form = FailLog;
  outputs = codes "G17" ∷ [];
  chains = codes "c0" ∷ [];
  lengths = 3 ∷ [];
  points = Output 0 ∷ Cell 0 2 ∷ Cell 0 1 ∷ Cell 0 0 ∷ [];
  shifts = true ∷ [];
  design = codes "c17";
  die = codes "D1";
}

out_of_shift : log_fault s27 (log_with (codes "design c17") (codes "tested 0 0") (codes "fail 0 out G17") (codes "end" ∷ [])) ≡ Some (5, 60)
out_of_shift = refl

a_cell : log_reading s27 (log_with (codes "design c17") (codes "tested 0 0") (codes "fail 0 cell c0 0") (codes "truncated" ∷ []))
    ≡ Ok (record { ranges = record { first = 0; last = 0 } ∷ []; truncated = true; fails = record { pattern = 0; point = 3 } ∷ []; cuts = [] })
a_cell = refl

-- ---- fail logs of version 2

abbrev second_with : List ℕ → List (List ℕ) → List ℕ
second_with tested more = text (codes "FAILLOG 2" ∷ codes "die D1" ∷ codes "design c17" ∷ tested ∷ more)

-- over c17 with a chain of two cells and three patterns
abbrev three : LogFrame
three = record {
  form = FailLog;
  outputs = codes "22" ∷ codes "23" ∷ [];
  chains = codes "c0" ∷ [];
  lengths = 2 ∷ [];
  points = Output 0 ∷ Output 1 ∷ Cell 0 1 ∷ Cell 0 0 ∷ [];
  shifts = false ∷ false ∷ false ∷ [];
  design = codes "c17";
  die = codes "D1";
}

two_ranges : log_reading three (second_with (codes "tested 0 0") (codes "tested 2 2" ∷ codes "cut chain c0" ∷ codes "fail 2 out 22" ∷ codes "cut out" ∷ codes "cut chain c0" ∷ codes "end" ∷ []))
    ≡ Ok (record { ranges = record { first = 0; last = 0 } ∷ record { first = 2; last = 2 } ∷ []; truncated = false; fails = record { pattern = 2; point = 0 } ∷ []; cuts = (2 ∷ 3 ∷ []) ∷ (0 ∷ 1 ∷ []) ∷ [] })
two_ranges = refl

between : log_fault three (second_with (codes "tested 0 0") (codes "tested 2 2" ∷ codes "fail 1 out 22" ∷ codes "end" ∷ [])) ≡ Some (6, 59)
between = refl

late : log_fault three (second_with (codes "tested 0 0") (codes "cut out" ∷ codes "tested 0 0" ∷ codes "end" ∷ [])) ≡ Some (6, 64)
late = refl

no_chain : log_fault three (second_with (codes "tested 0 0") (codes "cut chain c1" ∷ codes "end" ∷ [])) ≡ Some (5, 58)
no_chain = refl

cut_first : log_fault three (text (codes "FAILLOG 2" ∷ codes "cut out" ∷ [])) ≡ Some (2, 63)
cut_first = refl

cut_of_version_1 : log_fault c17 (log_with (codes "design c17") (codes "tested 0 0") (codes "fail 0 out 22") (codes "cut out" ∷ codes "end" ∷ [])) ≡ Some (6, 53)
cut_of_version_1 = refl

tested_again : log_fault c17 (log_with (codes "design c17") (codes "tested 0 0") (codes "tested 0 0") (codes "end" ∷ [])) ≡ Some (5, 63)
tested_again = refl

third_version : log_fault c17 (codes "FAILLOG 3") ≡ Some (1, 52)
third_version = refl

-- what version 1 said of the first of these
whole_before : v1.log_v1 c17 log_a ≡ Ok (record { first = 0; last = 0; truncated = false; fails = record { pattern = 0; point = 0 } ∷ [] })
whole_before = refl

-- a log of a compactor: its channel shows two cycles
abbrev compact : LogFrame
compact = record {
  form = CompactLog;
  outputs = codes "22" ∷ [];
  chains = codes "x" ∷ [];
  lengths = 2 ∷ [];
  points = Output 0 ∷ Cell 0 0 ∷ Cell 0 1 ∷ [];
  shifts = false ∷ [];
  design = codes "c17";
  die = codes "D1";
}

channel : log_reading compact (text (codes "COMPLOG 1" ∷ codes "die D1" ∷ codes "design c17" ∷ codes "tested 0 0" ∷ codes "fail 0 chan x 1" ∷ codes "end" ∷ []))
    ≡ Ok (record { ranges = record { first = 0; last = 0 } ∷ []; truncated = false; fails = record { pattern = 0; point = 2 } ∷ []; cuts = [] })
channel = refl

no_cell : log_fault compact (text (codes "COMPLOG 1" ∷ codes "die D1" ∷ codes "design c17" ∷ codes "tested 0 0" ∷ codes "fail 0 cell x 1" ∷ [])) ≡ Some (5, 53)
no_cell = refl

no_second : log_fault compact (codes "COMPLOG 2") ≡ Some (1, 52)
no_second = refl
