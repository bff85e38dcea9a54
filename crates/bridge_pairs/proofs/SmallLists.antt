-- Small lists, computed: what each stands for, or its first fault.
use Rattle.std.specs.Prelude.{◌≡◌, ℕ, List, [], ◌∷◌, ◌++◌, Ok, Err, codes, refl}
use Rattle.csv.specs.Reading.{strip_bom, records_from}
use Rattle.csv.specs.Machine.{next_record}
use Rattle.scan_model.specs.declared.parts.Pair.{Pair}
use Rattle.scan_model.specs.Netlist.{Netlist}
use Rattle.scan_model.specs.NetlistText.{circuit_of}
use Rattle.bridge_pairs.specs.PairText.{pairs_reading}

-- lines, each with LF
abbrev text : List (List ℕ) → List ℕ
text [] = []
text (l ∷ ls) = l ++ (10 ∷ text ls)

-- a circuit of six NAND gates: nets 1 2 3 6 7 10 11 16 19 22 23 by number
abbrev c17 : Netlist
c17 = circuit_of (text (codes "INPUT(1)" ∷ codes "INPUT(2)" ∷ codes "INPUT(3)" ∷ codes "INPUT(6)" ∷ codes "INPUT(7)" ∷ codes "OUTPUT(22)" ∷ codes "OUTPUT(23)"
    ∷ codes "10 = NAND(1, 3)" ∷ codes "11 = NAND(3, 6)" ∷ codes "16 = NAND(2, 11)" ∷ codes "19 = NAND(11, 7)" ∷ codes "22 = NAND(10, 16)" ∷ codes "23 = NAND(16, 19)" ∷ []))

abbrev pair : ℕ → ℕ → ℕ → Pair
pair a b row = record { a = a; b = b; row = row }

feedback_left_out : pairs_reading c17 (text (codes "net_a,net_b" ∷ codes "10,19" ∷ codes "3,10" ∷ codes "19,10" ∷ codes "16,19" ∷ [])) ≡ Ok (record { kept = pair 5 8 2 ∷ pair 7 8 5 ∷ []; left_out = pair 2 5 3 ∷ [] })
unfolding strip_bom records_from next_record
feedback_left_out = refl

nothing_named : pairs_reading c17 [] ≡ Ok (record { kept = []; left_out = [] })
unfolding strip_bom records_from next_record
nothing_named = refl

blanks_dropped : pairs_reading c17 (codes " net_a , net_b" ++ (10 ∷ codes "16 , 3")) ≡ Ok (record { kept = []; left_out = pair 7 2 2 ∷ [] })
unfolding strip_bom records_from next_record
blanks_dropped = refl

no_header : pairs_reading c17 (text (codes "10,19" ∷ [])) ≡ Err (1, 31)
unfolding strip_bom records_from next_record
no_header = refl

three_fields : pairs_reading c17 (text (codes "net_a,net_b" ∷ codes "10,19,1" ∷ [])) ≡ Err (2, 31)
unfolding strip_bom records_from next_record
three_fields = refl

unknown_name : pairs_reading c17 (text (codes "net_a,net_b" ∷ codes "10,19" ∷ codes "10,99" ∷ [])) ≡ Err (3, 32)
unfolding strip_bom records_from next_record
unknown_name = refl

one_net_twice : pairs_reading c17 (text (codes "net_a,net_b" ∷ codes "10,10" ∷ [])) ≡ Err (2, 33)
unfolding strip_bom records_from next_record
one_net_twice = refl
