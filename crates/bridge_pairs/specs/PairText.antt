-- The pairs of a list of neighbouring nets, and what reading the list gives.
use Rattle.std.specs.Prelude.{ℕ, zero, suc, ◌+◌, ◌==◌, Bool, false, not, ◌&&◌, ◌||◌, nat_le, if◌then◌else◌, is_none, List, [], ◌∷◌, ◌++◌, length, map, filter, reverse, slice_index_or, Option, Some, None, codes, Result}
use Rattle.std.specs.List.{list_any}
use Rattle.std.specs.Str.{bytes_eq}
use Rattle.csv.specs.Reading.{default_config, records, strip_bom}
use Rattle.scan_model.specs.declared.parts.Pair.{Pair}
use Rattle.scan_model.specs.declared.parts.Pairs.{Pairs}
use Rattle.scan_model.specs.Netlist.{Netlist}
use Rattle.scan_model.specs.Cone.{in_fan_in}
use Rattle.scan_model.specs.Lines.{is_blank}
use Rattle.scan_model.specs.Words.{has_word}
use Rattle.scan_model.specs.TextFaults.{breaks, lowest, first_fault, refused_or}
use Rattle.scan_model.specs.declared.rules.TheConstants.{OTHER_PAIR_FORM, NAMES_NO_NET, NAMES_ONE_NET, TOO_MANY_PAIRS}
use Rattle.scan_model.specs.NetlistText.{net_number}
use Rattle.scan_model.specs.ScanText.{net_names}
use Rattle.scan_model.specs.ScanTest.{same_pair}
use Rattle.text_parts.specs.TextEnd.{ended}

-- the most different pairs that a list may name, kept and left out together
abbrev pub pair_limit : ℕ
pair_limit = 65536

-- ---- records

-- a field from its first byte that is no blank on
abbrev pub after_blanks : List ℕ → List ℕ
after_blanks [] = []
after_blanks (b ∷ bs) = if is_blank b then after_blanks bs else b ∷ bs

-- a field without leading and trailing blanks
abbrev pub trimmed : List ℕ → List ℕ
trimmed field = reverse (after_blanks (reverse (after_blanks field)))

-- the records of a list, field by field
abbrev pub records_in : List ℕ → List (List (List ℕ))
records_in bytes = map (map trimmed) (records default_config (strip_bom (ended bytes)))

abbrev pub record_at : List (List (List ℕ)) → ℕ → List (List ℕ)
record_at rows i = slice_index_or rows i []

-- two names in a record
pub record TwoNames : Type 0 where
  pub a : List ℕ
  pub b : List ℕ

-- the names of a record with two fields
abbrev pub two_names : List (List ℕ) → Option TwoNames
two_names (a ∷ b ∷ []) = Some (record { a = a; b = b })
two_names fields = None

-- the names are those of the header
abbrev pub is_header : Option TwoNames → Bool
is_header None = false
is_header (Some n) = bytes_eq n.a (codes "net_a") && bytes_eq n.b (codes "net_b")

-- the nets that record i names; the header, record 0, names none
abbrev pub nets_named : ℕ → List (List ℕ) → Option TwoNames
nets_named i fields = if i == 0 then None else two_names fields

-- ---- pairs, by the names of all nets

-- the pair of two names in record i, with the record's number, which is counted from 1
abbrev pub numbered : List (List ℕ) → ℕ → TwoNames → Pair
numbered names i n = record { a = net_number names n.a; b = net_number names n.b; row = i + 1 }

-- a pair of the same two nets, in either order, is among these
abbrev pub is_named : List Pair → Pair → Bool
is_named seen p = list_any (λ q. same_pair q p) seen

-- the pairs so far with that of record i, which adds nothing where it was named before
abbrev pub with_pair : List (List ℕ) → List Pair → ℕ → Option TwoNames → List Pair
with_pair names seen i None = seen
with_pair names seen i (Some n) = if is_named seen (numbered names i n) then seen else seen ++ numbered names i n ∷ []

-- the different pairs of the first n records, in the order in which they are first named
abbrev pub pairs_before : List (List ℕ) → List (List (List ℕ)) → ℕ → List Pair
pairs_before names rows zero = []
pairs_before names rows (suc i) = with_pair names (pairs_before names rows i) i (nets_named i (record_at rows i))

abbrev pub pairs_in : List (List ℕ) → List (List (List ℕ)) → List Pair
pairs_in names rows = pairs_before names rows (length rows)

-- ---- rules

-- rule 31: the first record is not the header, or a record has not two fields
abbrev pub has_other_form : ℕ → List (List ℕ) → Bool
has_other_form i fields = if i == 0 then not (is_header (two_names fields)) else is_none (two_names fields)

-- rule 32: no net has the name
abbrev pub names_no_net : List (List ℕ) → Option TwoNames → Bool
names_no_net names None = false
names_no_net names (Some n) = not (has_word names n.a) || not (has_word names n.b)

-- rule 33: both names are the same net
abbrev pub names_one_net : List (List ℕ) → Option TwoNames → Bool
names_one_net names None = false
names_one_net names (Some n) = net_number names n.a == net_number names n.b

-- rule 34: the record makes one different pair too many
abbrev pub names_too_many : List (List ℕ) → List Pair → ℕ → Option TwoNames → Bool
names_too_many names seen i None = false
names_too_many names seen i (Some n) = not (is_named seen (numbered names i n)) && nat_le pair_limit (length seen)

-- the rules at record i, after these pairs
abbrev pub pair_rules : List (List ℕ) → List Pair → ℕ → List (List ℕ) → List (ℕ × Bool)
pair_rules names seen i fields =
    (OTHER_PAIR_FORM, has_other_form i fields) ∷
    (NAMES_NO_NET, names_no_net names (nets_named i fields)) ∷
    (NAMES_ONE_NET, names_one_net names (nets_named i fields)) ∷
    (TOO_MANY_PAIRS, names_too_many names seen i (nets_named i fields)) ∷ []

-- the rules at record i
abbrev pub pair_table : List (List ℕ) → List (List (List ℕ)) → ℕ → List (ℕ × Bool)
pair_table names rows i = pair_rules names (pairs_before names rows i) i (record_at rows i)

-- record i, counted from 0, breaks the rule
abbrev pub pairs_break : List (List ℕ) → List (List (List ℕ)) → ℕ → ℕ → Bool
pairs_break names rows i rule = breaks (pair_table names rows i) rule

-- the lowest rule that record i breaks
abbrev pub pair_rule : List (List ℕ) → List (List (List ℕ)) → ℕ → Option ℕ
pair_rule names rows i = lowest (pair_table names rows i)

abbrev pub pairs_fault : List (List ℕ) → List (List (List ℕ)) → Option (ℕ × ℕ)
pairs_fault names rows = first_fault (pair_rule names rows) (length rows)

-- what a list names: its first fault, by a record's number and a rule, or the different pairs in the order of records
abbrev pub naming : List (List ℕ) → List (List (List ℕ)) → Result (List Pair) (ℕ × ℕ)
naming names rows = refused_or (pairs_fault names rows) (pairs_in names rows)

-- ---- feedback

-- one of the two nets lies in the other's fan-in cone
abbrev pub is_feedback : Netlist → Pair → Bool
is_feedback c p = in_fan_in c p.a p.b || in_fan_in c p.b p.a

-- feedback pairs are left out
abbrev pub parted : Netlist → List Pair → Pairs
parted c pairs = record { kept = filter (λ p. not (is_feedback c p)) pairs; left_out = filter (is_feedback c) pairs }

-- what reading a list gives: its first fault, or the pairs kept and left out in the order of records
abbrev pub pairs_reading : Netlist → List ℕ → Result Pairs (ℕ × ℕ)
pairs_reading c bytes = refused_or
    (pairs_fault (net_names c.nets) (records_in bytes))
    (parted c (pairs_in (net_names c.nets) (records_in bytes)))
