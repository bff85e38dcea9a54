-- The texts of a design, from wherever they come: each is read and judged before the next is read, up to the first that doesn't serve.
use Rattle.std.specs.Prelude.{ℕ, List, [], ◌∷◌, ◌++◌, Result, Ok, Err}
use Rattle.scan_model.specs.declared.fault.Profile.{Profile}
use Rattle.scan_model.specs.declared.parts.Chain.{Chain}
use Rattle.scan_model.specs.declared.parts.Pattern.{Pattern}
use Rattle.scan_model.specs.declared.parts.Pairs.{Pairs}
use Rattle.scan_model.specs.Netlist.{Netlist}
use Rattle.scan_model.specs.ScanTest.{ScanTest, scan_test}
use Rattle.scan_model.specs.NetlistText.{netlist_reading}
use Rattle.scan_model.specs.ScanText.{scan_reading}
use Rattle.scan_model.specs.PatternText.{pattern_frame, pattern_reading}
use Rattle.bridge_pairs.specs.PairText.{pairs_reading}
use Rattle.design_bundle.specs.FourTexts.{FourTexts}

-- the four texts of a design, and the scan test that they stand for
pub record ReadTexts : Type 0 where
  pub texts : FourTexts
  pub test : ScanTest

-- ---- texts one after another, with a name for each

-- what texts come to: a value, or the name of the first that is refused and why; and the names of those that are read, in their order
pub record Reading (N R X : Type 0) : Type 0 where
  pub outcome : Result X (N × R)
  pub read : List N

-- a text with its name, or why there is none
pub record Place (N R : Type 0) : Type 0 where
  pub name : N
  pub text : Result (List ℕ) R

-- a value for which no text is read
abbrev pub value : {N R X : Type 0} → X → Reading N R X
value x = record { outcome = Ok x; read = [] }

-- what a text stands for, where there is one
abbrev pub text_value : {R X : Type 0} → (List ℕ → Result X R) → Result (List ℕ) R → Result X R
text_value reads (Ok text) = reads text
text_value reads (Err why) = Err why

-- a refusal with the name of its text
abbrev pub at_name : {N R X : Type 0} → N → Result X R → Result X (N × R)
at_name name (Ok x) = Ok x
at_name name (Err why) = Err (name, why)

-- one text is read, where `reads` says what it stands for
abbrev pub one_text : {N R X : Type 0} → Place N R → (List ℕ → Result X R) → Reading N R X
one_text place reads = record { outcome = at_name place.name (text_value reads place.text); read = place.name ∷ [] }

-- more texts, after those of these names
abbrev pub after_names : {N R X : Type 0} → List N → Reading N R X → Reading N R X
after_names names more = record { outcome = more.outcome; read = names ++ more.read }

abbrev pub go_on : {N R X Y : Type 0} → Result X (N × R) → List N → (X → Reading N R Y) → Reading N R Y
go_on (Ok x) names next = after_names names (next x)
go_on (Err refused) names next = record { outcome = Err refused; read = names }

-- goes on with what the texts stand for, where all of them serve
abbrev pub and_then : {N R X Y : Type 0} → Reading N R X → (X → Reading N R Y) → Reading N R Y
and_then reading next = go_on reading.outcome reading.read next

-- what a text stands for by rules, and why it is refused for its first fault, a line and a rule
abbrev pub by_rules : {R X : Type 0} → (ℕ × ℕ → R) → Result X (ℕ × ℕ) → Result X R
by_rules rule (Ok x) = Ok x
by_rules rule (Err fault) = Err (rule fault)

-- a text before what it stands for
abbrev pub beside : {R X : Type 0} → List ℕ → Result X R → Result (List ℕ × X) R
beside text (Ok x) = Ok (text, x)
beside text (Err why) = Err why

-- a text and what it stands for
abbrev pub read_text : {N R X : Type 0} → Place N R → (ℕ × ℕ → R) → (List ℕ → Result X (ℕ × ℕ)) → Reading N R (List ℕ × X)
read_text place rule reads = one_text place (λ text. beside text (by_rules rule (reads text)))

-- ---- the texts of a design

-- the profile, where the four texts are, and why one is refused for its first fault
pub record Source (N R : Type 0) : Type 0 where
  pub profile : Profile
  pub netlist : Place N R
  pub scan : Place N R
  pub patterns : Place N R
  pub neighbours : Place N R
  pub rule : ℕ × ℕ → R

module _ {N R : Type 0} (source : Source N R) where
  -- the circuit, then its chains, patterns for both, and the neighbours of the circuit's nets
  abbrev pub netlist_text : Reading N R (List ℕ × Netlist)
  netlist_text = read_text source.netlist source.rule netlist_reading

  abbrev pub scan_text : Netlist → Reading N R (List ℕ × List Chain)
  scan_text c = read_text source.scan source.rule (scan_reading c.nets)

  abbrev pub pattern_text : Netlist → List Chain → Reading N R (List ℕ × List Pattern)
  pattern_text c chains = read_text source.patterns source.rule (pattern_reading (pattern_frame c chains))

  abbrev pub neighbour_text : Netlist → Reading N R (List ℕ × Pairs)
  neighbour_text c = read_text source.neighbours source.rule (pairs_reading c)

  -- the design, after the texts before the neighbours, before the patterns, and before the chains
  abbrev pub with_patterns : List ℕ × Netlist → List ℕ × List Chain → List ℕ × List Pattern → Reading N R ReadTexts
  with_patterns c chains patterns = and_then (neighbour_text c.1) (λ pairs. value (record {
    texts = record { profile = source.profile; netlist = c.0; scan = chains.0; patterns = patterns.0; neighbours = pairs.0 };
    test = scan_test source.profile c.1 chains.1 patterns.1 pairs.1;
  }))

  abbrev pub with_chains : List ℕ × Netlist → List ℕ × List Chain → Reading N R ReadTexts
  with_chains c chains = and_then (pattern_text c.1 chains.1) (with_patterns c chains)

  abbrev pub with_circuit : List ℕ × Netlist → Reading N R ReadTexts
  with_circuit c = and_then (scan_text c.1) (with_chains c)

  -- the design of the four texts
  abbrev pub source_reading : Reading N R ReadTexts
  source_reading = and_then netlist_text with_circuit
