-- Four texts stand for a scan test where each stands for its part of it.
use Rattle.std.proofs.Common.{◌≡◌, ◌∙◌, ℕ, List, [], ◌∷◌, refl, sym, ap, Result, Ok, Err}
use Rattle.scan_model.specs.declared.parts.Chain.{Chain}
use Rattle.scan_model.specs.declared.parts.Pattern.{Pattern}
use Rattle.scan_model.specs.declared.parts.Pairs.{Pairs}
use Rattle.scan_model.specs.Netlist.{Netlist}
use Rattle.scan_model.specs.ScanTest.{ScanTest, scan_test}
use Rattle.scan_model.specs.NetlistText.{netlist_reading}
use Rattle.scan_model.specs.ScanText.{scan_reading}
use Rattle.scan_model.specs.PatternText.{pattern_frame, pattern_reading}
use Rattle.bridge_pairs.specs.PairText.{pairs_reading}
use Rattle.design_bundle.specs.FourTexts.{FourTexts}
use Rattle.diagnosis.specs.declared.section.Section.{Section}
use Rattle.diagnosis.specs.declared.section.Section.TheVariants.{Netlist as NetlistText, Scan, Patterns, Neighbours}
use Rattle.diagnosis.specs.Texts.{ReadTexts, Reading, value, at_name, beside, by_rules, go_on, with_circuit, with_chains, with_patterns, source_reading}
use Rattle.diagnosis.specs.Bundle.{texts_source, texts_reading}

pub record AreRead (texts : FourTexts) (t : ScanTest) : Type 0 where
  pub c : Netlist
  pub chains : List Chain
  pub patterns : List Pattern
  pub pairs : Pairs
  pub netlist_stands : netlist_reading texts.netlist ≡ Ok c
  pub scan_stands : scan_reading c.nets texts.scan ≡ Ok chains
  pub patterns_stand : pattern_reading (pattern_frame c chains) texts.patterns ≡ Ok patterns
  pub neighbours_stand : pairs_reading c texts.neighbours ≡ Ok pairs
  pub whole : scan_test texts.profile c chains patterns pairs ≡ t

-- where the whole was read, the section was read
section_read : {X Y : Type 0} (section : Section) (text : List ℕ) (r : Result X (ℕ × ℕ)) (next : List ℕ × X → Reading Section (ℕ × ℕ) Y) (y : Y)
    → (go_on (at_name section (beside text (by_rules (λ fault. fault) r))) (section ∷ []) next).outcome ≡ Ok y → (x : X) × (r ≡ Ok x) × ((next (text, x)).outcome ≡ Ok y)
section_read section text (Ok x) next y e = (x, refl, e)
section_read section text (Err fault) next y e = absurd cc

-- the outcome of all four, as their test
abbrev pub test_alone : List Section → Result ReadTexts (Section × (ℕ × ℕ)) → Result ScanTest (Section × (ℕ × ℕ))
test_alone names outcome = (go_on outcome names (λ read. value read.test)).outcome

test_read : (outcome : Result ReadTexts (Section × (ℕ × ℕ))) (names : List Section) (t : ScanTest) → test_alone names outcome ≡ Ok t
    → (d : ReadTexts) × (outcome ≡ Ok d) × (d.test ≡ t)
test_read (Ok d) names t e = (d, refl, cc)
test_read (Err refused) names t e = absurd cc

pub are_read : (texts : FourTexts) (t : ScanTest) → texts_reading texts ≡ Ok t → AreRead texts t
are_read texts t e =
    let source = texts_source texts in
    let all = test_read (source_reading source).outcome (source_reading source).read t e in
    let d = all.0 in
    let first = section_read NetlistText texts.netlist (netlist_reading texts.netlist) (with_circuit source) d all.1 in
    let c : List ℕ × Netlist = (texts.netlist, first.0) in
    let second = section_read Scan texts.scan (scan_reading first.0.nets texts.scan) (with_chains source c) d first.2 in
    let chains : List ℕ × List Chain = (texts.scan, second.0) in
    let third = section_read Patterns texts.patterns (pattern_reading (pattern_frame first.0 second.0) texts.patterns) (with_patterns source c chains) d second.2 in
    let fourth = section_read Neighbours texts.neighbours (pairs_reading first.0 texts.neighbours) (λ pairs. value (record {
      texts = record { profile = texts.profile; netlist = texts.netlist; scan = texts.scan; patterns = texts.patterns; neighbours = pairs.0 };
      test = scan_test texts.profile first.0 second.0 third.0 pairs.1;
    })) d third.2 in
    record {
      c = first.0;
      chains = second.0;
      patterns = third.0;
      pairs = fourth.0;
      netlist_stands = first.1;
      scan_stands = second.1;
      patterns_stand = third.1;
      neighbours_stand = fourth.1;
      whole = ap (test_or t) fourth.2 ∙ all.2;
    }
  where
    test_or : ScanTest → Result ReadTexts (Section × (ℕ × ℕ)) → ScanTest
    test_or other (Ok d) = d.test
    test_or other (Err refused) = other

-- where the section was read, the whole is what follows from it
goes_on : {X Y : Type 0} (section : Section) (text : List ℕ) (r : Result X (ℕ × ℕ)) (x : X) (next : List ℕ × X → Reading Section (ℕ × ℕ) Y) → r ≡ Ok x
    → (go_on (at_name section (beside text (by_rules (λ fault. fault) r))) (section ∷ []) next).outcome ≡ (next (text, x)).outcome
goes_on section text r x next e = rw e refl

pub read_whole : (texts : FourTexts) (t : ScanTest) → AreRead texts t → texts_reading texts ≡ Ok t
read_whole texts t r =
    let source = texts_source texts in
    let c : List ℕ × Netlist = (texts.netlist, r.c) in
    let chains : List ℕ × List Chain = (texts.scan, r.chains) in
    let outcome = goes_on NetlistText texts.netlist (netlist_reading texts.netlist) r.c (with_circuit source) r.netlist_stands
    ∙ goes_on Scan texts.scan (scan_reading r.c.nets texts.scan) r.chains (with_chains source c) r.scan_stands
    ∙ goes_on Patterns texts.patterns (pattern_reading (pattern_frame r.c r.chains) texts.patterns) r.patterns (with_patterns source c chains) r.patterns_stand
    ∙ goes_on Neighbours texts.neighbours (pairs_reading r.c texts.neighbours) r.pairs (λ pairs. value (record {
      texts = record { profile = texts.profile; netlist = texts.netlist; scan = texts.scan; patterns = texts.patterns; neighbours = pairs.0 };
      test = scan_test texts.profile r.c r.chains r.patterns pairs.1;
    })) r.neighbours_stand in
    ap (test_alone (source_reading source).read) outcome ∙ ap Ok r.whole

-- the profile is that of the texts
pub profile_read : (texts : FourTexts) (t : ScanTest) → texts_reading texts ≡ Ok t → t.profile ≡ texts.profile
profile_read texts t e = sym (ap (λ (t : ScanTest). t.profile) (are_read texts t e).whole)
