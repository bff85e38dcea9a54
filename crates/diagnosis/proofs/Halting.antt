-- What texts that are read one after another come to.
use Rattle.std.proofs.Common.{◌≡◌, ℕ, List, [], ◌∷◌, refl, sym, ap, subst, Result, Ok, Err}
use Rattle.std.specs.Prelude.{Contains}
use Rattle.std.proofs.lemmas.List.Elements.{Contains-append_left, Contains-append_right, Contains-push}
use Rattle.text_parts.specs.declared.fault.ReadFault.{ReadFault}
use Rattle.text_parts.specs.declared.fault.ReadFault.TheVariants as answer
use Rattle.text_parts.specs.ReadResults.{Fails, Gives}
use Rattle.scan_model.specs.declared.parts.Chain.{Chain}
use Rattle.scan_model.specs.declared.parts.Pattern.{Pattern}
use Rattle.scan_model.specs.Netlist.{Netlist}
use Rattle.design_bundle.specs.FourTexts.{FourTexts}
use Rattle.diagnosis.specs.declared.section.BundleFault.{BundleFault}
use Rattle.diagnosis.specs.declared.section.BundleFault.TheVariants as fault
use Rattle.diagnosis.specs.declared.texts.TextReading.{TextReading}
use Rattle.diagnosis.specs.Texts.{ReadTexts, Reading, Place, Source, go_on, and_then, one_text, beside, by_rules, read_text, with_patterns, with_chains, with_circuit, source_reading, scan_text, pattern_text, neighbour_text}
use Rattle.diagnosis.specs.TextHalts.{Halt, refused, failed, no_memory, halt_at, HaltsAt, HaltsAs, ComesTo}
use Rattle.diagnosis.specs.ReadDesigns.{IsReading, shown_text}
use Rattle.diagnosis.specs.Bundle.{texts_source, texts_reading}
use Rattle.diagnosis.specs.Sections.{halt_of}
use Rattle.diagnosis.specs.ReaderAnswers.{RefusedBy}
use Rattle.diagnosis.proofs.AreRead.{test_alone}

-- ---- one text

-- a stop at its place is one of reading it
pub text_halts : {N R X : Type 0} (place : Place N R) (reads : List ℕ → Result X R) (h : Halt N R) → HaltsAt place h → HaltsAs h (one_text place reads)
text_halts place reads (refused name why) is = rw (is.1, is.0) refl
text_halts place reads (failed name) is = subst (Contains (place.name ∷ [])) (sym is) (Contains-push [] place.name)
text_halts place reads no_memory is = tt

module _ {N R X : Type 0} (place : Place N R) (rule : ℕ × ℕ → R) (reads : List ℕ → Result X (ℕ × ℕ)) where
  pub rules_halt : (h : Halt N R) → HaltsAt place h → HaltsAs h (read_text place rule reads)
  rules_halt h is = text_halts place (λ text. beside text (by_rules rule (reads text))) h is

  -- so is what its reader answered, where it has a text
  pub text_comes : {T S : Type 0} (shows : T → List ℕ) (halt : S → Halt N R) (text : T) (answer : Result X ReadFault) (result : Result (TextReading T X) S) → place.text ≡ Ok (shows text)
      → Gives (λ x. x) answer (reads (shows text)) → IsReading halt (halt_at place rule) text answer result → ComesTo halt (shown_text shows) result (read_text place rule reads)
  text_comes shows halt text (Ok x) (Ok j) held stands is = rw (held, stands, is.0, is.1) refl
  text_comes shows halt text (Err (answer.Text f)) (Err stop) held fails is = rw (is, held, fails) refl
  text_comes shows halt text (Err answer.NoMemory) (Err stop) held fails is = rw is tt
  text_comes shows halt text (Ok x) (Err stop) held stands is = absurd is
  text_comes shows halt text (Err fault) (Ok j) held fails is = absurd is

  -- a text serves that stands for a value, and one with a fault is refused for it
  pub text_serves : (text : List ℕ) (x : X) → place.text ≡ Ok text → reads text ≡ Ok x → (read_text place rule reads).outcome ≡ Ok (text, x)
  text_serves text x held stands = rw (held, stands) refl

  pub fault_halts : (text : List ℕ) (fault : ReadFault) (h : Halt N R) → place.text ≡ Ok text → Fails fault (reads text) → h ≡ halt_at place rule fault → HaltsAs h (read_text place rule reads)
  fault_halts text (answer.Text f) h held fails is = rw (is, held, fails) refl
  fault_halts text answer.NoMemory h held fails is = rw is tt

-- ---- texts one after another

module _ {N R X Y : Type 0} (reading : Reading N R X) (next : X → Reading N R Y) where
  -- texts that are read stay read
  stays_read : (outcome : Result X (N × R)) (name : N) → Contains reading.read name → Contains (go_on outcome reading.read next).read name
  stays_read (Ok x) name is_read = Contains-append_left reading.read (next x).read name is_read
  stays_read (Err refusal) name is_read = is_read

  -- a stop at the first texts is one of all of them
  pub at_halt : (h : Halt N R) → HaltsAs h reading → HaltsAs h (and_then reading next)
  at_halt (refused name why) is = rw is refl
  at_halt (failed name) is = stays_read reading.outcome name is
  at_halt no_memory is = tt

  -- where the first texts serve, a stop at the others is one of all of them
  pub halts_after : (x : X) (h : Halt N R) → reading.outcome ≡ Ok x → HaltsAs h (next x) → HaltsAs h (and_then reading next)
  halts_after x (refused name why) serves is = rw serves is
  halts_after x (failed name) serves is = rw serves (Contains-append_right reading.read (next x).read name is)
  halts_after x no_memory serves is = tt

  -- and what follows from the others follows from all of them
  pub comes_after : {A S : Type 0} (halt : S → Halt N R) (view : A → Y) (x : X) (result : Result A S) → reading.outcome ≡ Ok x → ComesTo halt view result (next x)
      → ComesTo halt view result (and_then reading next)
  comes_after halt view x (Ok y) serves is = rw serves is
  comes_after halt view x (Err stop) serves is = halts_after x (halt stop) serves is

-- ---- the texts of a design

module _ {N R : Type 0} (source : Source N R) (c : List ℕ × Netlist) where
  -- a stop at the chains, where the netlist serves, or at the patterns or the neighbours, where the texts before serve
  pub halts_at_chains : (h : Halt N R) → HaltsAs h (scan_text source c.1) → HaltsAs h (with_circuit source c)
  halts_at_chains h is = at_halt (scan_text source c.1) (with_chains source c) h is

  module _ (chains : List ℕ × List Chain) (chains_serve : (scan_text source c.1).outcome ≡ Ok chains) where
    pub halts_at_patterns : (h : Halt N R) → HaltsAs h (pattern_text source c.1 chains.1) → HaltsAs h (with_circuit source c)
    halts_at_patterns h is =
        halts_after (scan_text source c.1) (with_chains source c) chains h chains_serve
        (at_halt (pattern_text source c.1 chains.1) (with_patterns source c chains) h is)

    module _ (patterns : List ℕ × List Pattern) (patterns_serve : (pattern_text source c.1 chains.1).outcome ≡ Ok patterns) where
      pub halts_at_neighbours : (h : Halt N R) → HaltsAs h (neighbour_text source c.1) → HaltsAs h (with_circuit source c)
      halts_at_neighbours h is =
          halts_after (scan_text source c.1) (with_chains source c) chains h chains_serve
          (halts_after (pattern_text source c.1 chains.1) (with_patterns source c chains) patterns h patterns_serve
          (at_halt (neighbour_text source c.1) _ h is))

-- ---- the texts of a bundle

module _ (texts : FourTexts) where
  pub test_stands : (d : ReadTexts) → (source_reading (texts_source texts)).outcome ≡ Ok d → texts_reading texts ≡ Ok d.test
  test_stands d e = ap (test_alone (source_reading (texts_source texts)).read) e

  pub is_refused : (f : BundleFault) → HaltsAs (halt_of f) (source_reading (texts_source texts)) → RefusedBy (texts_reading texts) f
  is_refused (fault.Text section f) is = ap (test_alone (source_reading (texts_source texts)).read) is
  is_refused fault.NoMemory is = tt
