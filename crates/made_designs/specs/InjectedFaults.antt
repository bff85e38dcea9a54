-- What the parts of `demo` come to: the fault that is put in, as the program has it, and the texts.
use Rattle.std.specs.Prelude.{◌≡◌, ℕ, ◌<◌, List, [], ◌∷◌, length, decimal, codes, Option, Some, None}
use Rattle.scan_model.specs.declared.fault.Fault.{Fault}
use Rattle.scan_model.specs.ScanTest.{ScanTest}
use Rattle.scan_model.specs.Universe.{universe}
use Rattle.scan_model.specs.ReportText.{line, concatenated}
use Rattle.diag_report.specs.PredictedLog.{fault_of, predicted_log, predicted_facts}
use Rattle.diag_report.specs.Summary.{count_line}
use Rattle.design_bundle.specs.FourTexts.{FourTexts, four}
use Rattle.scan_model.specs.declared.fault.Profile.TheVariants.{One}
use Rattle.diagnosis.specs.Designs.{ReadLogFacts, StandsOver}
use Rattle.diagnosis.specs.Cases.{CaseFacts}
use Rattle.made_designs.specs.declared.design.MadeDesign.{MadeDesign}
use Rattle.made_designs.specs.declared.demo.injected.InjectedFault.{InjectedFault}
use Rattle.made_laws.specs.Draws.{state_after}
use Rattle.made_designs.specs.MadeTexts.{text_draws}
use Rattle.made_designs.specs.Demo.{demo_name, injected_from, drawn_place, demo_lines}

-- the die of the design that is made, with these logs
abbrev pub demo_case : ScanTest → List ReadLogFacts → CaseFacts
demo_case t logs = record { design = demo_name; die = demo_name; test = t; logs = logs }

-- that die before it has logs
pub record IsDemoCase (k : CaseFacts) : Type 0 where
  pub is : k ≡ demo_case k.test []

-- the log that a fault predicts, with what it stands for
abbrev pub own_log : ScanTest → Fault → ReadLogFacts
own_log t f = record {
  design = demo_name;
  die = demo_name;
  text = predicted_log t demo_name demo_name f;
  facts = predicted_facts t f;
}

-- that of the fault at a place
pub record IsOwnLog (t : ScanTest) (place : ℕ) (log : ReadLogFacts) : Type 0 where
  pub is : log ≡ own_log t (fault_of t place)
  pub stands : StandsOver t log

-- a place in the list of all faults, with the log of its fault
pub record IsFound (t : ScanTest) (injected : InjectedFault) : Type 0 where
  pub within : injected.place < length (universe t)
  pub own : IsOwnLog t injected.place injected.log

-- the place of what was found
abbrev pub place_of : Option InjectedFault → Option ℕ
place_of None = None
place_of (Some injected) = Some injected.place

-- the first of the tried places whose fault predicts a fail, or none of them
pub record IsFirst (t : ScanTest) (first : ℕ) (place : Option ℕ) : Type 0 where
  pub is : injected_from first t ≡ place

-- the state after the draws of the texts
pub record IsAfterTexts (seed blocks state : ℕ) : Type 0 where
  pub is : state ≡ state_after seed (text_draws blocks)

-- the first from the place that is drawn then
pub record IsDrawn (seed blocks : ℕ) (t : ScanTest) (place : Option ℕ) : Type 0 where
  pub is : injected_from (drawn_place seed blocks t) t ≡ place

-- the text over a scan test
pub record IsText (seed blocks : ℕ) (t : ScanTest) (text : List ℕ) : Type 0 where
  pub is : text ≡ concatenated (demo_lines seed blocks t)

-- the texts that were made
abbrev pub texts_of : MadeDesign → FourTexts
texts_of made = four One made.netlist made.scan made.patterns made.neighbours

-- the lines before those of the fault
abbrev pub head_lines : ℕ → ℕ → ScanTest → List (List ℕ)
head_lines seed blocks t =
    line (codes "demo" ∷ decimal seed ∷ decimal blocks ∷ [])
    ∷ count_line (codes "nets") (length t.netlist.nets)
    ∷ count_line (codes "faults") (length (universe t))
    ∷ []
