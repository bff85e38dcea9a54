-- What is known of rows before they are judged: what a keeper answered about them, and designs of the reports that they may sign.
use Rattle.std.specs.Prelude.{◌≡◌, ℕ, ◌+◌, List, [], ◌∷◌, Option, Some, Result, IfOk, IsErrOf, ⊤, slice_get}
use Rattle.desk_outside.specs.declared.deed.Deed.{Deed}
use Rattle.desk_outside.specs.declared.keeper.KeepFault.{KeepFault}
use Rattle.desk_outside.specs.declared.keeper.KeepFault.TheVariants as keep_fault
use Rattle.desk_outside.specs.Faults.{Rose}
use Rattle.diagnosis.specs.Designs.{DesignFacts, IsDesign}
use Rattle.book.specs.Deeds.{design_text}

-- a keeper, which told these rows or none, answered so about a row; if it failed, its count of faults rose between these
pub record IsAnswer (told : Option (List Deed)) (before now row : ℕ) (answer : Result (Option Deed) KeepFault) : Type 0 where
  pub of_row : (rows : List Deed) → told ≡ Some rows → IfOk answer (λ deed. deed ≡ slice_get rows row)
  pub failed : IsErrOf answer keep_fault.Failed → Rose before now

-- and so about the rows from this one on
abbrev pub AreAnswers : Option (List Deed) → ℕ → ℕ → ℕ → List (Result (Option Deed) KeepFault) → Type 0
AreAnswers told before now row [] = ⊤
AreAnswers told before now row (answer ∷ answers) = IsAnswer told before now row answer × AreAnswers told before now (row + 1) answers

-- the design is the one of its name in these deeds
pub record IsDesignIn (deeds : List Deed) (d : DesignFacts) : Type 0 where
  pub design : IsDesign d
  pub text : design_text deeds d.name ≡ Some d.text
