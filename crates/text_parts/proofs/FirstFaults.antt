-- What a reader's answer says of the first fault of a text.
use Rattle.std.proofs.Common.{◌≡◌, ℕ, Option, Some, None, Result, Ok, Err, refl}
use Rattle.std.specs.Prelude.{IfOk}
use Rattle.scan_model.specs.TextFaults.{refused_or}
use Rattle.text_parts.specs.declared.fault.ReadFault.{ReadFault}
use Rattle.text_parts.specs.declared.fault.ReadFault.TheVariants.{Text, NoMemory}
use Rattle.text_parts.specs.ReadResults.{Gives, IfFault}

module _ {X Y : Type 0} (view : X → Y) (value : Y) where
  refused_is : (o : Option (ℕ × ℕ)) (f : ℕ × ℕ) → refused_or o value ≡ Err f → o ≡ Some f
  refused_is None f e = absurd cc
  refused_is (Some g) f e = cc

  accepted_is : (o : Option (ℕ × ℕ)) (y : Y) → refused_or o value ≡ Ok y → o ≡ None
  accepted_is None y e = refl
  accepted_is (Some g) y e = absurd cc

  -- what holds of the fault that is found holds of the fault that is answered
  pub judged_first : (found : Option (ℕ × ℕ)) (Holds : ℕ × ℕ → Type 0) → ((line r : ℕ) → found ≡ Some (line, r) → Holds (line, r))
      → (result : Result X ReadFault) → Gives view result (refused_or found value) → IfFault result Holds
  judged_first found Holds holds (Ok x) gives = tt
  judged_first found Holds holds (Err (Text f)) gives = holds f.line f.rule (refused_is found (f.line, f.rule) gives)
  judged_first found Holds holds (Err NoMemory) gives = tt

  -- what holds where none is found holds where a value is answered
  pub judged_none : (found : Option (ℕ × ℕ)) (Clean : Type 0) → (found ≡ None → Clean)
      → (result : Result X ReadFault) → Gives view result (refused_or found value) → IfOk result (λ x. Clean)
  judged_none found Clean clean (Ok x) gives = clean (accepted_is found (view x) gives)
  judged_none found Clean clean (Err e) gives = tt
