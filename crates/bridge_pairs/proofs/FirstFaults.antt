-- A list's fault is the first by the rules that its records break.
use Rattle.std.proofs.Common.{ℕ, List, length, Result, refl}
use Rattle.std.specs.Prelude.{IfOk}
use Rattle.scan_model.specs.declared.parts.Pair.{Pair}
use Rattle.scan_model.specs.TextFaults.{HasNoFault, IsFirstFault}
use Rattle.scan_model.proofs.FirstFaults.{IsLowest, lowest_is, has_none, is_first}
use Rattle.text_parts.specs.declared.fault.ReadFault.{ReadFault}
use Rattle.text_parts.specs.ReadResults.{Gives, IfFault}
use Rattle.text_parts.proofs.FirstFaults.{judged_first, judged_none}
use Rattle.bridge_pairs.specs.PairText.{pair_table, pair_rule, pairs_break, pairs_fault, pairs_in, naming}

module _ {X : Type 0} (view : X → List Pair) (names : List (List ℕ)) (rows : List (List (List ℕ))) where
  pair_lowest : (i : ℕ) → IsLowest (pairs_break names rows i) (pair_rule names rows i)
  pair_lowest i = lowest_is (pair_table names rows i) refl

  pub pairs_first : (result : Result X ReadFault) → Gives view result (naming names rows) → IfFault result (IsFirstFault (pairs_break names rows) (length rows))
  pairs_first result gives =
      judged_first view (pairs_in names rows) (pairs_fault names rows) (IsFirstFault (pairs_break names rows) (length rows))
      (is_first (pair_rule names rows) (pairs_break names rows) pair_lowest (length rows))
      result gives

  pub pairs_none : (result : Result X ReadFault) → Gives view result (naming names rows) → IfOk result (λ x. HasNoFault (pairs_break names rows) (length rows))
  pairs_none result gives =
      judged_none view (pairs_in names rows) (pairs_fault names rows) (HasNoFault (pairs_break names rows) (length rows))
      (has_none (pair_rule names rows) (pairs_break names rows) pair_lowest (length rows))
      result gives
