-- The order and the repeats of a list of logs don't matter.
use Rattle.std.proofs.Common.{◌≡◌, Bool, true, not, ◌&&◌, List, get_or, sym, ap, ◌∙◌, inl, inr}
use Rattle.std.specs.Prelude.{All, Contains}
use Rattle.std.specs.List.{list_any}
use Rattle.std.proofs.lemmas.Bool.{cases_Bool, both_ways, false_from_ne_true}
use Rattle.std.proofs.lemmas.List.{get_or_default}
use Rattle.std.proofs.lemmas.List.Folds.{Any-from_list_any, list_any_at}
use Rattle.scan_model.specs.declared.logs.LogFacts.{LogFacts}
use Rattle.scan_model.specs.Coverage.{bit_of, lists, covers}
use Rattle.log_join.specs.Joining.{JoinedBits, StandsFor, HaveSameLogs}

any_in_more : {X : Type 0} (p : X → Bool) → (xs ys : List X) → All (Contains ys) xs → list_any p xs ≡ true → list_any p ys ≡ true
any_in_more p xs ys members found =
    let at = Any-from_list_any p xs found in
    let there = members at.0 at.1 at.2 in
    list_any_at p ys there.0 at.1 there.1 (ap p (get_or_default ys there.0 at.1 (get_or xs at.0 at.1) there.1 ∙ there.2 ∙ at.3) ∙ at.4)

-- two lists with the same members pass a test alike
pub list_any-same_members : {X : Type 0} (p : X → Bool) → (xs ys : List X) → All (Contains ys) xs → All (Contains xs) ys → list_any p xs ≡ list_any p ys
list_any-same_members p xs ys to from = elim (cases_Bool (list_any p xs)) [
  | inl found ↦ found ∙ sym (any_in_more p xs ys to found)
  | inr none ↦ none ∙ sym (false_from_ne_true (list_any p ys) (λ found. both_ways (list_any p xs) none (any_in_more p ys xs from found)))
]

-- joined logs stand for every list with the same logs
pub stands_for_same_logs : (logs others : List LogFacts) (joined : JoinedBits) → HaveSameLogs logs others → StandsFor logs joined → StandsFor others joined
stands_for_same_logs logs others joined same stands = record {
  failed = λ w k in_patterns in_points. stands.failed w k in_patterns in_points ∙ list_any-same_members (λ (l : LogFacts). covers l (bit_of w k) && lists l (bit_of w k)) logs others same.0 same.1;
  passed = λ w k in_patterns in_points. stands.passed w k in_patterns in_points ∙ list_any-same_members (λ (l : LogFacts). covers l (bit_of w k) && not (lists l (bit_of w k))) logs others same.0 same.1;
}
