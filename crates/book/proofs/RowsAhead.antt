-- Answers of a keeper about rows that are ahead.
use Rattle.std.proofs.Common.{◌≡◌, ℕ, ◌+◌, ◌≤◌, List, [], ◌∷◌, ◌++◌, length, Result, Option, Some, IfOk, IsErrOf, sym, subst, arith}
use Rattle.std.specs.Prelude.{slice_get}
use Rattle.desk_outside.specs.declared.deed.Deed.{Deed}
use Rattle.desk_outside.specs.declared.keeper.KeepFault.{KeepFault}
use Rattle.desk_outside.specs.declared.keeper.KeepFault.TheVariants as keep_fault
use Rattle.desk_outside.specs.Faults.{Rose}
use Rattle.book.specs.RowsAhead.{IsAnswer, AreAnswers}

abbrev pub Answer : Type 0
Answer = Result (Option Deed) KeepFault

pub answer_later : (told : Option (List Deed)) (before now later row : ℕ) (answer : Answer) → now ≤ later → IsAnswer told before now row answer → IsAnswer told before later row answer
answer_later told before now later row answer le is = record {
  of_row = is.of_row;
  failed = λ err. let rose = is.failed err in omega (arith, rose, le);
}

-- the count of faults never falls
pub answers_later : (told : Option (List Deed)) (before now later row : ℕ) (answers : List Answer) → now ≤ later → AreAnswers told before now row answers → AreAnswers told before later row answers
answers_later told before now later row [] le are = tt
answers_later told before now later row (answer ∷ answers) le are = (answer_later told before now later row answer le are.0, answers_later told before now later (row + 1) answers le are.1)

-- with the answer about the row behind them
pub answers_more : (told : Option (List Deed)) (before now row at : ℕ) (answers : List Answer) (answer : Answer) → AreAnswers told before now row answers → at ≡ row + length answers → IsAnswer told before now at answer
    → AreAnswers told before now row (answers ++ answer ∷ [])
answers_more told before now row at [] answer are place is =
    let same : at ≡ row = omega (arith, place) in
    (subst (λ (n : ℕ). IsAnswer told before now n answer) same is, tt)
answers_more told before now row at (a ∷ answers) answer are place is =
    let behind : at ≡ (row + 1) + length answers = omega (arith, place) in
    (are.0, answers_more told before now (row + 1) at answers answer are.1 behind is)

-- a count that rose from a later value on
pub rose_before : (before at now : ℕ) → before ≤ at → Rose at now → Rose before now
rose_before before at now le rose = omega (arith, le, rose)

-- one more answer is asked for, whose keeper may have failed
pub one_asked : (told : Option (List Deed)) (before at now row place : ℕ) (answers more : List Answer) (answer : Answer) → AreAnswers told before at row answers → place ≡ row + length answers → before ≤ at → at ≤ now
    → ((rows : List Deed) → told ≡ Some rows → IfOk answer (λ deed. deed ≡ slice_get rows place)) → (IsErrOf answer keep_fault.Failed → Rose at now) → more ≡ answers ++ answer ∷ [] → AreAnswers told before now row more
one_asked told before at now row place answers more answer are place_is le le_now of_row failed is =
    let new : IsAnswer told before now place answer = record { of_row = of_row; failed = λ err. rose_before before at now le (failed err) } in
    subst (AreAnswers told before now row) (sym is) (answers_more told before now row place answers answer (answers_later told before at now row answers le_now are) place_is new)
