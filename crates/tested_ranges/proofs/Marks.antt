-- Marks of tested patterns.
use Rattle.std.proofs.Common.{◌≡◌, ℕ, ◌+◌, ◌*◌, ◌/◌, ◌%◌, ◌≤◌, false, ltb, List, [], length, get_or, replicate, refl, sym, ◌∙◌, inl, inr, arith}
use Rattle.std.proofs.lemmas.Bool.{cases_lt, le-ltb}
use Rattle.std.proofs.lemmas.List.{get_or_past, get_or-replicate, length-replicate}
use Rattle.std.proofs.lemmas.Nat.Bits.{bit_at-zero}
use Rattle.scan_model.specs.declared.logs.Range.{Range}
use Rattle.scan_model.specs.BitTable.{table_bit}
use Rattle.scan_model.specs.Coverage.{some_holds}
use Rattle.tested_ranges.specs.TestedMarks.{AreMarked}

unset : (marks : List ℕ) (w : ℕ) → get_or marks (w / 64 * 1 + 0) 0 ≡ 0 → table_bit marks 1 w 0 ≡ false
unset marks w is = rw (is, bit_at-zero (w % 64)) refl

pub none_marked : AreMarked (replicate 64 0) []
none_marked w = unset (replicate 64 0) w (elim (cases_lt (w / 64 * 1 + 0) 64) [
  | inl lt ↦ get_or-replicate 64 (w / 64 * 1 + 0) 0 0 lt
  | inr past ↦ get_or_past (replicate 64 0) (w / 64 * 1 + 0) 0 (omega (arith, length-replicate {A = ℕ} 64 0, past))
])

-- no range holds a pattern past the marks
pub past_marks : (marks : List ℕ) (ranges : List Range) (p : ℕ) → length marks ≤ 64 → AreMarked marks ranges → 4096 ≤ p → ltb p 4096 ≡ some_holds ranges p
past_marks marks ranges p few marked past = le-ltb p 4096 past ∙ sym (unset marks p (get_or_past marks (p / 64 * 1 + 0) 0 (omega (arith, few, past)))) ∙ marked p
