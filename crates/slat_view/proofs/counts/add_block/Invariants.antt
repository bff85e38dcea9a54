use Rattle.std.proofs.Common.{◌≡◌, ℕ, ◌*◌, ◌≤◌, List, length}
use Rattle.scan_model.specs.declared.logs.LogFacts.{LogFacts}
use Rattle.slat_view.specs.Tests.{IsBlockOf, IsSlatUpTo, HaveAllFits}
use Rattle.slat_view.proofs.counts.add_block.Given as goal

abbrev pub invariant-loop-pattern : goal.invariant-loop-pattern
invariant-loop-pattern l = record {
  few : l.slat.failing ≤ l.pattern;
  counted : (logs : List LogFacts) (places : List ℕ) → l.end ≤ length l.parts.patterns → HaveAllFits l.parts logs places → IsBlockOf l.parts logs l.block places l.tried
      → IsSlatUpTo l.parts logs (512 * l.block) l.initial.slat → IsSlatUpTo l.parts logs l.pattern l.slat;
}
