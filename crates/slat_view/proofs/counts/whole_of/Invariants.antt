use Rattle.std.proofs.Common.{◌≡◌, ℕ, ◌*◌, ◌≤◌, List, length}
use Rattle.std.specs.Prelude.{min, IfSome}
use Rattle.scan_model.specs.declared.logs.LogFacts.{LogFacts}
use Rattle.log_join.specs.Joining.{StandsFor}
use Rattle.fault_effects.specs.Owners.{places_of}
use Rattle.slat_view.specs.Tests.{IsSlatUpTo, HaveAllFits}
use Rattle.slat_view.specs.WholeCounts.{HavePlacesUpTo, fits_in}
use Rattle.slat_view.proofs.counts.whole_of.Given as goal

abbrev pub invariant-loop-block : goal.invariant-loop-block
invariant-loop-block g l = record {
  few : l.slat.failing ≤ min (512 * l.block) (length l.trials.parts.now.patterns);
  counted : (logs : List LogFacts) → StandsFor logs l.trials.die.now.joined → HaveAllFits l.trials.parts.now logs (places_of l.trials.die.now.suspects)
      → IsSlatUpTo l.trials.parts.now logs (min (512 * l.block) (length l.trials.parts.now.patterns)) l.slat;
  many : IfSome l.blocks (λ blocks. length blocks ≡ l.block);
  kept : IfSome l.blocks (λ blocks. (fits_in blocks ≤ l.count) × (l.count ≤ 262144));
  placed : (logs : List LogFacts) → StandsFor logs l.trials.die.now.joined → HaveAllFits l.trials.parts.now logs (places_of l.trials.die.now.suspects)
      → IfSome l.blocks (HavePlacesUpTo l.trials.parts.now logs (min (512 * l.block) (length l.trials.parts.now.patterns)));
}
