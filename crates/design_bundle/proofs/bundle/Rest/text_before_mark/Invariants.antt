use Rattle.std.proofs.Common.{◌≡◌, ◌<◌, ℕ, length}
use Rattle.design_bundle.specs.BundleRest.{rest_fault, HasRoom}
use Rattle.design_bundle.proofs.BundleRests.{IsBefore}
use Rattle.design_bundle.proofs.bundle.Rest.text_before_mark.Given as goal

abbrev pub invariant-loop-text : goal.invariant-loop-text
invariant-loop-text l = record {
  before : IsBefore l.self.text.now l.after.text.now;
  fault : (due : ℕ) → rest_fault due l.self ≡ rest_fault due l.after;
  line : 1 < l.after.line;
  room : HasRoom l.after;
}

abbrev pub decreases-loop-text : goal.decreases-loop-text
decreases-loop-text l = length l.after.text.now
