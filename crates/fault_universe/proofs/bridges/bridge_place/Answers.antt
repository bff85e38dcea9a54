use Rattle.std.proofs.Common.{◌≡◌, ℕ, Option, Some, None}
use Rattle.std.specs.Prelude.{slice_get, MatchOption}
use Rattle.scan_model.specs.declared.fault.BridgeKind.{BridgeKind}
use Rattle.scan_model.specs.declared.fault.Fault.TheVariants.{Bridge}
use Rattle.scan_model.specs.ScanTest.{ScanTest}
use Rattle.scan_model.specs.Universe.{bridges}
use Rattle.fault_universe.specs.FaultPlaces.{FindsPlace}
use Rattle.fault_universe.specs.KeptPairs.{IsNoneOfPair}
use Rattle.fault_universe.proofs.BridgePlaces.{no_bridge}
use Rattle.fault_universe.proofs.bridges.bridge_place.Goals as goal

-- where no pair of the nets in this order has it, one in the other order has it or none
finds : (t : ScanTest) (a b : ℕ) (kind : BridgeKind) (o : Option ℕ) → IsNoneOfPair t a b (Bridge a b kind) → MatchOption o (IsNoneOfPair t b a (Bridge a b kind)) (λ place. slice_get (bridges t) place ≡ Some (Bridge a b kind))
    → FindsPlace (bridges t) (Bridge a b kind) o
finds t a b kind None straight turned = no_bridge t a b kind straight turned
finds t a b kind (Some k) straight found = found

pub returns-clause-place : goal.returns-clause-place
returns-clause-place c = finds c.args.parts.now c.args.a c.args.b c.args.kind c.place_in_pair-2.result c.in_default.ensures.place c.place_in_pair-2.ensures.place
