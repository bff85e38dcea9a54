-- The transition faults whose sites lead to a failing bit, as suspects.
use Rattle.std.specs.Prelude.{◌≡◌, ℕ, ◌<◌, ◌≤◌, List, length, All, Bool, Some, filter, slice_get}
use Rattle.std.specs.List.{range_with_len}
use Rattle.scan_model.specs.declared.fault.Fault.{Fault}
use Rattle.scan_model.specs.ScanTest.{ScanTest, HasSite}
use Rattle.fault_effects.specs.declared.suspect.Suspect.{Suspect}
use Rattle.fault_effects.specs.Owners.{IsSuspectOf, places_of}
use Rattle.two_frame.specs.TwoFrame.{transitions}
use Rattle.two_frame.specs.FrameRows.{transition_at}
use Rattle.two_frame.specs.FanInMarks.{reaches}

-- the fault stands at the place, and its net has a mark or not
pub record IsMarkedAs (t : ScanTest) (marks : List Bool) (marked : Bool) (place : ℕ) (f : Fault) : Type 0 where
  pub at : slice_get (transitions t) place ≡ Some f
  pub site : HasSite t f
  pub reached : reaches t marks f ≡ marked

-- the suspects are those of the first n transition faults whose nets have a mark
pub record AreReachingTo (t : ScanTest) (marks : List Bool) (n : ℕ) (suspects : List Suspect) : Type 0 where
  pub each : All (IsSuspectOf t) suspects
  pub few : length suspects ≤ n
  pub below : All (λ s. s.place < length (transitions t)) suspects
  pub places : places_of suspects ≡ filter (λ p. reaches t marks (transition_at t p)) (range_with_len 0 n)
