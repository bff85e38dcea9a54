-- What faults do in a test that a tester sees through a compactor, as flips of nets tell it. Each compact point is a place.
use Rattle.std.specs.Prelude.{length, nat_lt, ◌==◌}
use Rattle.std.specs.List.{list_any}
use Rattle.scan_model.specs.ScanTest.{ScanTest, point_at}
use Rattle.scan_model.specs.Coverage.{bit_of}
use Rattle.scan_model.specs.Masks.{mask}
use Rattle.packed_sim.specs.PackedParts.{captures}
use Rattle.fault_effects.specs.FaultModel.{FaultModel, pin_flips}
use Rattle.compact_points.specs.Channels.{Compactor}
use Rattle.chain_compactor.specs.CompactMatches.{predicts_compact_fail}
use Rattle.chain_compactor.specs.Flips.{flip_shows_through, straight_through}
use Rattle.chain_compactor.specs.ObservationPoints.{seeing}

abbrev pub compact_model : ScanTest → Compactor → FaultModel
compact_model t c = record {
  places = length c.points;
  exists = λ w. nat_lt w (length t.patterns);
  captures = captures t;
  shows = flip_shows_through t c;
  pin_flips = pin_flips t;
  flips = mask t;
  straight = straight_through t c;
  fails = λ f w q. predicts_compact_fail t c f (bit_of w q);
  sees = λ q k. list_any (λ seer. q == seer) (seeing t c (point_at t k));
}
