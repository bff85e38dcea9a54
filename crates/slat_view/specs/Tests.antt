-- A die whose suspects are tried block by block.
use Rattle.std.specs.Prelude.{◌≡◌, ℕ, ◌+◌, ◌<◌, List, All, Contains, map, filter, length, count_by}
use Rattle.std.specs.List.{range_with_len}
use Rattle.scan_model.specs.declared.logs.LogFacts.{LogFacts}
use Rattle.scan_model.specs.ScanTest.{ScanTest, points_of}
use Rattle.scan_model.specs.Response.{expected_rows}
use Rattle.lane_rows.specs.Lanes.{lane}
use Rattle.lane_rows.specs.GoodRows.{pattern_of}
use Rattle.log_join.specs.Joining.{IsJoinedOf}
use Rattle.packed_sim.specs.PackedParts.{BelongsTo}
use Rattle.fault_effects.specs.Owners.{IsSuspectOf, AreOwners, owner, suspect_at}
use Rattle.fault_effects.specs.Readers.{AreReads}
use Rattle.diag_report.specs.PredictedLog.{fault_of}
use Rattle.slat_view.specs.declared.die_suspects.DieSuspects.{DieSuspects}
use Rattle.slat_view.specs.declared.slat.Slat.{Slat}
use Rattle.slat_view.specs.declared.die_trials.DieTrials.{DieTrials}
use Rattle.slat_view.specs.declared.die_trials.BlockFits.{BlockFits}
use Rattle.slat_view.specs.Slat.{is_failing_pattern, is_explained, fits, fitting_places, slat_count}
use Rattle.pattern_fits.specs.FitPlaces.{places_in}

-- rows and joined logs are of the test, the suspects are faults of it, each in the group of its owner, and each net that owns one is listed
pub record AreDieSuspects (t : ScanTest) (x : DieSuspects) : Type 0 where
  pub good : BelongsTo t x.good.now
  pub joined : IsJoinedOf (length t.patterns) (length (points_of t)) x.joined
  pub suspects : All (IsSuspectOf t) x.suspects
  pub groups : length x.owners ≡ length t.netlist.nets + 2
  pub owners : AreOwners t x.suspects x.owners
  pub reads : AreReads t x.reads.items
  pub nets : All (λ n. n < length t.netlist.nets) x.nets.items
  pub listed : (i : ℕ) → i < length x.suspects → owner t (suspect_at x.suspects i).fault < length t.netlist.nets → Contains x.nets.items (owner t (suspect_at x.suspects i).fault)

-- the expected values are those of the parts, and the die is prepared for them
pub record AreTrials (x : DieTrials) : Type 0 where
  pub expected : x.expected.now ≡ expected_rows x.parts.now
  pub die : AreDieSuspects x.parts.now x.die.now

-- of some places, those whose faults fit a pattern
abbrev pub fitting_among : ScanTest → List LogFacts → ℕ → List ℕ → List ℕ
fitting_among t logs w places = filter (λ p. fits t logs w (fault_of t p)) places

-- each fault that fits a pattern is at one of the places
abbrev pub HaveAllFits : ScanTest → List LogFacts → List ℕ → Type 0
HaveAllFits t logs places = (w : ℕ) → w < length t.patterns → fitting_among t logs w places ≡ fitting_places t logs w

-- the failing patterns of a block, and what of the places fits each of them
pub record IsBlockOf (t : ScanTest) (logs : List LogFacts) (b : ℕ) (places : List ℕ) (x : BlockFits) : Type 0 where
  pub failing : (j : ℕ) → j < 512 → pattern_of b j < length t.patterns → lane x.failing j ≡ is_failing_pattern t logs (pattern_of b j)
  pub fits : (j : ℕ) → j < 512 → pattern_of b j < length t.patterns → places_in x.fits j ≡ fitting_among t logs (pattern_of b j) places

-- the counts of the first patterns
pub record IsSlatUpTo (t : ScanTest) (logs : List LogFacts) (n : ℕ) (x : Slat) : Type 0 where
  pub failing : x.failing ≡ count_by (is_failing_pattern t logs) (range_with_len 0 n)
  pub rows : x.rows ≡ map (slat_count t logs) (filter (is_explained t logs) (range_with_len 0 n))
