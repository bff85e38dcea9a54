-- A region: nets of which each is read by one gate alone, up to one that isn't, its root.
use Rattle.std.specs.Prelude.{◌≡◌, ℕ, ◌<◌, List, All, ◌&&◌}
use Rattle.lane_rows.specs.Lanes.{lane}
use Rattle.fault_effects.specs.declared.region.Region.{Region}
use Rattle.fault_effects.specs.declared.rooted.Rooted.{Rooted}
use Rattle.fault_effects.specs.FaultModel.{FaultModel, Table, shown_in}
use Rattle.fault_effects.specs.CachedFlips.{IsCachedFlip}

-- in block b net n shows where the root does, in some lanes
abbrev pub ShowsAs : FaultModel → ℕ → Table → ℕ → List ℕ → Type 0
ShowsAs m b root n lanes = (q j : ℕ) → q < m.places → j < 512 → shown_in m b n q j ≡ (root q j && lane lanes j)

-- in block b net n shows where net g does, in some lanes
abbrev pub ShowsThrough : FaultModel → ℕ → ℕ → ℕ → List ℕ → Type 0
ShowsThrough m b n g lanes = (q j : ℕ) → q < m.places → j < 512 → shown_in m b n q j ≡ (shown_in m b g q j && lane lanes j)

-- the net shows where the root does, in the lanes
pub record IsRooted (m : FaultModel) (b nets : ℕ) (at : Rooted) : Type 0 where
  pub root : at.root < nets
  pub through : ShowsThrough m b at.net at.root at.lanes

-- the flip of a net is at hand, that of the root; each member shows as the root does, and the nets of the path are there
pub record IsRegion {F : Type 0} (holds : F → Table → Type 0) (m : FaultModel) (b nets : ℕ) (region : Region F) : Type 0 where
  pub root : Table
  pub held : holds region.flip.flip root
  pub flip : IsCachedFlip holds m b region.flip
  pub members : All (λ x. ShowsAs m b root x.net x.lanes) region.members.items
  pub path : All (λ n. n < nets) region.path.items

-- the region stands, and net n shows as its root does in some lanes
pub record IsEntered {F : Type 0} (holds : F → Table → Type 0) (m : FaultModel) (b nets : ℕ) (at : Region F) (n : ℕ) (lanes : List ℕ) : Type 0 where
  pub region : IsRegion holds m b nets at
  pub shows : ShowsAs m b region.root n lanes

-- what is kept is a root, as which net n shows
pub record IsShownIn {F : Type 0} (holds : F → Table → Type 0) (m : FaultModel) (b : ℕ) (flip : F) (n : ℕ) (lanes : List ℕ) : Type 0 where
  pub root : Table
  pub held : holds flip root
  pub shows : ShowsAs m b root n lanes
