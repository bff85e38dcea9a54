-- Where named things stand in a list.
use Rattle.std.specs.Prelude.{◌≡◌, ◌<◌, ℕ, List, length, Option, Some, Vec, vec_len, vec_capacity, slice_get}
use Rattle.std.specs.Ordering.{nat_cmp}
use Rattle.std.specs.Cmp.Lexicographic.{slice_cmp}
use Rattle.std.specs.BTreeMap.{get_by, BTreeMap}
use Rattle.std.specs.declared.alloc.Global.{Global}
use Rattle.std.specs.declared.sync.Arc.{Arc}
use Rattle.diagnosis.specs.Designs.{DesignFacts}
use Rattle.die_entries.specs.Entries.{arc_values}

-- the place that is noted for a name
abbrev pub place_of : BTreeMap (Vec ℕ Global) ℕ → List ℕ → Option ℕ
place_of places name = get_by (λ k. slice_cmp nat_cmp name k.items) places

-- each design stands at the place that is noted for its name
abbrev pub AreNoted : BTreeMap (Vec ℕ Global) ℕ → List DesignFacts → Type 0
AreNoted places designs = (i : ℕ) (d : DesignFacts) → slice_get designs i ≡ Some d → place_of places d.name ≡ Some i

-- designs in the order of their deeds, and the one whose place at the end is noted and has room
pub record DesignsFacts : Type 0 where
  pub list : List DesignFacts
  pub next : Option DesignFacts

-- one more design may stand at the end
pub record IsNext (places : BTreeMap (Vec ℕ Global) ℕ) (list : Vec (Arc DesignFacts Global) Global) (d : DesignFacts) : Type 0 where
  pub noted : place_of places d.name ≡ Some (length list.items)
  pub room : vec_len list < vec_capacity list

pub record AreIndexed (places : BTreeMap (Vec ℕ Global) ℕ) (list : Vec (Arc DesignFacts Global) Global) (after : Option DesignFacts) : Type 0 where
  pub noted : AreNoted places (arc_values list.items)
  pub next : (d : DesignFacts) → after ≡ Some d → IsNext places list d
