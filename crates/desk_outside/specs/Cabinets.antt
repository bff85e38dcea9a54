-- What a cabinet has handed out, and what came home.
use Rattle.std.specs.Prelude.{ℕ, ◌+◌, ◌-◌, List, [], ◌∷◌, ◌++◌}
use Rattle.desk_outside.specs.declared.deed.Deed.{Deed}
use Rattle.desk_outside.specs.declared.cabinet.HandedKeeper.{HandedKeeper}
use Rattle.desk_outside.specs.declared.cabinet.KeeperHome.{KeeperHome}

-- the keepers in the order of handing out; those that are home, in the order of coming home; and how many are out
pub record CabinetTold : Type 0 where
  pub given : List HandedKeeper
  pub home : List KeeperHome
  pub out : ℕ

-- nothing was handed out
abbrev pub fresh_cabinet : CabinetTold
fresh_cabinet = record { given = []; home = []; out = 0 }

-- a keeper with these deeds is handed out for this name
abbrev pub keeper_handed : CabinetTold → List ℕ → List Deed → CabinetTold
keeper_handed told name rows = record {
  given = told.given ++ record { name = name; rows = rows } ∷ [];
  home = told.home;
  out = told.out + 1;
}

-- a keeper came home, with these deeds and this count of faults
abbrev pub keeper_home : CabinetTold → List Deed → ℕ → CabinetTold
keeper_home told rows faults = record {
  given = told.given;
  home = told.home ++ record { rows = rows; faults = faults } ∷ [];
  out = told.out - 1;
}
