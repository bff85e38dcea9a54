-- Entries of a die, its logs and sign-offs, that come again.
use Rattle.std.specs.Prelude.{ℕ, ◌+◌, ◌==◌, Bool, ◌&&◌, if◌then◌else◌, List, length, map, Option, Some, None}
use Rattle.std.specs.List.{list_any, position_or_len}
use Rattle.std.specs.Str.{bytes_eq}
use Rattle.std.specs.Arc.{arc_value}
use Rattle.std.specs.declared.alloc.Global.{Global}
use Rattle.std.specs.declared.sync.Arc.{Arc}
use Rattle.diagnosis.specs.declared.put.Put.{Put}
use Rattle.diagnosis.specs.declared.put.Put.TheVariants.{Created, Same}
use Rattle.die_entries.specs.declared.sign.Sign.{Sign as SignOff}

-- the values of references
abbrev pub arc_values : {X : Type 0} → List (Arc X Global) → List X
arc_values xs = map (λ x. arc_value x) xs

-- a sign-off of this revision by this signer
abbrev pub is_signed_by : ℕ → List ℕ → SignOff → Bool
is_signed_by revision signer sign = (sign.revision == revision) && bytes_eq sign.signer signer

-- the entry at a place, by its number from 1, or the one that would be created
abbrev pub put_numbered : Option ℕ → ℕ → Put
put_numbered (Some place) count = Same (place + 1)
put_numbered None count = Created (count + 1)

-- the first entry of a list that passes the test, by its number from 1, or the one that would be created
abbrev pub put_where : {X : Type 0} → (X → Bool) → List X → Put
put_where test xs = if list_any test xs then Same (position_or_len test xs + 1) else Created (length xs + 1)
