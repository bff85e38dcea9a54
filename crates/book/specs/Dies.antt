-- Dies as contracts see them.
use Rattle.std.specs.Prelude.{◌≡◌, ℕ, ◌-◌, true, Bool, ◌&&◌, List, [], ◌∷◌, ◌++◌, Option, Some, None, Vec, slice_get}
use Rattle.std.specs.List.{find, position}
use Rattle.std.specs.Str.{bytes_eq}
use Rattle.std.specs.BTreeMap.{BTreeMap}
use Rattle.std.specs.declared.alloc.Global.{Global}
use Rattle.scan_model.specs.Words.{is_tag}
use Rattle.die_entries.specs.declared.sign.Sign.{Sign as SignOff}
use Rattle.diagnosis.specs.Designs.{ReadLogFacts}
use Rattle.book.specs.Places.{place_of}

-- a die of a design, with its logs and sign-offs in the order of their deeds, and for how many more there is room
pub record DieFacts : Type 0 where
  pub design : List ℕ
  pub die : List ℕ
  pub logs : List ReadLogFacts
  pub signs : List SignOff
  pub log_room : ℕ
  pub sign_room : ℕ

-- a die without logs
abbrev pub bare_die : List ℕ → List ℕ → DieFacts
bare_die design die = record { design = design; die = die; logs = []; signs = []; log_room = 0; sign_room = 0 }

abbrev pub is_die : List ℕ → List ℕ → DieFacts → Bool
is_die design die k = bytes_eq k.design design && bytes_eq k.die die

-- the die with one more log, for which it had room
abbrev pub with_log : DieFacts → ReadLogFacts → DieFacts
with_log k log = record { design = k.design; die = k.die; logs = k.logs ++ log ∷ []; signs = k.signs; log_room = k.log_room - 1; sign_room = k.sign_room }

-- the die with one more sign-off, for which it had room
abbrev pub with_sign : DieFacts → SignOff → DieFacts
with_sign k sign = record { design = k.design; die = k.die; logs = k.logs; signs = k.signs ++ sign ∷ []; log_room = k.log_room; sign_room = k.sign_room - 1 }

-- the same die, but for its room
pub record IsSameDie (k l : DieFacts) : Type 0 where
  pub design : l.design ≡ k.design
  pub die : l.die ≡ k.die
  pub logs : l.logs ≡ k.logs
  pub signs : l.signs ≡ k.signs

abbrev pub logs_in : Option DieFacts → List ReadLogFacts
logs_in None = []
logs_in (Some k) = k.logs

abbrev pub signs_in : Option DieFacts → List SignOff
signs_in None = []
signs_in (Some k) = k.signs

-- the logs and the sign-offs that are kept of a die
abbrev pub kept_logs : List DieFacts → List ℕ → List ℕ → List ReadLogFacts
kept_logs dies design die = logs_in (find (is_die design die) dies)

abbrev pub kept_signs : List DieFacts → List ℕ → List ℕ → List SignOff
kept_signs dies design die = signs_in (find (is_die design die) dies)

-- the same dies at the same places, but for their room
pub record AreSameDies (old new : List DieFacts) : Type 0 where
  pub places : (design die : List ℕ) → position (is_die design die) new ≡ position (is_die design die) old
  pub logs : (design die : List ℕ) → kept_logs new design die ≡ kept_logs old design die
  pub signs : (design die : List ℕ) → kept_signs new design die ≡ kept_signs old design die

-- the names of a die with `/` (47) between them, which isn't in the name of a design
abbrev pub die_key : List ℕ → List ℕ → List ℕ
die_key design die = design ++ 47 ∷ die

-- the die stands at the place that is noted for its names
pub record IsNotedDie (places : BTreeMap (Vec ℕ Global) ℕ) (i : ℕ) (k : DieFacts) : Type 0 where
  pub noted : place_of places (die_key k.design k.die) ≡ Some i
  pub tag : is_tag k.design ≡ true

abbrev pub AreNotedDies : BTreeMap (Vec ℕ Global) ℕ → List DieFacts → Type 0
AreNotedDies places dies = (i : ℕ) (k : DieFacts) → slice_get dies i ≡ Some k → IsNotedDie places i k
