-- The items of a byte string: requests and refused heads, one after another from the front.
use Rattle.std.specs.Prelude.{◌≡◌, ℕ, ◌+◌, ◌==◌, ◌||◌, Bool, true, false, nat_lt, if◌then◌else◌, List, [], ◌∷◌, length, take, drop, Option, Some, None, Result, Ok, Err}
use Rattle.desk_heads.specs.declared.head.HeadFault.{HeadFault}
use Rattle.desk_heads.specs.Heads.{HeadFacts, IsHeadOf}

pub data Item : Type 0 where
  refused : HeadFault → Item
  request : HeadFacts → (body : List ℕ) → Item

-- what stands at the front of bytes: nothing; a message that isn't whole, with an interim reply due where its head is and awaits one;
-- or an item, and the bytes after it
pub data Front : Type 0 where
  nothing : Front
  part : (awaits : Bool) → Front
  item : Item → (rest : List ℕ) → Front

-- a head with its body
abbrev pub with_body : List ℕ → Option (Result (ℕ × HeadFacts) HeadFault) → Front
with_body bytes None = if length bytes == 0 then nothing else part false
with_body bytes (Some (Err f)) = item (refused f) []
with_body bytes (Some (Ok (n, a))) =
    if nat_lt (length bytes) (n + a.body) then part a.awaits
    else item (request a (take a.body (drop n bytes))) (drop (n + a.body) bytes)

abbrev pub IsFrontOf : List ℕ → Front → Type 0
IsFrontOf bytes front = (head : Option (Result (ℕ × HeadFacts) HeadFault)) × IsHeadOf bytes head × (front ≡ with_body bytes head)

-- how a byte string ends: behind an item that closes, between messages, or within one
pub data Ending : Type 0 where
  closed : Ending
  between : Ending
  within : (awaits : Bool) → Ending

-- a session answers at most so many items
abbrev pub item_limit : ℕ
item_limit = 1000

-- the item behind so many others is the last that is answered
abbrev pub closes : ℕ → Item → Bool
closes before (refused f) = true
closes before (request a body) = a.closes || (before + 1 == item_limit)

-- behind an item that closes there is no other; behind any other the rest follows
abbrev pub GoesOn : Bool → List Item → Ending → Type 0 → Type 0
GoesOn true items ending Rest = (items ≡ []) × (ending ≡ closed)
GoesOn false items ending Rest = Rest

-- the items of the bytes behind so many others, and how the bytes end
unfoldable pub Items : ℕ → List ℕ → List Item → Ending → Type 0
Items before bytes [] closed = ⊥
Items before bytes [] between = IsFrontOf bytes nothing
Items before bytes [] (within awaits) = IsFrontOf bytes (part awaits)
Items before bytes (first ∷ items) ending =
    (rest : List ℕ) × IsFrontOf bytes (item first rest) × GoesOn (closes before first) items ending (Items (before + 1) rest items ending)
