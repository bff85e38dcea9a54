-- Reading a message from a connection: what waits in the inbox, and what is left to read.
use Rattle.std.specs.Prelude.{◌≡◌, ℕ, ◌<◌, ◌≤◌, List, ◌++◌, length, Option, Some, Result}
use Rattle.std.specs.Io.KnownBytes.{prepend_known, IsAtEnd}
use Rattle.desk_heads.specs.declared.head.HeadFault.{HeadFault}
use Rattle.desk_heads.specs.declared.head.HeadSeen.TheVariants as seen
use Rattle.desk_heads.specs.declared.incoming.BodyRead.{BodyRead}
use Rattle.desk_heads.specs.declared.incoming.BodyRead.TheVariants as body
use Rattle.desk_heads.specs.declared.incoming.HeadRead.{HeadRead}
use Rattle.desk_heads.specs.declared.incoming.HeadRead.TheVariants as head
use Rattle.desk_heads.specs.Heads.{HeadFacts, IsHeadOf}
use Rattle.desk_heads.specs.SeenHeads.{Sees}

-- bytes were added behind those that waited
abbrev pub Grows : List ℕ → List ℕ → Type 0
Grows old new = (more : List ℕ) × (new ≡ old ++ more)

-- some bytes came and were lost, between those that wait and those that are left
abbrev pub Loses : List ℕ → Option (List ℕ) → List ℕ → Option (List ℕ) → Type 0
Loses old left new rest = (lost : List ℕ) × (0 < length lost) × (prepend_known old left ≡ prepend_known (new ++ lost) rest)

-- what waits is no whole head yet, and may become one
abbrev pub IsUnended : List ℕ → Type 0
IsUnended bytes = Sees bytes seen.Unended

-- a whole head stands at the front, or one that is refused
abbrev pub HasHead : List ℕ → Type 0
HasHead bytes = (found : Result (ℕ × HeadFacts) HeadFault) × IsHeadOf bytes (Some found)

-- the last bytes came in one piece, with room for so many, behind bytes that were no whole head yet
pub record EndsInPiece (room : ℕ) (old new : List ℕ) : Type 0 where
  pub before : List ℕ
  pub piece : List ℕ
  pub grown : Grows old before
  pub unended : IsUnended before
  pub cut : new ≡ before ++ piece
  pub fits : length piece ≤ room

-- what reading up to the end of a head answers of the bytes that wait then, and of those that are left: the end comes where
-- nothing is left
abbrev pub HeadReads : List ℕ → Option (List ℕ) → HeadRead → Type 0
HeadReads bytes left (head.Refused fault) = Sees bytes (seen.Refused fault)
HeadReads bytes left (head.Whole h) = Sees bytes (seen.Whole h)
HeadReads bytes left head.End = IsUnended bytes × IsAtEnd left
HeadReads bytes left head.LinkFault = IsUnended bytes
HeadReads bytes left head.NoMemory = IsUnended bytes

-- what reading up to so many bytes answers
abbrev pub BodyReads : ℕ → List ℕ → Option (List ℕ) → BodyRead → Type 0
BodyReads count bytes left body.Whole = count ≤ length bytes
BodyReads count bytes left body.End = (length bytes < count) × IsAtEnd left
BodyReads count bytes left body.LinkFault = length bytes < count
BodyReads count bytes left body.NoMemory = length bytes < count
