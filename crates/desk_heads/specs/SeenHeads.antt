-- What is seen of a head is what stands in the bytes.
use Rattle.std.specs.Prelude.{◌≡◌, ℕ, ◌≤◌, List, length, Some, None, Result, Ok, Err, IsAscii}
use Rattle.httparse.specs.Spans.{span_bytes, IsWithin}
use Rattle.desk_heads.specs.declared.head.Head.{Head}
use Rattle.desk_heads.specs.declared.head.HeadFault.{HeadFault}
use Rattle.desk_heads.specs.declared.head.HeadSeen.{HeadSeen}
use Rattle.desk_heads.specs.declared.head.HeadSeen.TheVariants.{Unended, Refused, Whole}
use Rattle.desk_heads.specs.Heads.{HeadFacts, body_limit, IsHeadOf}

-- the head asks for that, with its target in these bytes
pub record IsAsked (bytes : List ℕ) (head : Head) (asked : HeadFacts) : Type 0 where
  pub method : head.method ≡ asked.method
  pub target : span_bytes bytes head.target ≡ asked.target
  pub body : head.body ≡ asked.body
  pub awaits : head.awaits ≡ asked.awaits
  pub closes : head.closes ≡ asked.closes

-- the head lies in these bytes, its target in the head, the target is ASCII, and the body isn't too long
pub record IsHeadIn (bytes : List ℕ) (head : Head) : Type 0 where
  pub whole : head.length ≤ length bytes
  pub target : IsWithin head.length head.target
  pub ascii : IsAscii (span_bytes bytes head.target)
  pub body : head.body ≤ body_limit

-- what is seen at the front of the bytes stands there
abbrev pub Sees : List ℕ → HeadSeen → Type 0
Sees bytes Unended = IsHeadOf bytes None
Sees bytes (Refused f) = IsHeadOf bytes (Some (Err f))
Sees bytes (Whole head) = IsHeadIn bytes head × ((asked : HeadFacts) × IsHeadOf bytes (Some (Ok (head.length, asked))) × IsAsked bytes head asked)

-- the text of a head is judged so
abbrev pub Judges : List ℕ → Result HeadFacts HeadFault → Result Head HeadFault → Type 0
Judges text (Err f) (Err g) = g ≡ f
Judges text (Ok asked) (Ok head) = (head.length ≡ length text) × IsHeadIn text head × IsAsked text head asked
Judges text _ _ = ⊥
