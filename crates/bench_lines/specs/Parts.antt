-- The parts of a line: its names and signs.
use Rattle.std.specs.Prelude.{ℕ, ◌≡◌, ◌<◌, ◌==◌, Bool, true, false, List, [], ◌∷◌, length, Option, Some}
use Rattle.scan_model.specs.Lines.{has_refused_byte, without_comment}
use Rattle.scan_model.specs.NetlistLines.{Token, name, open_sign, close_sign, comma, equals, tokens}

-- the tokens of a line without its comment
abbrev pub line_tokens : List ℕ → List Token
line_tokens line = tokens (without_comment line)

-- the token comes first, and the others and the refused bytes are in what follows
pub record IsFirst (line : List ℕ) (t : Token) (after : List ℕ) : Type 0 where
  pub tokens : line_tokens line ≡ t ∷ line_tokens after
  pub refused : has_refused_byte after ≡ has_refused_byte line
  pub shorter : length after < length line

-- there is no token, and the refused bytes are in the comment
pub record IsOver (line comment : List ℕ) : Type 0 where
  pub tokens : line_tokens line ≡ []
  pub refused : has_refused_byte comment ≡ has_refused_byte line

-- these names were found, and the refused bytes are in the comment
pub record IsListed (line : List ℕ) (found : Option (List (List ℕ))) (names : List (List ℕ)) (comment : List ℕ) : Type 0 where
  pub listed : found ≡ Some names
  pub refused : has_refused_byte comment ≡ has_refused_byte line

abbrev pub is_over : List Token → Bool
is_over [] = true
is_over ts = false

abbrev pub begins_name : List Token → Bool
begins_name (name w ∷ ts) = true
begins_name ts = false

-- the first token is the sign of this byte
abbrev pub begins_sign : ℕ → List Token → Bool
begins_sign b (open_sign ∷ ts) = b == 40
begins_sign b (close_sign ∷ ts) = b == 41
begins_sign b (comma ∷ ts) = b == 44
begins_sign b (equals ∷ ts) = b == 61
begins_sign b ts = false
