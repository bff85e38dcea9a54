-- The body of a sign-off.
use Rattle.std.specs.Prelude.{◌≡◌, ℕ, suc, true, List, codes, Some, Ok, IsUtf8}
use Rattle.hex.specs.Hex.{decode_sized}
use Rattle.serde_json.specs.Data.{Data, number, unsigned, string, object, Members, no_members, member}
use Rattle.serde_json.specs.Find.{get_member}
use Rattle.serde_json.specs.Read.{read}
use Rattle.scan_model.specs.Words.{is_tag}
use Rattle.die_entries.specs.declared.sign.Sign.{Sign}

abbrev pub members_len : Members → ℕ
members_len no_members = 0
members_len (member key value rest) = suc (members_len rest)

-- an object of just these three members, the first a whole number from 0 to 2 ^ 64 - 1 in digits alone;
-- of a key that comes twice serde_json keeps the last value
pub record HasParts (value : Data) (revision : ℕ) (signer digest : List ℕ) : Type 0 where
  pub members : Members
  pub whole : value ≡ object members
  pub three : members_len members ≡ 3
  pub revision_is : get_member (codes "revision") members ≡ Some (number (unsigned revision))
  pub signer_is : get_member (codes "signer") members ≡ Some (string signer)
  pub digest_is : get_member (codes "digest") members ≡ Some (string digest)

-- those of a sign-off: the signer is a tag, and the digest is written in 64 hexadecimal digits of either case
pub record IsSign (value : Data) (body : Sign) : Type 0 where
  pub digits : List ℕ
  pub parts : HasParts value body.revision body.signer digits
  pub tag : is_tag body.signer ≡ true
  pub digest : decode_sized digits 32 ≡ Ok body.digest

-- the text is UTF-8, and what serde_json reads of it is such an object
pub record IsSignBody (text : List ℕ) (body : Sign) : Type 0 where
  pub value : Data
  pub utf8 : IsUtf8 text
  pub read_is : read text ≡ Some value
  pub sign : IsSign value body
