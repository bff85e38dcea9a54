-- What each body of a sign-off reads as.
use Rattle.std.proofs.Common.{◌≡◌, ℕ, ◌==◌, Bool, true, false, List, codes, Option, Some, None, Result, Ok, Err, refl, sym, ap, ◌∙◌, subst}
use Rattle.std.specs.Prelude.{IsUtf8}
use Rattle.std.specs.Str.{is_utf8}
use Rattle.std.proofs.lemmas.Str.{IsUtf8-from_is_utf8, is_utf8-from_IsUtf8}
use Rattle.std.proofs.lemmas.Bool.Decides.{Decides-eqb}
use Rattle.hex.specs.declared.error.FromHexError.{FromHexError}
use Rattle.hex.specs.Hex.{decode_sized}
use Rattle.scan_model.specs.Words.{is_tag}
use Rattle.serde_json.specs.Data.{unsigned, negative, float, Data, null, boolean, number, string, array, object, Members}
use Rattle.serde_json.specs.Find.{get_member}
use Rattle.serde_json.specs.Read.{read}
use Rattle.die_entries.specs.declared.sign.Sign.{Sign}
use Rattle.desk_answers.specs.SignBodies.{members_len, IsSign, IsSignBody}
use Rattle.desk_answers.specs.BookAnswers.{ReadsSign}

-- the sign-off that a value stands for, or that it stands for none
abbrev ReadsValue : Data → Option Sign → Type 0
ReadsValue value (Some sign) = IsSign value sign
ReadsValue value None = (sign : Sign) → ¬ (IsSign value sign)

abbrev Known : Data → Type 0
Known value = (sign : Option Sign) × ReadsValue value sign

-- ---- members

-- a member that is a whole number, or isn't
number_at : (P : Type 0) (found : Option Data) → ((r : ℕ) → found ≡ Some (number (unsigned r)) → P) → (((r : ℕ) → ¬ (found ≡ Some (number (unsigned r)))) → P) → P
number_at P None with_it without = without (λ r e. absurd cc)
number_at P (Some null) with_it without = without (λ r e. absurd cc)
number_at P (Some (boolean b)) with_it without = without (λ r e. absurd cc)
number_at P (Some (number (unsigned r))) with_it without = with_it r refl
number_at P (Some (number (negative z))) with_it without = without (λ r e. absurd cc)
number_at P (Some (number (float x))) with_it without = without (λ r e. absurd cc)
number_at P (Some (string s)) with_it without = without (λ r e. absurd cc)
number_at P (Some (array ds)) with_it without = without (λ r e. absurd cc)
number_at P (Some (object ms)) with_it without = without (λ r e. absurd cc)

-- a member that is a string, or isn't
string_at : (P : Type 0) (found : Option Data) → ((s : List ℕ) → found ≡ Some (string s) → P) → (((s : List ℕ) → ¬ (found ≡ Some (string s))) → P) → P
string_at P None with_it without = without (λ s e. absurd cc)
string_at P (Some null) with_it without = without (λ s e. absurd cc)
string_at P (Some (boolean b)) with_it without = without (λ s e. absurd cc)
string_at P (Some (number n)) with_it without = without (λ s e. absurd cc)
string_at P (Some (string s)) with_it without = with_it s refl
string_at P (Some (array ds)) with_it without = without (λ s e. absurd cc)
string_at P (Some (object ms)) with_it without = without (λ s e. absurd cc)

same_members : (a b : Members) → object a ≡ object b → a ≡ b
same_members a b e = cc

same_string : (found : Option Data) (a b : List ℕ) → found ≡ Some (string a) → found ≡ Some (string b) → b ≡ a
same_string found a b e f = cc

-- what a value has at a key
member_is : (ms : Members) (key : List ℕ) (value : Data) (whole : Members) → object ms ≡ object whole → get_member key whole ≡ Some value → get_member key ms ≡ Some value
member_is ms key value whole same at = ap (get_member key) (same_members ms whole same) ∙ at

module _ (ms : Members) where
  -- the three members are there: it stands on their number, the signer and the digits
  of_parts : (r : ℕ) (s d : List ℕ) → get_member (codes "revision") ms ≡ Some (number (unsigned r)) → get_member (codes "signer") ms ≡ Some (string s) → get_member (codes "digest") ms ≡ Some (string d)
      → (three : Bool) → (members_len ms == 3) ≡ three → (tag : Bool) → is_tag s ≡ tag → (decoded : Result (List ℕ) FromHexError) → decode_sized d 32 ≡ decoded → Known (object ms)
  of_parts r s d at_r at_s at_d true three true tag (Ok bytes) decoded = (
    Some (record { revision = r; signer = s; digest = bytes }),
    record {
      digits = d;
      parts = record {
        members = ms;
        whole = refl;
        three = (Decides-eqb (members_len ms) 3).0 three;
        revision_is = at_r;
        signer_is = at_s;
        digest_is = at_d;
      };
      tag = tag;
      digest = decoded;
    },
  )
  of_parts r s d at_r at_s at_d true three true tag (Err e) decoded = (
    None,
    λ b is.
        let same : is.digits ≡ d = same_string (get_member (codes "digest") ms) d is.digits at_d (member_is ms (codes "digest") (string is.digits) is.parts.members is.parts.whole is.parts.digest_is) in
        let right : decode_sized d 32 ≡ Ok b.digest = subst (λ (x : List ℕ). decode_sized x 32 ≡ Ok b.digest) same is.digest in
        let both : Err e ≡ Ok b.digest = sym decoded ∙ right in
        absurd cc,
  )
  of_parts r s d at_r at_s at_d true three false tag decoded is_decoded = (
    None,
    λ b is.
        let same : b.signer ≡ s = same_string (get_member (codes "signer") ms) s b.signer at_s (member_is ms (codes "signer") (string b.signer) is.parts.members is.parts.whole is.parts.signer_is) in
        let right : is_tag s ≡ true = subst (λ (x : List ℕ). is_tag x ≡ true) same is.tag in
        let both : false ≡ true = sym tag ∙ right in
        absurd cc,
  )
  of_parts r s d at_r at_s at_d false three tag is_tagged decoded is_decoded = (
    None,
    λ b is.
        let many : members_len ms ≡ 3 = ap members_len (same_members ms is.parts.members is.parts.whole) ∙ is.parts.three in
        let both : false ≡ true = sym three ∙ (Decides-eqb (members_len ms) 3).1 many in
        absurd cc,
  )

  of_members : Known (object ms)
  of_members =
      number_at (Known (object ms)) (get_member (codes "revision") ms)
      (λ r at_r. string_at (Known (object ms)) (get_member (codes "signer") ms)
      (λ s at_s. string_at (Known (object ms)) (get_member (codes "digest") ms)
      (λ d at_d. of_parts r s d at_r at_s at_d (members_len ms == 3) refl (is_tag s) refl (decode_sized d 32) refl)
      (λ other. (None, λ b is. other is.digits (member_is ms (codes "digest") (string is.digits) is.parts.members is.parts.whole is.parts.digest_is))))
      (λ other. (None, λ b is. other b.signer (member_is ms (codes "signer") (string b.signer) is.parts.members is.parts.whole is.parts.signer_is))))
      (λ other. (None, λ b is. other b.revision (member_is ms (codes "revision") (number (unsigned b.revision)) is.parts.members is.parts.whole is.parts.revision_is)))

of_value : (value : Data) → Known value
of_value null = (None, λ b is. let whole = is.parts.whole in absurd cc)
of_value (boolean x) = (None, λ b is. let whole = is.parts.whole in absurd cc)
of_value (number n) = (None, λ b is. let whole = is.parts.whole in absurd cc)
of_value (string s) = (None, λ b is. let whole = is.parts.whole in absurd cc)
of_value (array ds) = (None, λ b is. let whole = is.parts.whole in absurd cc)
of_value (object ms) = of_members ms

-- ---- a text

same_value : (text : List ℕ) (value : Data) (sign : Sign) → read text ≡ Some value → IsSignBody text sign → IsSign value sign
same_value text value sign e is =
    let read_is = is.read_is in
    let same : is.value ≡ value = cc in
    subst (λ (v : Data). IsSign v sign) same is.sign

of_known : (text : List ℕ) (value : Data) → IsUtf8 text → read text ≡ Some value → (sign : Option Sign) → ReadsValue value sign → ReadsSign text sign
of_known text value utf8 e (Some sign) is = record { value = value; utf8 = utf8; read_is = e; sign = is }
of_known text value utf8 e None none = λ sign is. none sign (same_value text value sign e is)

of_read : (text : List ℕ) (valid : Bool) → is_utf8 text ≡ valid → (found : Option Data) → read text ≡ found → (sign : Option Sign) × ReadsSign text sign
of_read text true valid (Some value) e =
    let known = of_value value in
    (known.0, of_known text value (IsUtf8-from_is_utf8 text valid) e known.0 known.1)
of_read text true valid None e = (None, λ sign is. let read_is = is.read_is in absurd cc)
of_read text false valid found e = (None, λ sign is. let right = is_utf8-from_IsUtf8 text is.utf8 in absurd cc)

-- a body is that of a sign-off, or it isn't
pub sign_known : (text : List ℕ) → (sign : Option Sign) × ReadsSign text sign
sign_known text = of_read text (is_utf8 text) refl (read text) refl
