-- Request heads (RFC 9112): where one ends, and what it asks for or why it is refused.
use Rattle.std.specs.Prelude.{◌≡◌, ℕ, suc, ◌≤◌, ◌==◌, ◌&&◌, ◌||◌, not, Bool, true, false, nat_le, nat_lt, if◌then◌else◌, List, [], ◌∷◌, length, map, filter, take, codes, Option, Some, None, Result, Ok, Err}
use Rattle.std.specs.Option.{option_map}
use Rattle.std.specs.List.{list_all, list_any, slice_split}
use Rattle.std.specs.Str.{bytes_eq, str_eq_ignore_ascii_case}
use Rattle.httparse.specs.Grammar.{RequestHead, ReadsRequest, field_value, trim_ows}
use Rattle.scan_model.specs.Words.{is_digit, is_tag_byte, digits_number}
use Rattle.desk_heads.specs.declared.head.method.Method.{Method}
use Rattle.desk_heads.specs.declared.head.method.Method.TheVariants as method
use Rattle.desk_heads.specs.declared.head.HeadFault.{HeadFault}
use Rattle.desk_heads.specs.declared.head.HeadFault.TheVariants as fault

-- the longest head, and the longest body
abbrev pub head_limit : ℕ
head_limit = 8192

abbrev pub body_limit : ℕ
body_limit = 16777216

-- ---- where a head ends

-- LF is 10, CR is 13
abbrev pub starts_with_lf : List ℕ → Bool
starts_with_lf [] = false
starts_with_lf (byte ∷ bytes) = byte == 10

-- the length of an empty line, LF or CR LF, where the bytes begin with one
abbrev pub blank_length : List ℕ → Option ℕ
blank_length [] = None
blank_length (byte ∷ bytes) =
    if byte == 10 then Some 1
    else if (byte == 13) && starts_with_lf bytes then Some 2
    else None

-- the first of two numbers that is there
abbrev pub or_else : Option ℕ → Option ℕ → Option ℕ
or_else (Some n) other = Some n
or_else None other = other

-- a head ends with its first empty line, which directly follows an LF
unfoldable pub head_length : List ℕ → Option ℕ
head_length [] = None
head_length (byte ∷ bytes) = option_map suc (or_else (if byte == 10 then blank_length bytes else None) (head_length bytes))

-- no head ends in the first so many bytes, which are no more than the longest head has
pub record HasNoEndWithin (count : ℕ) (bytes : List ℕ) : Type 0 where
  pub fits : count ≤ length bytes
  pub short : count ≤ head_limit
  pub none : head_length (take count bytes) ≡ None

-- ---- its fields

-- the values of the fields of this name, without the blanks around them
abbrev pub values_of : List ℕ → RequestHead → List (List ℕ)
values_of name h = map field_value (filter (λ f. str_eq_ignore_ascii_case f.name name) h.fields)

abbrev pub lengths : RequestHead → List (List ℕ)
lengths h = values_of (codes "Content-Length") h

-- one digit or more and nothing else
abbrev pub is_length : List ℕ → Bool
is_length value = nat_lt 0 (length value) && list_all is_digit value

-- no two differ
abbrev pub are_alike : List (List ℕ) → Bool
are_alike [] = true
are_alike (value ∷ values) = list_all (bytes_eq value) values

-- the length of the body: the number of its length field, or 0
abbrev pub body_length : List (List ℕ) → ℕ
body_length [] = 0
body_length (value ∷ values) = digits_number value

-- `/`, and then letters, digits, `_`, `-`, `.` and `/`
abbrev pub is_target : List ℕ → Bool
is_target [] = false
is_target (byte ∷ bytes) = (byte == 47) && list_all (λ b. is_tag_byte b || (b == 47)) bytes

-- an element of a list with commas that is this word
abbrev pub names_close : List ℕ → Bool
names_close value = list_any (λ part. str_eq_ignore_ascii_case (trim_ows part) (codes "close")) (slice_split (λ b. b == 44) value)

abbrev pub has_close : RequestHead → Bool
has_close h = list_any names_close (values_of (codes "Connection") h)

abbrev pub expects_interim : RequestHead → Bool
expects_interim h = list_any (λ value. str_eq_ignore_ascii_case value (codes "100-continue")) (values_of (codes "Expect") h)

-- ---- what it asks for

abbrev pub method_of : List ℕ → Method
method_of name =
    if bytes_eq name (codes "GET") then method.Get
    else if bytes_eq name (codes "PUT") then method.Put
    else if bytes_eq name (codes "POST") then method.Post
    else if bytes_eq name (codes "HEAD") then method.Head
    else method.Other

abbrev pub has_body : Method → Bool
has_body method.Put = true
has_body method.Post = true
has_body _ = false

abbrev pub is_head : Method → Bool
is_head method.Head = true
is_head _ = false

-- a request without its body; an interim reply goes before the body where it is awaited
pub record HeadFacts : Type 0 where
  pub method : Method
  pub target : List ℕ
  pub body : ℕ
  pub awaits : Bool
  pub closes : Bool

abbrev pub asked : RequestHead → HeadFacts
asked h = record {
  method = method_of h.method;
  target = h.target;
  body = body_length (lengths h);
  awaits = (h.minor == 1) && expects_interim h && nat_lt 0 (length (lengths h));
  closes = (h.minor == 0) || has_close h || is_head (method_of h.method);
}

-- the first check that refuses a head, or what it asks for
abbrev pub checked : RequestHead → Result HeadFacts HeadFault
checked h =
    if nat_lt 0 (length (values_of (codes "Transfer-Encoding") h)) then Err fault.TransferEncoding
    else if not (list_all is_length (lengths h) && are_alike (lengths h)) then Err fault.BadRequest
    else if not (is_target h.target) then Err fault.BadRequest
    else if nat_lt body_limit (body_length (lengths h)) then Err fault.TooLarge
    else if has_body (method_of h.method) && (length (lengths h) == 0) then Err fault.LengthRequired
    else Ok (asked h)

-- the text is that of a head by the grammar, to its last byte, or of none
abbrev pub Reads : List ℕ → Option RequestHead → Type 0
Reads text (Some h) = ReadsRequest text h []
Reads text None = (h : RequestHead) → ¬ (ReadsRequest text h [])

abbrev pub judged : Option RequestHead → Result HeadFacts HeadFault
judged None = Err fault.BadRequest
judged (Some h) = checked h

-- the length of the head at the front of the bytes with what it asks for; why it is refused; or None while it isn't whole
abbrev pub HeadFound : List ℕ → Option ℕ → Option (Result (ℕ × HeadFacts) HeadFault) → Type 0
HeadFound bytes None head = head ≡ (if nat_le head_limit (length bytes) then Some (Err fault.HeadTooLarge) else None)
HeadFound bytes (Some n) head = (read : Option RequestHead) × Reads (take n bytes) read × (head ≡ Some (with_length (judged read)))
  where
    with_length : Result HeadFacts HeadFault → Result (ℕ × HeadFacts) HeadFault
    with_length (Ok a) = Ok (n, a)
    with_length (Err f) = Err f

abbrev pub IsHeadOf : List ℕ → Option (Result (ℕ × HeadFacts) HeadFault) → Type 0
IsHeadOf bytes head = HeadFound bytes (head_length (take head_limit bytes)) head
