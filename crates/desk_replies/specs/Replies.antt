-- The bytes of replies (RFC 9112): the lines of a head, each with CR LF behind it, an empty line, and the body.
use Rattle.std.specs.Prelude.{ℕ, Bool, true, false, List, [], ◌++◌, length, decimal, codes, Option, Some, None}
use Rattle.desk_replies.specs.declared.status.Status.{Status}
use Rattle.desk_replies.specs.declared.methods.Methods.{Methods}
use Rattle.desk_replies.specs.Statuses.{digits, phrase}
use Rattle.desk_replies.specs.Methods.{methods_text}

abbrev pub status_line : Status → List ℕ
status_line s = codes "HTTP/1.1 " ++ digits s ++ codes " " ++ phrase s ++ codes "\r\n"

abbrev pub type_line : List ℕ
type_line = codes "Content-Type: text/plain\r\n"

-- how many bytes the body has
abbrev pub length_line : ℕ → List ℕ
length_line size = codes "Content-Length: " ++ decimal size ++ codes "\r\n"

-- the methods of a route, where the reply names them
abbrev pub allow_line : Option Methods → List ℕ
allow_line None = []
allow_line (Some methods) = codes "Allow: " ++ methods_text methods ++ codes "\r\n"

-- the last reply of a session says so
abbrev pub connection_line : Bool → List ℕ
connection_line false = []
connection_line true = codes "Connection: close\r\n"

-- what goes before a body of so many bytes
abbrev pub reply_head : Status → (allow : Option Methods) → (closes : Bool) → (size : ℕ) → List ℕ
reply_head s allow closes size = status_line s ++ type_line ++ length_line size ++ allow_line allow ++ connection_line closes ++ codes "\r\n"

abbrev pub reply_text : Status → (allow : Option Methods) → (closes : Bool) → (body : List ℕ) → List ℕ
reply_text s allow closes body = reply_head s allow closes (length body) ++ body

-- the interim reply, which asks for the body
abbrev pub interim_text : List ℕ
interim_text = codes "HTTP/1.1 100 Continue\r\n\r\n"
