-- The bodies of replies: lines of words with one space between and LF behind them.
use Rattle.std.specs.Prelude.{ℕ, List, [], ◌∷◌, ◌++◌, decimal, codes}
use Rattle.hex.specs.Hex.{encode_lower}
use Rattle.scan_model.specs.ReportText.{line}
use Rattle.text_parts.specs.declared.fault.TextFault.{TextFault}
use Rattle.diagnosis.specs.declared.section.Section.TheVariants as section
use Rattle.desk_heads.specs.declared.head.HeadFault.TheVariants as head
use Rattle.desk_replies.specs.declared.bodies.TextKind.{TextKind}
use Rattle.desk_replies.specs.declared.bodies.TextKind.TheVariants as kind
use Rattle.desk_replies.specs.declared.bodies.Refusal.{Refusal}
use Rattle.desk_replies.specs.declared.bodies.Refusal.TheVariants as refusal
use Rattle.desk_replies.specs.declared.bodies.Entry.{Entry}
use Rattle.desk_replies.specs.declared.bodies.Entry.TheVariants as entry

-- a line of words and a number
abbrev pub number_line : List ℕ → ℕ → List ℕ
number_line words n = line (words ∷ decimal n ∷ [])

-- a line of words and a digest, of which the hexadecimal digits are in lower case
abbrev pub digest_line : List ℕ → List ℕ → List ℕ
digest_line words digest = line (words ∷ encode_lower digest ∷ [])

-- ---- what is there

-- a design that was put
abbrev pub design_body : List ℕ → List ℕ → List ℕ
design_body name digest = line (codes "design" ∷ name ∷ encode_lower digest ∷ [])

-- the number of a log, or of a sign-off, that was put
abbrev pub log_body : ℕ → List ℕ
log_body n = number_line (codes "log") n

abbrev pub sign_off_line : ℕ → List ℕ
sign_off_line n = number_line (codes "signoff") n

-- an entry that was put, by its number
abbrev pub entry_body : Entry → ℕ → List ℕ
entry_body (entry.Design text) n = text
entry_body entry.Log n = log_body n
entry_body entry.SignOff n = sign_off_line n

-- a sign-off that is read: its number, revision, signer and digest
abbrev pub sign_off_body : ℕ → ℕ → List ℕ → List ℕ → List ℕ
sign_off_body n revision signer digest =
    sign_off_line n
    ++ number_line (codes "revision") revision
    ++ line (codes "signer" ∷ signer ∷ [])
    ++ digest_line (codes "digest") digest

-- the lines before the summary of a design that is read
abbrev pub design_head : List ℕ → List ℕ → List ℕ
design_head name digest = line (codes "design" ∷ name ∷ []) ++ digest_line (codes "digest") digest

-- ---- refusals

abbrev pub refusal_body : Refusal → List ℕ
refusal_body (refusal.Head head.BadRequest) = codes "bad request\n"
refusal_body (refusal.Head head.LengthRequired) = codes "length required\n"
refusal_body (refusal.Head head.TooLarge) = codes "too large\n"
refusal_body (refusal.Head head.HeadTooLarge) = codes "head too large\n"
refusal_body (refusal.Head head.TransferEncoding) = codes "transfer encoding\n"
refusal_body refusal.NoRoute = codes "no route\n"
refusal_body refusal.MethodNotAllowed = codes "method not allowed\n"
refusal_body refusal.UnknownDesign = codes "rule 83\n"
refusal_body refusal.UnknownDie = codes "rule 84\n"

-- how many faults, lines, explained patterns, revisions or sign-offs there are
abbrev pub unknown_fault_body : ℕ → List ℕ
unknown_fault_body faults = number_line (codes "rule 41 faults") faults

abbrev pub unknown_line_body : ℕ → List ℕ
unknown_line_body lines = number_line (codes "rule 71 lines") lines

abbrev pub unknown_pattern_body : ℕ → List ℕ
unknown_pattern_body patterns = number_line (codes "rule 72 patterns") patterns

abbrev pub unknown_revision_body : ℕ → List ℕ
unknown_revision_body have = number_line (codes "rule 85 have") have

abbrev pub unknown_sign_body : ℕ → List ℕ
unknown_sign_body have = number_line (codes "rule 87 have") have

-- the digest of the text that the name has
abbrev pub name_taken_body : List ℕ → List ℕ
name_taken_body kept = digest_line (codes "rule 82 kept") kept

-- the digest of the report
abbrev pub digest_differs_body : List ℕ → List ℕ
digest_differs_body right = digest_line (codes "rule 86 digest") right

-- how many deeds the book may have
abbrev pub full_body : ℕ → List ℕ
full_body limit = number_line (codes "rule 88 limit") limit

-- what is answered where the keeper failed, and where memory ran out
abbrev pub keeper_fault_body : List ℕ
keeper_fault_body = codes "keeper fault\n"

abbrev pub no_memory_body : List ℕ
no_memory_body = codes "memory\n"

abbrev pub kind_word : TextKind → List ℕ
kind_word (kind.Section section.Bundle) = codes "bundle"
kind_word (kind.Section section.Netlist) = codes "netlist"
kind_word (kind.Section section.Scan) = codes "scan"
kind_word (kind.Section section.Patterns) = codes "patterns"
kind_word (kind.Section section.Neighbours) = codes "neighbours"
kind_word (kind.Section section.Log) = codes "log"
kind_word kind.SignOff = codes "signoff"

-- the first fault of a text
abbrev pub text_fault_body : TextKind → TextFault → List ℕ
text_fault_body kind fault =
    line (codes "section" ∷ kind_word kind ∷ codes "line" ∷ decimal fault.line ∷ codes "rule" ∷ decimal fault.rule ∷ [])
