-- A head of at most 8,192 bytes has fewer than 2,731 fields: each field line has three bytes or more.
use Rattle.std.proofs.Common.{◌∙◌, ◌≡◌, ℕ, ◌*◌, ◌≤◌, List, [], ◌∷◌, ◌++◌, length, ap, arith, length-append}
use Rattle.std.specs.Prelude.{All}
use Rattle.std.specs.List.{flat_map}
use Rattle.std.proofs.lemmas.List.Elements.{All-head, All-tail}
use Rattle.httparse.specs.Grammar.{LineEnd, crlf, lf, print_end, Field, IsField, print_field, RequestHead, print_request, ReadsRequest}
use Rattle.httparse.specs.Ascii.{colon}

end_length : (e : LineEnd) → 1 ≤ length (print_end e)
end_length crlf = omega arith
end_length lf = omega arith

field_length : (f : Field) → IsField f → 3 ≤ length (print_field f)
field_length f is =
    let n = is.name.0 in
    let e = end_length f.end in
    let a = length-append (f.name ++ colon ∷ f.raw) (print_end f.end) in
    let b = length-append f.name (colon ∷ f.raw) in
    omega arith

fields_length : (fs : List Field) → All IsField fs → 3 * length fs ≤ length (flat_map print_field fs)
fields_length [] all = omega arith
fields_length (f ∷ fs) all =
    let rest = fields_length fs (All-tail IsField f fs all) in
    let one = field_length f (All-head IsField f fs all) in
    omega (arith, length-append (print_field f) (flat_map print_field fs))

pub fields_fit : (text : List ℕ) (h : RequestHead) → ReadsRequest text h [] → length text ≤ 8192 → length h.fields ≤ 2731
unfolding print_request
fields_fit text h reads short =
    let fs = fields_length h.fields reads.0.fields in
    let whole = ap length reads.1 in
    omega (arith, fs, whole, short, length-append {A = ℕ})

pub whole_length : (text : List ℕ) (h : RequestHead) → ReadsRequest text h [] → length text ≡ length (print_request h)
whole_length text h reads = ap length reads.1 ∙ length-append (print_request h) [] ∙ omega arith
