-- The checks of a head, over its parts.
use Rattle.std.proofs.Common.{◌≡◌, ℕ, ◌<◌, ◌≤◌, Bool, true, false, ◌==◌, ◌&&◌, ◌||◌, not, if◌then◌else◌, List, [], ◌∷◌, length, take, map, filter, codes, nat_lt, Result, Ok, Err, refl, sym, subst, ◌∙◌}
use Rattle.std.specs.List.{list_all, list_any}
use Rattle.std.specs.Str.{str_eq_ignore_ascii_case}
use Rattle.httparse.specs.declared.spans.HeaderSpan.{HeaderSpan}
use Rattle.httparse.specs.declared.spans.RequestSpans.{RequestSpans}
use Rattle.httparse.specs.Grammar.{RequestHead, Field, field_value}
use Rattle.httparse.specs.Spans.{span_bytes, header_bytes, name_and_value, IsRequestAt}
use Rattle.desk_heads.specs.declared.head.HeadFault.{HeadFault}
use Rattle.desk_heads.specs.declared.head.HeadFault.TheVariants as fault
use Rattle.desk_heads.specs.Heads.{is_length, are_alike, body_length, is_target, names_close, method_of, has_body, is_head, HeadFacts, checked, body_limit}
use Rattle.desk_heads.specs.declared.head.Head.{Head}
use Rattle.desk_heads.specs.Fields.{named, content_lengths}
use Rattle.desk_heads.specs.SeenHeads.{IsAsked, IsHeadIn, Judges}
use Rattle.std.proofs.lemmas.Bool.{lt-ltb, le-ltb}

values_are : (name : List ℕ) (fields : List Field)
    → map field_value (filter (λ f. str_eq_ignore_ascii_case f.name name) fields) ≡ named name (map name_and_value fields)
values_are name [] = refl
values_are name (f ∷ fs) = by (str_eq_ignore_ascii_case f.name name) refl (values_are name fs)
  where
    by : (b : Bool) → str_eq_ignore_ascii_case f.name name ≡ b
        → map field_value (filter (λ g. str_eq_ignore_ascii_case g.name name) fs) ≡ named name (map name_and_value fs)
        → map field_value (filter (λ g. str_eq_ignore_ascii_case g.name name) (f ∷ fs)) ≡ named name (map name_and_value (f ∷ fs))
    by true e rest = rw (e, rest) refl
    by false e rest = rw (e, rest) refl

abbrev pub asked_at : List ℕ → List ℕ → ℕ → List (List ℕ × List ℕ) → HeadFacts
asked_at method target minor fields = record {
  method = method_of method;
  target = target;
  body = body_length (content_lengths fields);
  awaits = (minor == 1) && list_any (λ value. str_eq_ignore_ascii_case value (codes "100-continue")) (named (codes "Expect") fields) && nat_lt 0 (length (content_lengths fields));
  closes = (minor == 0) || list_any names_close (named (codes "Connection") fields) || is_head (method_of method);
}

-- the first check that refuses a head with these parts, or what it asks for
abbrev pub checked_at : List ℕ → List ℕ → ℕ → List (List ℕ × List ℕ) → Result HeadFacts HeadFault
checked_at method target minor fields =
    if nat_lt 0 (length (named (codes "Transfer-Encoding") fields)) then Err fault.TransferEncoding
    else if not (list_all is_length (content_lengths fields) && are_alike (content_lengths fields)) then Err fault.BadRequest
    else if not (is_target target) then Err fault.BadRequest
    else if nat_lt body_limit (body_length (content_lengths fields)) then Err fault.TooLarge
    else if has_body (method_of method) && (length (content_lengths fields) == 0) then Err fault.LengthRequired
    else Ok (asked_at method target minor fields)

checked_by : (h : RequestHead) → checked h ≡ checked_at h.method h.target h.minor (map name_and_value h.fields)
checked_by h =
    rw (values_are (codes "Transfer-Encoding") h.fields, values_are (codes "Content-Length") h.fields, values_are (codes "Expect") h.fields, values_are (codes "Connection") h.fields) refl

-- a head whose parts are at these spans
module _ (text : List ℕ) (room : List HeaderSpan) (spans : RequestSpans) (fields : List (List ℕ × List ℕ)) (are : fields ≡ map (header_bytes text) (take spans.headers room)) where
  abbrev pub method_text : List ℕ
  method_text = span_bytes text spans.method

  abbrev pub target_text : List ℕ
  target_text = span_bytes text spans.path

  abbrev pub Answers : Result Head HeadFault → Type 0
  Answers answer = (h : RequestHead) → IsRequestAt text room spans h → Judges text (checked h) answer

  answers : (result : Result HeadFacts HeadFault) (answer : Result Head HeadFault) → checked_at method_text target_text spans.version fields ≡ result → Judges text result answer → Answers answer
  answers result answer is judges h at =
      let same : fields ≡ map name_and_value h.fields = are ∙ at.fields in
      let there : checked h ≡ checked_at method_text target_text spans.version fields = checked_by h ∙ rw (at.method, at.path, at.version, same) refl in
      subst (λ r. Judges text r answer) (sym (there ∙ is)) judges

  module _ (coding : Bool) (is_coding : coding ≡ nat_lt 0 (length (named (codes "Transfer-Encoding") fields))) where
    pub refuses_coding : coding ≡ true → Answers (Err fault.TransferEncoding)
    refuses_coding e = answers (Err fault.TransferEncoding) _ (rw (← is_coding, e) refl) refl

    module _ (plain : coding ≡ false) (right : Bool) (is_right : right ≡ list_all is_length (content_lengths fields) && are_alike (content_lengths fields)) where
      pub refuses_lengths : right ≡ false → Answers (Err fault.BadRequest)
      refuses_lengths e = answers (Err fault.BadRequest) _ (rw (← is_coding, plain, ← is_right, e) refl) refl

      module _ (lengths : right ≡ true) (good : Bool) (is_good : good ≡ is_target target_text) where
        pub refuses_target : good ≡ false → Answers (Err fault.BadRequest)
        refuses_target e = answers (Err fault.BadRequest) _ (rw (← is_coding, plain, ← is_right, lengths, ← is_good, e) refl) refl

        module _ (found : good ≡ true) where
          pub refuses_large : body_limit < body_length (content_lengths fields) → Answers (Err fault.TooLarge)
          refuses_large large =
              let e : nat_lt body_limit (body_length (content_lengths fields)) ≡ true = lt-ltb _ _ large in
              answers (Err fault.TooLarge) _ (rw (← is_coding, plain, ← is_right, lengths, ← is_good, found, e) refl) refl

          module _ (small : body_length (content_lengths fields) ≤ body_limit) (lacks : Bool) (is_lacking : lacks ≡ has_body (method_of method_text) && (length (content_lengths fields) == 0)) where
            pub refuses_unsaid : lacks ≡ true → Answers (Err fault.LengthRequired)
            refuses_unsaid lacking =
                let e : nat_lt body_limit (body_length (content_lengths fields)) ≡ false = le-ltb _ _ small in
                answers (Err fault.LengthRequired) _ (rw (← is_coding, plain, ← is_right, lengths, ← is_good, found, e, ← is_lacking, lacking) refl) refl

            pub asks : lacks ≡ false → (head : Head) → head.length ≡ length text → IsHeadIn text head → IsAsked text head (asked_at method_text target_text spans.version fields) → Answers (Ok head)
            asks said head long fits is =
                let e : nat_lt body_limit (body_length (content_lengths fields)) ≡ false = le-ltb _ _ small in
                answers (Ok (asked_at method_text target_text spans.version fields)) (Ok head) (rw (← is_coding, plain, ← is_right, lengths, ← is_good, found, e, ← is_lacking, said) refl) (long, fits, is)
