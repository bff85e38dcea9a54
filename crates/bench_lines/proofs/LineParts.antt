-- The parts of a line, from its front: a name is as long as it can be, and `#` ends them.
use Rattle.std.proofs.Common.{◌≡◌, ◌≢◌, ne_eqb, ℕ, suc, ◌+◌, ◌≤◌, ◌<◌, ◌==◌, ◌||◌, ◌-◌, Bool, true, false, not, cond, List, [], ◌∷◌, take, drop, length, get_or, refl, sym, ap, ◌∙◌, arith, if◌then◌else◌}
use Rattle.std.specs.List.{prefix_len}
use Rattle.std.proofs.lemmas.Bool.Decides.{nat_tests}
use Rattle.scan_model.specs.Lines.{is_blank, is_accepted, has_refused_byte, without_comment}
use Rattle.scan_model.specs.Words.{is_name_byte, is_sign}
use Rattle.std.proofs.lemmas.List.{take_rest, length-drop}
use Rattle.scan_model.specs.NetlistLines.{Token, name, open_sign, close_sign, comma, equals, stray, tokens, onto_name, begins_with_name, sign_of}
use Rattle.text_parts.specs.FirstWord.{begins_blank}
use Rattle.bench_lines.specs.Parts.{line_tokens, begins_name, begins_sign, is_over, IsFirst, IsOver}

one_more : (n : ℕ) → 1 + n ≡ suc n
one_more n = omega arith

name_is_no_blank : (b : ℕ) → is_name_byte b ≡ true → is_blank b ≡ false
name_is_no_blank b e = grind (arith, nat_tests)

comment_begins : (b : ℕ) (bs : List ℕ) → (b == 35) ≡ true → without_comment (b ∷ bs) ≡ []
comment_begins b bs e = rw e refl

comment_is_later : (b : ℕ) (bs : List ℕ) → (b == 35) ≡ false → without_comment (b ∷ bs) ≡ b ∷ without_comment bs
comment_is_later b bs e = rw (e, one_more (prefix_len (λ x. not (x == 35)) bs)) refl

name_is_no_comment : (b : ℕ) → is_name_byte b ≡ true → (b == 35) ≡ false
name_is_no_comment b e = grind (arith, nat_tests)

comment_is_no_name : (b : ℕ) → (b == 35) ≡ true → is_name_byte b ≡ false
comment_is_no_name b e = grind (arith, nat_tests)

begins_as_well : (bs : List ℕ) → begins_with_name (without_comment bs) ≡ begins_with_name bs
begins_as_well [] = refl
begins_as_well (b ∷ bs) = go (b == 35) refl
  where
    go : (t : Bool) → (b == 35) ≡ t → begins_with_name (without_comment (b ∷ bs)) ≡ is_name_byte b
    go true t = rw (comment_begins b bs t) (sym (comment_is_no_name b t))
    go false t = rw (comment_is_later b bs t) refl

-- the first n bytes as a name, and the tokens of the others
abbrev pub name_of_len : ℕ → List ℕ → List Token
name_of_len n xs = name (take n xs) ∷ line_tokens (drop n xs)

longer : (b : ℕ) (xs : List ℕ) (n : ℕ) → onto_name b (name_of_len n xs) ≡ name_of_len (1 + n) (b ∷ xs)
longer b xs n = rw (one_more n) refl

prefix_more : (b : ℕ) (xs : List ℕ) → is_name_byte b ≡ true → prefix_len is_name_byte (b ∷ xs) ≡ 1 + prefix_len is_name_byte xs
prefix_more b xs e = rw e refl

prefix_none : (c : ℕ) (cs : List ℕ) → is_name_byte c ≡ false → prefix_len is_name_byte (c ∷ cs) ≡ 0
prefix_none c cs e = rw e refl

step : (b : ℕ) (bs : List ℕ) → is_name_byte b ≡ true → line_tokens (b ∷ bs) ≡ cond (begins_with_name bs) (onto_name b (line_tokens bs)) (name (b ∷ []) ∷ line_tokens bs)
step b bs e = rw (comment_is_later b bs (name_is_no_comment b e), name_is_no_blank b e, e, begins_as_well bs) refl

-- the tokens of bytes that begin with a name byte: the longest name, and the tokens of what follows
tokens_name : (b : ℕ) (bs : List ℕ) → is_name_byte b ≡ true → line_tokens (b ∷ bs) ≡ name_of_len (prefix_len is_name_byte (b ∷ bs)) (b ∷ bs)
tokens_name b [] e = step b [] e ∙ sym (ap (λ n. name_of_len n (b ∷ [])) (prefix_more b [] e))
tokens_name b (c ∷ cs) e = step b (c ∷ cs) e ∙ go (is_name_byte c) refl (tokens_name c cs) ∙ sym (ap (λ n. name_of_len n (b ∷ c ∷ cs)) (prefix_more b (c ∷ cs) e))
  where
    go : (t : Bool) → is_name_byte c ≡ t → (is_name_byte c ≡ true → line_tokens (c ∷ cs) ≡ name_of_len (prefix_len is_name_byte (c ∷ cs)) (c ∷ cs))
        → cond (begins_with_name (c ∷ cs)) (onto_name b (line_tokens (c ∷ cs))) (name (b ∷ []) ∷ line_tokens (c ∷ cs)) ≡ name_of_len (1 + prefix_len is_name_byte (c ∷ cs)) (b ∷ c ∷ cs)
    go true t h =
        ap (λ z. cond z (onto_name b (line_tokens (c ∷ cs))) (name (b ∷ []) ∷ line_tokens (c ∷ cs))) t
        ∙ ap (onto_name b) (h t)
        ∙ longer b (c ∷ cs) (prefix_len is_name_byte (c ∷ cs))
    go false t h =
        ap (λ z. cond z (onto_name b (line_tokens (c ∷ cs))) (name (b ∷ []) ∷ line_tokens (c ∷ cs))) t
        ∙ sym (ap (λ n. name_of_len (1 + n) (b ∷ c ∷ cs)) (prefix_none c cs t))

-- the tokens of a list that is not empty and begins with a name byte: its longest name, and what follows
tokens_front : (xs : List ℕ) → 1 ≤ length xs → is_name_byte (get_or xs 0 0) ≡ true → line_tokens xs ≡ name_of_len (prefix_len is_name_byte xs) xs
tokens_front [] h e = absurd (omega arith)
tokens_front (b ∷ bs) h e = tokens_name b bs e

name_is_accepted : (b : ℕ) → is_name_byte b ≡ true → is_accepted b ≡ true
name_is_accepted b e = grind (arith, nat_tests)

-- no byte of a name is refused
refused_past_name : (xs : List ℕ) → has_refused_byte (drop (prefix_len is_name_byte xs) xs) ≡ has_refused_byte xs
refused_past_name [] = refl
refused_past_name (b ∷ bs) = go (is_name_byte b) refl (refused_past_name bs)
  where
    go : (t : Bool) → is_name_byte b ≡ t → has_refused_byte (drop (prefix_len is_name_byte bs) bs) ≡ has_refused_byte bs → has_refused_byte (drop (prefix_len is_name_byte (b ∷ bs)) (b ∷ bs)) ≡ has_refused_byte (b ∷ bs)
    go true t h = rw (t, name_is_accepted b t, one_more (prefix_len is_name_byte bs)) h
    go false t h = rw t refl

-- what follows the first byte
abbrev pub rest_of : List ℕ → List ℕ
rest_of xs = take (length xs - 1) (drop 1 xs)

rest_is : (b : ℕ) (bs : List ℕ) → rest_of (b ∷ bs) ≡ bs
rest_is b bs = take_rest (b ∷ bs) 1

blank_is_no_comment : (b : ℕ) → is_blank b ≡ true → (b == 35) ≡ false
blank_is_no_comment b e = grind (arith, nat_tests)

blank_is_accepted : (b : ℕ) → is_blank b ≡ true → is_accepted b ≡ true
blank_is_accepted b e = grind (arith, nat_tests)

tokens_past_blank : (b : ℕ) (bs : List ℕ) → is_blank b ≡ true → line_tokens (b ∷ bs) ≡ line_tokens bs
tokens_past_blank b bs e = rw (comment_is_later b bs (blank_is_no_comment b e), e) refl

refused_past : (b : ℕ) (bs : List ℕ) → is_accepted b ≡ true → has_refused_byte (b ∷ bs) ≡ has_refused_byte bs
refused_past b bs e = rw e refl

-- past a blank the line has the same tokens and refused bytes
pub past_blank : (line xs : List ℕ) → 1 ≤ length xs → is_blank (get_or xs 0 0) ≡ true → line_tokens xs ≡ line_tokens line → has_refused_byte xs ≡ has_refused_byte line → length xs ≤ length line
    → (line_tokens (rest_of xs) ≡ line_tokens line) × (has_refused_byte (rest_of xs) ≡ has_refused_byte line) × (length (rest_of xs) ≤ length line)
past_blank line [] h e same refused within = absurd (omega arith)
past_blank line (b ∷ bs) h e same refused within = (
  ap line_tokens (rest_is b bs) ∙ sym (tokens_past_blank b bs e) ∙ same,
  ap has_refused_byte (rest_is b bs) ∙ sym (refused_past b bs (blank_is_accepted b e)) ∙ refused,
  omega (arith, ap length (rest_is b bs), within),
)

tokens_past_sign : (b : ℕ) (bs : List ℕ) → is_name_byte b ≡ false → is_blank b ≡ false → (b == 35) ≡ false → line_tokens (b ∷ bs) ≡ sign_of b ∷ line_tokens bs
tokens_past_sign b bs no_name no_blank no_comment = rw (comment_is_later b bs no_comment, no_blank, no_name) refl

-- what is said of the line from its first byte that is no blank holds of the line
pub moved : (line rest : List ℕ) (t : Token) (after : List ℕ) → line_tokens rest ≡ line_tokens line → has_refused_byte rest ≡ has_refused_byte line → length rest ≤ length line → IsFirst rest t after → IsFirst line t after
moved line rest t after same refused within first = record {
  tokens = sym same ∙ first.tokens;
  refused = first.refused ∙ refused;
  shorter = omega (arith, within, first.shorter);
}

starts : (xs : List ℕ) → 1 ≤ prefix_len is_name_byte xs → (1 ≤ length xs) × (is_name_byte (get_or xs 0 0) ≡ true)
starts [] h = absurd (omega (arith, h))
starts (b ∷ bs) h = go (is_name_byte b) refl
  where
    go : (t : Bool) → is_name_byte b ≡ t → (1 ≤ length (b ∷ bs)) × (is_name_byte b ≡ true)
    go true e = (omega arith, e)
    go false e = absurd (omega (arith, h, prefix_none b bs e))

-- some name bytes at the front are a name
pub name_first : (xs : List ℕ) → 1 ≤ prefix_len is_name_byte xs → IsFirst xs (name (take (prefix_len is_name_byte xs) xs)) (drop (prefix_len is_name_byte xs) xs)
name_first xs some =
    let from = starts xs some in
    record {
      tokens = tokens_front xs from.0 from.1;
      refused = refused_past_name xs;
      shorter = omega (arith, some, from.0, length-drop (prefix_len is_name_byte xs) xs);
    }

-- the first byte is no blank: a comment begins, a name or a sign
first_token : (b : ℕ) (bs : List ℕ) → is_blank b ≡ false → is_name_byte b ≡ false → line_tokens (b ∷ bs) ≡ cond (b == 35) [] (sign_of b ∷ line_tokens bs)
first_token b bs no_blank no_name = go (b == 35) refl
  where
    go : (t : Bool) → (b == 35) ≡ t → line_tokens (b ∷ bs) ≡ cond t [] (sign_of b ∷ line_tokens bs)
    go true t = ap tokens (comment_begins b bs t)
    go false t = tokens_past_sign b bs no_name no_blank t

sign_is_no_name : (b : ℕ) (ts : List Token) → begins_name (sign_of b ∷ ts) ≡ false
sign_is_no_name b ts = go (b == 40) (b == 41) (b == 44) (b == 61)
  where
    go : (p q r s : Bool) → begins_name ((if p then open_sign else if q then close_sign else if r then comma else if s then equals else stray) ∷ ts) ≡ false
    go true q r s = refl
    go false true r s = refl
    go false false true s = refl
    go false false false true = refl
    go false false false false = refl

-- no name byte at the front
pub no_name : (xs : List ℕ) → begins_blank xs ≡ false → prefix_len is_name_byte xs ≡ 0 → begins_name (line_tokens xs) ≡ false
no_name [] no_blank none = refl
no_name (b ∷ bs) no_blank none = go (is_name_byte b) (b == 35) refl refl
  where
    go : (t c : Bool) → is_name_byte b ≡ t → (b == 35) ≡ c → begins_name (line_tokens (b ∷ bs)) ≡ false
    go true c e d = absurd (omega (arith, none, prefix_more b bs e))
    go false true e d = ap begins_name (first_token b bs no_blank e ∙ ap (λ t. cond t [] (sign_of b ∷ line_tokens bs)) d)
    go false false e d = ap begins_name (first_token b bs no_blank e ∙ ap (λ t. cond t [] (sign_of b ∷ line_tokens bs)) d) ∙ sign_is_no_name b (line_tokens bs)

sign_no_name : (s : ℕ) → is_sign s ≡ true → is_name_byte s ≡ false
sign_no_name s e = grind (arith, nat_tests)

sign_no_blank : (s : ℕ) → is_sign s ≡ true → is_blank s ≡ false
sign_no_blank s e = grind (arith, nat_tests)

sign_no_comment : (s : ℕ) → is_sign s ≡ true → (s == 35) ≡ false
sign_no_comment s e = grind (arith, nat_tests)

sign_accepted : (s : ℕ) → is_sign s ≡ true → is_accepted s ≡ true
sign_accepted s e = grind (arith, nat_tests)

-- a sign at the front
pub sign_first : (xs : List ℕ) (s : ℕ) → is_sign s ≡ true → 1 ≤ length xs → get_or xs 0 0 ≡ s → IsFirst xs (sign_of s) (rest_of xs)
sign_first [] s sign h is = absurd (omega arith)
sign_first (b ∷ bs) s sign h is =
    let e : is_sign b ≡ true = ap is_sign is ∙ sign in
    record {
      tokens = tokens_past_sign b bs (sign_no_name b e) (sign_no_blank b e) (sign_no_comment b e) ∙ ap (λ c. sign_of c ∷ line_tokens bs) is ∙ ap (λ r. sign_of s ∷ line_tokens r) (sym (rest_is b bs));
      refused = ap has_refused_byte (rest_is b bs) ∙ sym (refused_past b bs (sign_accepted b e));
      shorter = omega (arith, ap length (rest_is b bs));
    }

differs : (s b k : ℕ) → b ≢ s → (b == k) ≡ true → (s == k) ≡ false
differs s b k other is = grind (arith, nat_tests)

not_this_sign : (s b : ℕ) (ts : List Token) → b ≢ s → begins_sign s (sign_of b ∷ ts) ≡ false
not_this_sign s b ts other = go (b == 40) (b == 41) (b == 44) (b == 61) refl refl refl refl
  where
    go : (p q r e : Bool) → (b == 40) ≡ p → (b == 41) ≡ q → (b == 44) ≡ r → (b == 61) ≡ e → begins_sign s ((if p then open_sign else if q then close_sign else if r then comma else if e then equals else stray) ∷ ts) ≡ false
    go true q r e i j k l = differs s b 40 other i
    go false true r e i j k l = differs s b 41 other j
    go false false true e i j k l = differs s b 44 other k
    go false false false true i j k l = differs s b 61 other l
    go false false false false i j k l = refl

-- another byte at the front than the sign
pub other_sign : (xs : List ℕ) (s : ℕ) → begins_blank xs ≡ false → 1 ≤ length xs → get_or xs 0 0 ≢ s → begins_sign s (line_tokens xs) ≡ false
other_sign [] s no_blank h other = refl
other_sign (b ∷ bs) s no_blank h other = go (is_name_byte b) (b == 35) refl refl
  where
    go : (t c : Bool) → is_name_byte b ≡ t → (b == 35) ≡ c → begins_sign s (line_tokens (b ∷ bs)) ≡ false
    go true c e d = ap (begins_sign s) (tokens_name b bs e)
    go false true e d = ap (begins_sign s) (first_token b bs no_blank e ∙ ap (λ t. cond t [] (sign_of b ∷ line_tokens bs)) d)
    go false false e d = ap (begins_sign s) (first_token b bs no_blank e ∙ ap (λ t. cond t [] (sign_of b ∷ line_tokens bs)) d) ∙ not_this_sign s b (line_tokens bs) other

-- another byte at the front than that of a comment
pub goes_on : (xs : List ℕ) → begins_blank xs ≡ false → 1 ≤ length xs → get_or xs 0 0 ≢ 35 → is_over (line_tokens xs) ≡ false
goes_on [] no_blank h other = absurd (omega arith)
goes_on (b ∷ bs) no_blank h other = go (is_name_byte b) refl
  where
    go : (t : Bool) → is_name_byte b ≡ t → is_over (line_tokens (b ∷ bs)) ≡ false
    go true e = ap is_over (tokens_name b bs e)
    go false e = ap is_over (first_token b bs no_blank e ∙ ap (λ t. cond t [] (sign_of b ∷ line_tokens bs)) (ne_eqb b 35 other))
