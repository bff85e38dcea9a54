-- The lines of a netlist that is written line by line: their tokens and their forms.
use Rattle.std.proofs.Common.{◌≡◌, ℕ, ◌<◌, Bool, true, false, not, ◌&&◌, eqb, List, [], ◌∷◌, ◌++◌, length, map, take, refl, ap, ◌∙◌, arith}
use Rattle.std.specs.Prelude.{All, codes, flat_map}
use Rattle.std.specs.List.{list_all, AllByRecursion, position_or_len}
use Rattle.std.proofs.lemmas.Bool.{and_parts, and_from}
use Rattle.std.proofs.lemmas.Bool.Decides.{nat_tests}
use Rattle.std.proofs.lemmas.List.{take_all}
use Rattle.std.proofs.lemmas.List.Concat.{flat_map-append}
use Rattle.std.proofs.lemmas.List.Elements.{All-from_recursion}
use Rattle.std.proofs.lemmas.List.Folds.{list_any_none, list_all-append}
use Rattle.std.proofs.lemmas.List.Sums.{position_or_len_is}
use Rattle.scan_model.specs.Lines.{is_blank, is_accepted, has_refused_byte, without_comment}
use Rattle.scan_model.specs.Words.{is_name_byte}
use Rattle.scan_model.specs.NetlistLines.{Token, name, open_sign, comma, equals, begins_with_name, onto_name, tokens, Form, form_of_tokens, form_of}
use Rattle.made_laws.proofs.Plans.{Plan, an_input, an_output, a_cell, a_gate, line_of, planned, IsNetName, IsPlan}
use Rattle.scan_model.specs.NetlistRules.{forms_of}

-- ---- bytes

-- a byte that may stand in a line outside a comment
abbrev pub is_plain : ℕ → Bool
is_plain b = is_accepted b && not (eqb b 35)

name_is_plain : (b : ℕ) → is_name_byte b ≡ true → is_plain b ≡ true
name_is_plain b e = grind (arith, nat_tests, e)

name_not_blank : (b : ℕ) → is_name_byte b ≡ true → is_blank b ≡ false
name_not_blank b e = grind (arith, nat_tests, e)

-- a test of all bytes of two texts, one after the other
pub bytes_append : (test : ℕ → Bool) (xs ys : List ℕ) → list_all test xs ≡ true → list_all test ys ≡ true → list_all test (xs ++ ys) ≡ true
bytes_append test xs ys a b = list_all-append test xs ys ∙ and_from (list_all test xs) (list_all test ys) a b

plain_append : (xs ys : List ℕ) → list_all is_plain xs ≡ true → list_all is_plain ys ≡ true → list_all is_plain (xs ++ ys) ≡ true
plain_append xs ys a b = bytes_append is_plain xs ys a b

pub plain_name : (w : List ℕ) → list_all is_name_byte w ≡ true → list_all is_plain w ≡ true
plain_name [] e = refl
plain_name (b ∷ bs) e =
    let parts = and_parts (is_name_byte b) (list_all is_name_byte bs) e in
    rw (name_is_plain b parts.0, plain_name bs parts.1) refl

-- ---- lines of such bytes

each_fails : (p : ℕ → Bool) → ((b : ℕ) → is_plain b ≡ true → p b ≡ false) → (bs : List ℕ) → list_all is_plain bs ≡ true → AllByRecursion (λ b. p b ≡ false) bs
each_fails p fails [] e = tt
each_fails p fails (b ∷ bs) e = let parts = and_parts (is_plain b) (list_all is_plain bs) e in (fails b parts.0, each_fails p fails bs parts.1)

pub plain_lacks : (p : ℕ → Bool) → ((b : ℕ) → is_plain b ≡ true → p b ≡ false) → (bs : List ℕ) → list_all is_plain bs ≡ true → All (λ b. p b ≡ false) bs
plain_lacks p fails bs e = All-from_recursion (λ b. p b ≡ false) bs (each_fails p fails bs e)

pub accepted_line : (bs : List ℕ) → list_all is_plain bs ≡ true → has_refused_byte bs ≡ false
accepted_line bs e = list_any_none (λ b. not (is_accepted b)) bs (plain_lacks (λ b. not (is_accepted b)) (λ b plain. ap not (and_parts (is_accepted b) (not (eqb b 35)) plain).0) bs e)

no_sharp : (b : ℕ) → is_plain b ≡ true → eqb b 35 ≡ false
no_sharp b e = by (eqb b 35) (and_parts (is_accepted b) (not (eqb b 35)) e).1
  where
    by : (x : Bool) → not x ≡ true → x ≡ false
    by true f = absurd cc
    by false f = refl

pub no_comment : (bs : List ℕ) → list_all is_plain bs ≡ true → without_comment bs ≡ bs
no_comment bs e =
    let lacks : All (λ b. eqb b 35 ≡ false) bs = plain_lacks (λ b. eqb b 35) no_sharp bs e in
    let end : position_or_len (λ b. eqb b 35) bs ≡ length bs = position_or_len_is (λ b. eqb b 35) bs (length bs) 0 (omega arith) (λ k lt. lacks k 0 lt) (λ lt. absurd (omega arith)) in
    ap (λ (n : ℕ). take n bs) end ∙ take_all (length bs) bs (omega arith)

-- ---- tokens

longer : (b : ℕ) (bs : List ℕ) → is_blank b ≡ false → is_name_byte b ≡ true → begins_with_name bs ≡ true → tokens (b ∷ bs) ≡ onto_name b (tokens bs)
longer b bs blank here next = rw (blank, here, next) refl

-- a name before something else
pub name_token : (w rest : List ℕ) → 0 < length w → list_all is_name_byte w ≡ true → begins_with_name rest ≡ false → tokens (w ++ rest) ≡ name w ∷ tokens rest
name_token [] rest some all ends = absurd (omega arith)
name_token (b ∷ []) rest some all ends =
    let here : is_name_byte b ≡ true = (and_parts (is_name_byte b) true all).0 in
    rw (name_not_blank b here, here, ends) refl
name_token (b ∷ c ∷ w) rest some all ends =
    let parts = and_parts (is_name_byte b) (list_all is_name_byte (c ∷ w)) all in
    let next : is_name_byte c ≡ true = (and_parts (is_name_byte c) (list_all is_name_byte w) parts.1).0 in
    let more : tokens (c ∷ (w ++ rest)) ≡ name (c ∷ w) ∷ tokens rest = name_token (c ∷ w) rest (omega arith) parts.1 ends in
    longer b (c ∷ (w ++ rest)) (name_not_blank b parts.0) parts.0 next ∙ ap (onto_name b) more

-- ---- lines

pub plain_line : (p : Plan) → IsPlan p → list_all is_plain (line_of p) ≡ true
plain_line (an_input n) is = plain_append n (codes ")") (plain_name n is.bytes) refl
plain_line (an_output n) is = plain_append n (codes ")") (plain_name n is.bytes) refl
plain_line (a_cell n o) is = plain_append n (codes " = DFF(" ++ (o ++ codes ")")) (plain_name n is.0.bytes) (plain_append o (codes ")") (plain_name o is.1.bytes) refl)
plain_line (a_gate n w u v) is =
    let last = plain_append v (codes ")") (plain_name v is.2.bytes) refl in
    let operands = plain_append u (codes ", " ++ (v ++ codes ")")) (plain_name u is.1.bytes) last in
    let word = plain_append w (codes "(" ++ (u ++ (codes ", " ++ (v ++ codes ")")))) (plain_name w is.3.name.bytes) operands in
    plain_append n (codes " = " ++ (w ++ (codes "(" ++ (u ++ (codes ", " ++ (v ++ codes ")")))))) (plain_name n is.0.bytes) word

-- a name before something else
before : (w rest : List ℕ) → IsNetName w → begins_with_name rest ≡ false → tokens (w ++ rest) ≡ name w ∷ tokens rest
before w rest is ends = name_token w rest is.some is.bytes ends

line_tokens : (p : Plan) → IsPlan p → form_of_tokens (tokens (line_of p)) ≡ planned p
line_tokens (an_input n) is = ap (λ (ts : List Token). form_of_tokens (name (codes "INPUT") ∷ open_sign ∷ ts)) (before n (codes ")") is refl)
line_tokens (an_output n) is = ap (λ (ts : List Token). form_of_tokens (name (codes "OUTPUT") ∷ open_sign ∷ ts)) (before n (codes ")") is refl)
line_tokens (a_cell n o) is =
    ap form_of_tokens (before n (codes " = DFF(" ++ (o ++ codes ")")) is.0 refl)
    ∙ ap (λ (ts : List Token). form_of_tokens (name n ∷ equals ∷ name (codes "DFF") ∷ open_sign ∷ ts)) (before o (codes ")") is.1 refl)
line_tokens (a_gate n w u v) is =
    ap form_of_tokens (before n (codes " = " ++ (w ++ (codes "(" ++ (u ++ (codes ", " ++ (v ++ codes ")")))))) is.0 refl)
    ∙ ap (λ (ts : List Token). form_of_tokens (name n ∷ equals ∷ ts)) (before w (codes "(" ++ (u ++ (codes ", " ++ (v ++ codes ")")))) is.3.name refl)
    ∙ ap (λ (ts : List Token). form_of_tokens (name n ∷ equals ∷ name w ∷ open_sign ∷ ts)) (before u (codes ", " ++ (v ++ codes ")")) is.1 refl)
    ∙ ap (λ (ts : List Token). form_of_tokens (name n ∷ equals ∷ name w ∷ open_sign ∷ name u ∷ comma ∷ ts)) (before v (codes ")") is.2 refl)

pub line_form : (p : Plan) → IsPlan p → form_of (line_of p) ≡ planned p
line_form p is = ap (λ (bs : List ℕ). form_of_tokens (tokens bs)) (no_comment (line_of p) (plain_line p is)) ∙ line_tokens p is

pub line_forms : (ps : List Plan) → AllByRecursion IsPlan ps → forms_of (map line_of ps) ≡ map planned ps
line_forms [] all = refl
line_forms (p ∷ ps) all = ap (λ (f : Form). f ∷ forms_of (map line_of ps)) (line_form p all.0) ∙ ap (λ (fs : List Form). planned p ∷ fs) (line_forms ps all.1)

-- ---- the lines of the text

abbrev pub text_of : List Plan → List ℕ
text_of ps = flat_map (λ p. line_of p ++ 10 ∷ []) ps

pub text_append : (xs ys : List Plan) → text_of (xs ++ ys) ≡ text_of xs ++ text_of ys
text_append xs ys = flat_map-append (λ p. line_of p ++ 10 ∷ []) xs ys
