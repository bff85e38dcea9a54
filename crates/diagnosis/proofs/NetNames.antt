-- Each name of a net is a word of name bytes, so that none has a `%`.
use Rattle.std.proofs.Common.{◌≡◌, ℕ, Bool, true, false, List, [], ◌∷◌, Option, Some, None, refl, ap, ◌∙◌, arith}
use Rattle.std.specs.Prelude.{◌==◌, length, codes}
use Rattle.std.specs.List.{list_all}
use Rattle.std.specs.Str.{str_eq_ignore_ascii_case}
use Rattle.std.proofs.lemmas.Bool.{ne_eqb, cond_both, and_parts, and_from, or_from, not_from_false}
use Rattle.std.proofs.lemmas.List.Folds.{list_all-append}
use Rattle.scan_model.specs.Lines.{is_blank, text_lines, without_comment}
use Rattle.scan_model.specs.Words.{is_filled, is_name_byte}
use Rattle.scan_model.specs.NetlistLines.{Token, name, open_sign, close_sign, comma, equals, stray, sign_of, begins_with_name, onto_name, tokens, Form, input, output, no_form, operand_names, definition_form, definition_of, port_of, form_of_tokens, form_of}
use Rattle.scan_model.specs.NetlistRules.{forms_of, nets_of, defined_names}
use Rattle.scan_model.specs.NetlistText.{circuit_of}
use Rattle.scan_model.specs.ScanText.{net_names}
use Rattle.bench_reader.proofs.CircuitOfLines.{names_after}
use Rattle.diag_report.specs.PredictedLog.{is_word_name}
use Rattle.diagnosis.proofs.Percents.{has_percent, some_field}

abbrev pub are_words : List (List ℕ) → Bool
are_words ws = list_all is_word_name ws

one_word : (w : List ℕ) → is_word_name w ≡ true → are_words (w ∷ []) ≡ true
one_word w e = and_from (is_word_name w) true e refl

-- ---- tokens

-- a name is a word of name bytes
abbrev token_is_word : Token → Bool
token_is_word (name w) = is_word_name w
token_is_word t = true

abbrev token_words : List Token → Bool
token_words ts = list_all token_is_word ts

word_more : (b : ℕ) (w : List ℕ) → is_name_byte b ≡ true → list_all is_name_byte w ≡ true → is_word_name (b ∷ w) ≡ true
word_more b w e more =
    let filled : is_filled (b ∷ w) ≡ true = not_from_false (length (b ∷ w) == 0) (ne_eqb (length (b ∷ w)) 0 (λ none. omega arith)) in
    and_from (is_filled (b ∷ w)) (list_all is_name_byte (b ∷ w)) filled (and_from (is_name_byte b) (list_all is_name_byte w) e more)

words_sign : (b : ℕ) → token_is_word (sign_of b) ≡ true
words_sign b =
    cond_both (b == 40) open_sign _ (λ t. token_is_word t ≡ true) (λ e. refl) (λ e.
    cond_both (b == 41) close_sign _ (λ t. token_is_word t ≡ true) (λ e. refl) (λ e.
    cond_both (b == 44) comma _ (λ t. token_is_word t ≡ true) (λ e. refl) (λ e.
    cond_both (b == 61) equals stray (λ t. token_is_word t ≡ true) (λ e. refl) (λ e. refl))))

-- a name of one byte before tokens
words_before : (b : ℕ) (ts : List Token) → is_name_byte b ≡ true → token_words ts ≡ true → token_words (name (b ∷ []) ∷ ts) ≡ true
words_before b ts e more = and_from (is_word_name (b ∷ [])) (token_words ts) (word_more b [] e refl) more

words_onto : (b : ℕ) (ts : List Token) → is_name_byte b ≡ true → token_words ts ≡ true → token_words (onto_name b ts) ≡ true
words_onto b (name w ∷ ts) e more =
    let both = and_parts (is_word_name w) (token_words ts) more in
    let bytes = and_parts (is_filled w) (list_all is_name_byte w) both.0 in
    and_from (is_word_name (b ∷ w)) (token_words ts) (word_more b w e bytes.1) both.1
words_onto b ts e more = words_before b ts e more

words_tokens : (bytes : List ℕ) → token_words (tokens bytes) ≡ true
words_tokens [] = refl
words_tokens (b ∷ bs) =
    let words = λ (ts : List Token). token_words ts ≡ true in
    cond_both (is_blank b) (tokens bs) _ words (λ e. words_tokens bs) (λ no_blank.
    cond_both (is_name_byte b) _ (sign_of b ∷ tokens bs) words
    (λ e. cond_both (begins_with_name bs) (onto_name b (tokens bs)) (name (b ∷ []) ∷ tokens bs) words
    (λ more. words_onto b (tokens bs) e (words_tokens bs))
    (λ last. words_before b (tokens bs) e (words_tokens bs)))
    (λ e. and_from (token_is_word (sign_of b)) (token_words (tokens bs)) (words_sign b) (words_tokens bs)))

-- ---- forms

words_form : (n word : List ℕ) (operands : Option (List (List ℕ))) → is_word_name n ≡ true → are_words (nets_of (definition_form n word operands)) ≡ true
words_form n word None e = refl
words_form n word (Some operands) e = one_word n e

words_definition : (n : List ℕ) (ts : List Token) → is_word_name n ≡ true → are_words (nets_of (definition_of n ts)) ≡ true
words_definition n (name word ∷ open_sign ∷ ts) e = words_form n word (operand_names ts) e
words_definition n ts e = refl

words_port : (word : List ℕ) (ts : List Token) → token_words ts ≡ true → are_words (nets_of (port_of word ts)) ≡ true
words_port word (name n ∷ close_sign ∷ []) e =
    let words = λ (f : Form). are_words (nets_of f) ≡ true in
    cond_both (str_eq_ignore_ascii_case word (codes "INPUT")) (input n) _ words (λ is. one_word n (and_parts (is_word_name n) true e).0) (λ other.
    cond_both (str_eq_ignore_ascii_case word (codes "OUTPUT")) (output n) no_form words (λ is. refl) (λ none. refl))
words_port word ts e = refl

words_nets : (ts : List Token) → token_words ts ≡ true → are_words (nets_of (form_of_tokens ts)) ≡ true
words_nets (name n ∷ equals ∷ ts) e = words_definition n ts (and_parts (is_word_name n) (token_words ts) e).0
words_nets (name word ∷ open_sign ∷ ts) e = words_port word ts (and_parts (is_word_name word) (token_words ts) e).1
words_nets ts e = refl

-- ---- lines

pub words_defined : (ls : List (List ℕ)) → are_words (defined_names (forms_of ls)) ≡ true
words_defined [] = refl
words_defined (line ∷ ls) =
    list_all-append is_word_name (nets_of (form_of line)) (defined_names (forms_of ls))
    ∙ and_from (are_words (nets_of (form_of line))) (are_words (defined_names (forms_of ls))) (words_nets (tokens (without_comment line)) (words_tokens (without_comment line))) (words_defined ls)

-- ---- no `%`

plain_byte : (b : ℕ) → is_name_byte b ≡ true → (b == 37) ≡ false
plain_byte b e = ne_eqb b 37 (λ same. let bad : is_name_byte 37 ≡ true = rw same at e in cc)

plain_word : (w : List ℕ) → list_all is_name_byte w ≡ true → has_percent w ≡ false
plain_word [] e = refl
plain_word (b ∷ w) e =
    let both = and_parts (is_name_byte b) (list_all is_name_byte w) e in
    or_from (b == 37) (has_percent w) (plain_byte b both.0) (plain_word w both.1)

plain_words : (ws : List (List ℕ)) → are_words ws ≡ true → some_field ws ≡ false
plain_words [] e = refl
plain_words (w ∷ ws) e =
    let both = and_parts (is_word_name w) (are_words ws) e in
    let bytes = and_parts (is_filled w) (list_all is_name_byte w) both.0 in
    or_from (has_percent w) (some_field ws) (plain_word w bytes.1) (plain_words ws both.1)

-- the nets of the circuit that a netlist stands for
pub plain_net_names : (bytes : List ℕ) → some_field (net_names (circuit_of bytes).nets) ≡ false
plain_net_names bytes = ap some_field (names_after [] 0 (forms_of (text_lines bytes))) ∙ plain_words (defined_names (forms_of (text_lines bytes))) (words_defined (text_lines bytes))
