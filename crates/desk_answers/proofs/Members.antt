-- What the accessors of a JSON value say of its data.
use Rattle.std.proofs.Common.{◌≡◌, ◌∙◌, ℕ, suc, List, [], ◌∷◌, length, Some, ap, refl, map, String}
use Rattle.std.proofs.lemmas.List.{length-map}
use Rattle.std.specs.Prelude.{option_and_then}
use Rattle.std.specs.declared.alloc.Global.{Global}
use Rattle.serde_json.specs.Data.{Num, unsigned, negative, float, Data, null, boolean, number, string, array, object, Members}
use Rattle.serde_json.specs.Find.{as_object, as_number, as_u64, as_str}
use Rattle.serde_json.specs.View.{view, members_of, members_view}
use Rattle.serde_json.specs.declared.value.Value.{Value}
use Rattle.desk_answers.specs.SignBodies.{members_len}

of_list : (xs : List (String Global × Data)) → members_len (members_of xs) ≡ length xs
of_list [] = refl
of_list (x ∷ xs) = ap suc (of_list xs)

pub members_view_len : (xs : List (String Global × Value)) → members_len (members_view xs) ≡ length xs
members_view_len xs = of_list (map (λ m. (m.0, view m.1)) xs) ∙ rw length-map refl

pub is_object : (d : Data) (ms : Members) → Some ms ≡ as_object d → d ≡ object ms
is_object null ms e = absurd (cc)
is_object (boolean b) ms e = absurd (cc)
is_object (number n) ms e = absurd (cc)
is_object (string s) ms e = absurd (cc)
is_object (array ds) ms e = absurd (cc)
is_object (object os) ms e = cc

unsigned_is : (n : Num) (k : ℕ) → Some k ≡ as_u64 n → n ≡ unsigned k
unsigned_is (unsigned n) k e = cc
unsigned_is (negative z) k e = absurd (cc)
unsigned_is (float x) k e = absurd (cc)

pub is_unsigned : (d : Data) (k : ℕ) → Some k ≡ option_and_then as_u64 (as_number d) → d ≡ number (unsigned k)
is_unsigned null k e = absurd (cc)
is_unsigned (boolean b) k e = absurd (cc)
is_unsigned (number n) k e = ap number (unsigned_is n k e)
is_unsigned (string s) k e = absurd (cc)
is_unsigned (array ds) k e = absurd (cc)
is_unsigned (object os) k e = absurd (cc)

pub is_string : (d : Data) (s : List ℕ) → Some s ≡ as_str d → d ≡ string s
is_string null s e = absurd (cc)
is_string (boolean b) s e = absurd (cc)
is_string (number n) s e = absurd (cc)
is_string (string t) s e = cc
is_string (array ds) s e = absurd (cc)
is_string (object os) s e = absurd (cc)
