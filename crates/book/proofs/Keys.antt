-- Different dies have different keys.
use Rattle.std.proofs.Common.{◌≡◌, ◌∙◌, ap, ℕ, List, [], ◌∷◌, ◌++◌, length, Bool, true, false, ◌&&◌, refl}
use Rattle.std.specs.Prelude.{◌||◌, ◌==◌, nat_lt}
use Rattle.std.specs.List.{list_all}
use Rattle.std.specs.Str.{bytes_eq}
use Rattle.std.specs.Cmp.Lexicographic.{bytes_decides}
use Rattle.scan_model.specs.Words.{is_tag, is_tag_byte, is_letter, is_digit}
use Rattle.book.specs.Dies.{die_key, is_die, DieFacts}
use Rattle.book.proofs.Growing.{and_left, and_right, both}

tag_byte : (l d o : Bool) → (l || d) ≡ true → (l || (d || o)) ≡ true
tag_byte true d o e = refl
tag_byte false true o e = refl
tag_byte false false o e = absurd cc

tag_bytes : (d : List ℕ) → is_tag d ≡ true → list_all is_tag_byte d ≡ true
tag_bytes [] e = refl
tag_bytes (b ∷ bs) e =
    both (is_tag_byte b) (list_all is_tag_byte bs)
    (tag_byte (is_letter b) (is_digit b) ((b == 95) || ((b == 45) || (b == 46))) (and_left (is_letter b || is_digit b) (list_all is_tag_byte bs && nat_lt (length bs) 64) e))
    (and_left (list_all is_tag_byte bs) (nat_lt (length bs) 64) (and_right (is_letter b || is_digit b) (list_all is_tag_byte bs && nat_lt (length bs) 64) e))

no_slash : (b : ℕ) (bs : List ℕ) → list_all is_tag_byte (b ∷ bs) ≡ true → b ≡ 47 → ⊥
no_slash b bs e is = let t : is_tag_byte b ≡ true = and_left (is_tag_byte b) (list_all is_tag_byte bs) e in let f : is_tag_byte b ≡ false = rw is refl in absurd cc

same_parts : (d e x y : List ℕ) → list_all is_tag_byte d ≡ true → list_all is_tag_byte e ≡ true → d ++ 47 ∷ x ≡ e ++ 47 ∷ y → (d ≡ e) × (x ≡ y)
same_parts [] [] x y td te same = let more : x ≡ y = cc in (refl, more)
same_parts [] (c ∷ cs) x y td te same = let is : c ≡ 47 = cc in absurd (no_slash c cs te is)
same_parts (b ∷ bs) [] x y td te same = let is : b ≡ 47 = cc in absurd (no_slash b bs td is)
same_parts (b ∷ bs) (c ∷ cs) x y td te same =
    let first : b ≡ c = cc in
    let rest : bs ++ 47 ∷ x ≡ cs ++ 47 ∷ y = cc in
    let parts = same_parts bs cs x y (and_right (is_tag_byte b) (list_all is_tag_byte bs) td) (and_right (is_tag_byte c) (list_all is_tag_byte cs) te) rest in
    (ap (λ z. z ∷ bs) first ∙ ap (λ zs. c ∷ zs) parts.0, parts.1)

pub key_parts : (d e x y : List ℕ) → is_tag d ≡ true → is_tag e ≡ true → die_key d x ≡ die_key e y → (d ≡ e) × (x ≡ y)
key_parts d e x y td te same = same_parts d e x y (tag_bytes d td) (tag_bytes e te) same

pub is_die_names : (d x : List ℕ) (k : DieFacts) → is_die d x k ≡ true → (k.design ≡ d) × (k.die ≡ x)
is_die_names d x k e = ((bytes_decides k.design d).0 (and_left (bytes_eq k.design d) (bytes_eq k.die x) e), (bytes_decides k.die x).0 (and_right (bytes_eq k.design d) (bytes_eq k.die x) e))

pub is_die_itself : (d x : List ℕ) (k : DieFacts) → k.design ≡ d → k.die ≡ x → is_die d x k ≡ true
is_die_itself d x k e f = both (bytes_eq k.design d) (bytes_eq k.die x) ((bytes_decides k.design d).1 e) ((bytes_decides k.die x).1 f)
