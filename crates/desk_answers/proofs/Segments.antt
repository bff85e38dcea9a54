-- What the parameters took of an ASCII path is text, so that each is shown as it is.
use Rattle.std.proofs.Common.{◌≡◌, ℕ, ◌-◌, List, [], ◌∷◌, Bool, true, false, cond, map, length, take, drop, ap, subst, refl, arith}
use Rattle.std.specs.Prelude.{All, IsUtf8, ◌&&◌, leb}
use Rattle.std.specs.Str.{IsAscii}
use Rattle.std.proofs.lemmas.Str.{IsUtf8-from_ascii, IsAscii-take, IsAscii-drop}
use Rattle.std.proofs.lemmas.List.Elements.{All-head, All-tail, All-cons, All-nil}
use Rattle.std.proofs.lemmas.Iterator.{YieldsList}
use Rattle.std.proofs.lemmas.Iterator.Splits.{YieldsList-from_shown_while}
use Rattle.matchit.specs.Params.{walk, part_of, wild_from, wild_stop, after_token, GivesPair}

abbrev pub Parameter : Type 0
Parameter = List ℕ × List ℕ

abbrev pub IsText : Parameter → Type 0
IsText parameter = IsUtf8 parameter.1

cut : (b : Bool) (xs : List ℕ) → IsAscii xs → IsUtf8 (cond b xs [])
cut true xs ascii = IsUtf8-from_ascii xs ascii
cut false xs ascii = IsUtf8-from_ascii [] (λ i. omega arith)

part : (path : List ℕ) (from to : ℕ) → IsAscii path → IsUtf8 (part_of path from to)
part path from to ascii =
    cut (leb from to && leb to (length path)) (take (to - from) (drop from path)) (IsAscii-take (drop from path) (to - from) (IsAscii-drop path from ascii))

pub walk_texts : (pattern text path : List ℕ) (names : List (ℕ × ℕ)) (token at : ℕ) → IsAscii path → All IsText (walk pattern text path names token at)
walk_texts pattern text path [] token at ascii = All-nil IsText
walk_texts pattern text path (name ∷ rest) token at ascii =
    let wild = wild_from (drop token pattern) (length path) token at in
    let stop = wild_stop pattern wild.0 path wild.1 in
    All-cons IsText _ _ (part path wild.1 stop ascii) (walk_texts pattern text path rest (after_token wild.0) stop ascii)

-- the second parts of what an iterator over parameters gives
pub segments_given : {A : Type 0} (view : A → Parameter) (s : List Parameter) → All IsText s
    → YieldsList (GivesPair view) (λ x. (view x).1) s (map (λ parameter. parameter.1) s)
segments_given {A} view s texts =
    YieldsList-from_shown_while (GivesPair view) (λ x. (view x).1) (map (λ parameter. parameter.1)) (All IsText)
    (λ s t texts none. ap (λ (xs : List Parameter). length (map (λ parameter. parameter.1) xs)) none)
    (λ s x t texts given. let all = subst (All IsText) given.1 texts in (All-tail IsText given.0 t all, rw (given.1, given.3 (All-head IsText given.0 t all)) refl))
    s texts

-- an iterator over all parameters of an ASCII path gives the segments that they hold
pub segments_taken : {A : Type 0} (view : A → Parameter) (pattern text path : List ℕ) (names : List (ℕ × ℕ)) (s : List Parameter) → IsAscii path
    → s ≡ walk pattern text path names 0 0
    → YieldsList (GivesPair view) (λ x. (view x).1) s (map (λ parameter. parameter.1) (walk pattern text path names 0 0))
segments_taken view pattern text path names s ascii e =
    rw e (segments_given view (walk pattern text path names 0 0) (walk_texts pattern text path names 0 0 ascii))
