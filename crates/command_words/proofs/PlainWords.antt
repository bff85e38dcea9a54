-- A word that is plain is taken as a value: it is no flag, no `--` and no subcommand.
use Rattle.std.proofs.Common.{◌≡◌, ◌∙◌, ℕ, ◌==◌, ◌&&◌, Bool, cond, true, false, not, List, [], ◌∷◌, Option, Some, None, refl, ap, sym, fold, true≢false}
use Rattle.std.specs.List.{list_all}
use Rattle.clap.specs.Words.{Row, Rule, Text}
use Rattle.clap.specs.Walk.{Held, Step, Walk, Waiting, idle, option, positional, value, after_step, arg_by_index, finished, is_multiple, nothing_held, rows_after, to_positional, walked, walked_from, walk_from, word_met}
use Rattle.clap.proofs.WalkLemmas.{both}
use Rattle.command_words.specs.Words.{is_plain_word}

-- no option waits for the word
abbrev pub is_ready : Waiting → Bool
is_ready (option id) = false
is_ready _ = true

-- the walk after one more word, which is a value
abbrev pub taken : List Rule → Walk → Text → Walk
taken rules w word = to_positional rules (arg_by_index rules w.position) word w w.held

-- what a walk over values finds
abbrev pub rows_taken : List Rule → List Text → List Row
rows_taken rules words = finished rules (fold (taken rules) (walk_from nothing_held) words).held

first_is_no_dash : (b : ℕ) (bs : Text) → is_plain_word (b ∷ bs) ≡ true → (b == 45) ≡ false
first_is_no_dash b bs e = go _ (b == 45) e
  where
    go : (c d : Bool) → (c && not d) ≡ true → d ≡ false
    go c false e = refl
    go true true e = absurd (true≢false (sym e))
    go false true e = absurd (true≢false (sym e))

no_flag : (rules : List Rule) (is_trailing : Bool) (waiting : Waiting) (position : ℕ) (word : Text) (h : Held) → is_plain_word word ≡ true → is_ready waiting ≡ true
    → word_met rules [] is_trailing waiting position word h ≡ (h, value)
no_flag rules true waiting position word h plain ready = refl
no_flag rules false waiting position [] h plain ready = absurd (true≢false (sym plain))
no_flag rules false idle position (b ∷ bs) h plain ready = rw (first_is_no_dash b bs plain) (rw (first_is_no_dash b bs plain) refl)
no_flag rules false positional position (b ∷ bs) h plain ready = rw (first_is_no_dash b bs plain) (rw (first_is_no_dash b bs plain) refl)
no_flag rules false (option id) position (b ∷ bs) h plain ready = absurd (true≢false (sym ready))

one_taken : (rules : List Rule) (w : Walk) (word : Text) → w.stopped ≡ None → is_ready w.waiting ≡ true → is_plain_word word ≡ true
    → walked rules [] w word ≡ taken rules w word
unfolding walked
one_taken rules w word none ready plain =
    ap (λ s. walked_from rules [] s w word) none
    ∙ ap (λ (m : Held × Step). after_step rules word w m.0 m.1) (no_flag rules w.is_trailing w.waiting w.position word w.held plain ready)

goes_on : (rules : List Rule) (a : Option Rule) (word : Text) (w : Walk) → w.stopped ≡ None → (to_positional rules a word w w.held).stopped ≡ None
goes_on rules None word w none = none
goes_on rules (Some a) word w none = refl

stays_ready : (rules : List Rule) (a : Option Rule) (word : Text) (w : Walk) → is_ready w.waiting ≡ true → is_ready (to_positional rules a word w w.held).waiting ≡ true
stays_ready rules None word w ready = ready
stays_ready rules (Some a) word w ready = go (is_multiple a)
  where
    go : (b : Bool) → is_ready (cond b positional idle) ≡ true
    go true = refl
    go false = refl

all_taken : (rules : List Rule) (words : List Text) (w : Walk) → w.stopped ≡ None → is_ready w.waiting ≡ true → list_all is_plain_word words ≡ true
    → fold (walked rules []) w words ≡ fold (taken rules) w words
all_taken rules [] w none ready plain = refl
all_taken rules (x ∷ xs) w none ready plain =
    let a = arg_by_index rules w.position in
    let plains = both (is_plain_word x) (list_all is_plain_word xs) plain in
    ap (λ v. fold (walked rules []) v xs) (one_taken rules w x none ready plains.0)
    ∙ all_taken rules xs (taken rules w x) (goes_on rules a x w none) (stays_ready rules a x w ready) plains.1

pub plain_rows : (rules : List Rule) (first : Text) (words : List Text) → list_all is_plain_word (first ∷ words) ≡ true → rows_after rules [] words ≡ rows_taken rules words
plain_rows rules first words plain =
    ap (λ (w : Walk). finished rules w.held) (all_taken rules words (walk_from nothing_held) refl refl (both (is_plain_word first) (list_all is_plain_word words) plain).1)
