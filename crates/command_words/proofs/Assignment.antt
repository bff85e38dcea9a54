-- Which word each argument has.
use Rattle.std.proofs.Common.{◌≡◌, ◌∙◌, ℕ, zero, suc, ◌≤◌, ◌<◌, ◌+◌, Bool, List, [], ◌∷◌, ◌++◌, length, true, false, refl, ap, ap₂, sym, codes, fold, map, drop, arith, append_assoc, append-nil, Option, Some, None, true≢false, drop-cons, drop_of_length-le, eqb-true}
use Rattle.std.specs.Prelude.{IsSomeAnd, if◌then◌else◌}
use Rattle.std.specs.List.{list_all}
use Rattle.std.proofs.lemmas.Bool.{leb-true}
use Rattle.std.proofs.lemmas.List.Sums.{fold-append}
use Rattle.clap.specs.Words.{Row, Rule, Text, built, is_simple, matches_of, rule_of}
use Rattle.clap.specs.Simple.{names_of, argument_words}
use Rattle.clap.specs.declared.builder.arg.Arg.{Arg}
use Rattle.clap.specs.declared.builder.range.ValueRange.{ValueRange}
use Rattle.clap.specs.Walk.{Names, Walk, finished, nothing_held, rows_after, walk_from}
use Rattle.clap.proofs.OnLiterals.{clap_on_literals}
use Rattle.command_words.specs.Words.{is_plain_word, word_at}
use Rattle.command_words.specs.Table.{Form, commands}
use Rattle.command_words.specs.RightWords.{fits_count, form_named}
use Rattle.command_words.specs.Invocations.{Invocation, trying, asked_by, asked_of, log_words, word_for}
use Rattle.command_words.specs.ClapCommands.{app_of_form, asked_in}
use Rattle.command_words.proofs.PlainWords.{plain_rows, rows_taken, taken}
use Rattle.command_words.proofs.OfForms.{at_named, right_count, right_plain}

some_is : (o : Option ValueRange) (k : ValueRange) → IsSomeAnd o (λ v. v ≡ k) → o ≡ Some k
some_is None k h = absurd h
some_is (Some v) k h = ap Some h

-- an argument `a` that gets another number of words is `r`
pub with_range : (a r : Arg) (k : ValueRange) (rule : Rule) → r ≡ record a { num_vals = r.num_vals } → IsSomeAnd r.num_vals (λ v. v ≡ k) → rule_of a ≡ rule
    → rule_of r ≡ record rule { range = Some k }
with_range a r k rule same is plain = ap rule_of same ∙ ap₂ (λ (q : Rule) v. record q { range = v }) plain (some_is r.num_vals k is)

-- ---- all commands of the table

abbrev rules : Form → List Rule
rules f = (built (app_of_form f)).top.rules

abbrev count : Form → ℕ
count f = length f.arguments

all_simple : map (λ f. is_simple (app_of_form f)) commands ≡ map (λ f. true) commands
unfolding clap_on_literals
all_simple = refl

all_alone : map (λ f. names_of (built (app_of_form f))) commands ≡ map (λ f. []) commands
unfolding clap_on_literals
all_alone = refl

all_begun_by_word : map (λ f. (app_of_form f).top.no_binary_name) commands ≡ map (λ f. false) commands
all_begun_by_word = refl

-- so many words from a place on
abbrev words_at : List Text → ℕ → ℕ → List Text
words_at words place zero = []
words_at words place (suc n) = word_at words place ∷ words_at words (place + 1) n

parted : (words : List Text) (place n : ℕ) → place + n ≤ length words → drop place words ≡ words_at words place n ++ drop (place + n) words
parted words place zero within = let same : place ≡ place + 0 = omega arith in ap (λ (k : ℕ). drop k words) same
parted words place (suc n) within =
    let lt : place < length words = omega (arith, within) in
    let next : suc place ≡ place + 1 = omega arith in
    let more : (place + 1) + n ≤ length words = omega (arith, within) in
    let end : (place + 1) + n ≡ place + suc n = omega arith in
    drop-cons words place [] lt
    ∙ ap (λ ws. word_at words place ∷ ws)
    (ap (λ (k : ℕ). drop k words) next ∙ parted words (place + 1) n more ∙ ap (λ (k : ℕ). words_at words (place + 1) n ++ drop k words) end)

then_is : {X : Type 0} (b : Bool) (x y other : X) → b ≡ true → (if b then x else other) ≡ (if b then y else other) → x ≡ y
then_is true x y other e same = same
then_is false x y other e same = absurd (true≢false (sym e))

else_is : {X : Type 0} (b : Bool) (x y other : X) → b ≡ false → (if b then other else x) ≡ (if b then other else y) → x ≡ y
else_is false x y other e same = same
else_is true x y other e same = absurd (true≢false e)

exact_count : (f : Form) (n : ℕ) → f.has_logs ≡ false → fits_count f n ≡ true → n ≡ count f + 1
exact_count f n none fit = eqb-true n (count f + 1) (rw none at fit)

least_count : (f : Form) (n : ℕ) → f.has_logs ≡ true → fits_count f n ≡ true → count f + 2 ≤ n
least_count f n some fit = leb-true (count f + 2) n (rw some at fit)

-- stands for the commands that a table isn't about
abbrev nothing : Invocation
nothing = trying 0 0

module _ (words : List Text) where
  -- ---- without logs

  all_asked : map (λ f. if f.has_logs then nothing else asked_in (rows_taken (rules f) (words_at words 1 (count f))) f.task) commands ≡ map (λ f. if f.has_logs then nothing else asked_of words f) commands
  unfolding clap_on_literals
  all_asked = refl

  -- ---- with logs: the walk up to the first, with these logs in its place

  abbrev begun : Form → Text → Walk
  begun f l = fold (taken (rules f)) (walk_from nothing_held) (words_at words 1 (count f) ++ l ∷ [])

  abbrev so_far : Form → List Text → Walk
  so_far f logs = record (begun f []) { held = record (begun f []).held { pending = Some (codes "log", logs) } }

  abbrev rows_so_far : Form → List Text → List Row
  rows_so_far f logs = finished (rules f) (so_far f logs).held

  all_first : (l : Text) → map (λ f. if f.has_logs then begun f l else walk_from nothing_held) commands ≡ map (λ f. if f.has_logs then so_far f (l ∷ []) else walk_from nothing_held) commands
  unfolding clap_on_literals
  all_first l = refl

  all_next : (l : Text) (logs : List Text)
      → map (λ f. if f.has_logs then taken (rules f) (so_far f logs) l else walk_from nothing_held) commands
      ≡ map (λ f. if f.has_logs then so_far f (logs ++ l ∷ []) else walk_from nothing_held) commands
  unfolding clap_on_literals
  all_next l logs = refl

  all_asked_of_logs : (l : Text) (ls : List Text)
      → map (λ f. if f.has_logs then asked_in (rows_so_far f (l ∷ ls)) f.task else nothing) commands
      ≡ map (λ f. if f.has_logs then asked_by (word_for f words) (l ∷ ls) f.task else nothing) commands
  unfolding clap_on_literals
  all_asked_of_logs l ls = refl

  -- ---- the command that is named

  module _ (f : Form) (named : form_named words ≡ Some f) where
    pub app_is_simple : is_simple (app_of_form f) ≡ true
    app_is_simple = at_named words f named (λ f. is_simple (app_of_form f)) (λ f. true) all_simple

    -- what is found of plain words
    found_of_plain : (ws : List Text) → 1 ≤ length ws → list_all is_plain_word ws ≡ true → matches_of (app_of_form f) ws ≡ rows_taken (rules f) (drop 1 ws)
    found_of_plain [] some plain = absurd (omega (arith, some))
    found_of_plain (w ∷ ws) some plain =
        let alone : names_of (built (app_of_form f)) ≡ [] = at_named words f named (λ f. names_of (built (app_of_form f))) (λ f. []) all_alone in
        let first : (app_of_form f).top.no_binary_name ≡ false = at_named words f named (λ f. (app_of_form f).top.no_binary_name) (λ f. false) all_begun_by_word in
        ap (λ (ns : Names). rows_after (rules f) ns (argument_words (app_of_form f) (w ∷ ws))) alone
        ∙ ap (λ (b : Bool). rows_after (rules f) [] (if b then w ∷ ws else ws)) first
        ∙ plain_rows (rules f) w ws plain

    found : 1 ≤ length words → matches_of (app_of_form f) words ≡ rows_taken (rules f) (drop 1 words)
    found some = found_of_plain words some (right_plain words f named)

    without_logs : f.has_logs ≡ false → asked_in (matches_of (app_of_form f) words) f.task ≡ asked_of words f
    without_logs none =
        let exact = exact_count f (length words) none (right_count words f named) in
        let short : length words ≤ 1 + count f = omega (arith, exact) in
        let past = drop_of_length-le words short in
        let all = parted words 1 (count f) (omega (arith, exact)) ∙ ap (λ ws. words_at words 1 (count f) ++ ws) past ∙ append-nil (words_at words 1 (count f)) in
        ap (λ rows. asked_in rows f.task) (found (omega (arith, exact)) ∙ ap (rows_taken (rules f)) all)
        ∙ else_is f.has_logs _ _ nothing none
        (at_named words f named (λ f. if f.has_logs then nothing else asked_in (rows_taken (rules f) (words_at words 1 (count f))) f.task) (λ f. if f.has_logs then nothing else asked_of words f) all_asked)

    module _ (some : f.has_logs ≡ true) where
      first_log : (l : Text) → begun f l ≡ so_far f (l ∷ [])
      first_log l = then_is f.has_logs _ _ (walk_from nothing_held) some
          (at_named words f named (λ f. if f.has_logs then begun f l else walk_from nothing_held) (λ f. if f.has_logs then so_far f (l ∷ []) else walk_from nothing_held) (all_first l))

      one_more : (l : Text) (logs : List Text) → taken (rules f) (so_far f logs) l ≡ so_far f (logs ++ l ∷ [])
      one_more l logs = then_is f.has_logs _ _ (walk_from nothing_held) some
          (at_named words f named (λ f. if f.has_logs then taken (rules f) (so_far f logs) l else walk_from nothing_held) (λ f. if f.has_logs then so_far f (logs ++ l ∷ []) else walk_from nothing_held) (all_next l logs))

      all_more : (logs ls : List Text) → fold (taken (rules f)) (so_far f logs) ls ≡ so_far f (logs ++ ls)
      all_more logs [] = ap (so_far f) (sym (append-nil logs))
      all_more logs (x ∷ xs) =
          ap (λ (w : Walk). fold (taken (rules f)) w xs) (one_more x logs) ∙ (all_more (logs ++ x ∷ []) xs ∙ ap (so_far f) (append_assoc logs (x ∷ []) xs))

      rows_are : (l : Text) (ls : List Text) → rows_taken (rules f) (words_at words 1 (count f) ++ l ∷ ls) ≡ rows_so_far f (l ∷ ls)
      rows_are l ls =
          let before = words_at words 1 (count f) in
          ap (λ (w : Walk). finished (rules f) w.held)
          (ap (λ (ws : List Text). fold (taken (rules f)) (walk_from nothing_held) ws) (sym (append_assoc before (l ∷ []) ls))
          ∙ fold-append (taken (rules f)) (walk_from nothing_held) (before ++ l ∷ []) ls
          ∙ ap (λ (w : Walk). fold (taken (rules f)) w ls) (first_log l) ∙ all_more (l ∷ []) ls)

      with_logs_too : asked_in (matches_of (app_of_form f) words) f.task ≡ asked_of words f
      with_logs_too =
          let least = least_count f (length words) some (right_count words f named) in
          let l = word_at words (1 + count f) in
          let ls = drop (suc (1 + count f)) words in
          let left : drop (1 + count f) words ≡ l ∷ ls = drop-cons words (1 + count f) [] (omega (arith, least)) in
          let all = parted words 1 (count f) (omega (arith, least)) ∙ ap (λ ws. words_at words 1 (count f) ++ ws) left in
          let next : 1 + count f ≡ count f + 1 = omega arith in
          let logs : l ∷ ls ≡ log_words f words = sym left ∙ ap (λ (k : ℕ). drop k words) next ∙ sym (ap (λ b. if b then drop (count f + 1) words else []) some) in
          ap (λ rows. asked_in rows f.task) (found (omega (arith, least)) ∙ ap (rows_taken (rules f)) all ∙ rows_are l ls)
          ∙ then_is f.has_logs _ _ nothing some
          (at_named words f named (λ f. if f.has_logs then asked_in (rows_so_far f (l ∷ ls)) f.task else nothing) (λ f. if f.has_logs then asked_by (word_for f words) (l ∷ ls) f.task else nothing) (all_asked_of_logs l ls))
          ∙ ap (λ logs. asked_by (word_for f words) logs f.task) logs

    pub all_assigned : asked_in (matches_of (app_of_form f) words) f.task ≡ asked_of words f
    all_assigned = go f.has_logs refl
      where
        go : (b : Bool) → f.has_logs ≡ b → asked_in (matches_of (app_of_form f) words) f.task ≡ asked_of words f
        go true some = with_logs_too some
        go false none = without_logs none
