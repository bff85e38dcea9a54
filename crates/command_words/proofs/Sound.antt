-- What right words promise.
use Rattle.std.proofs.Common.{◌≡◌, ◌≤◌, ◌∙◌, ℕ, ◌+◌, Bool, true, false, List, [], ◌∷◌, Option, Some, None, refl, ap, sym, subst, map, true≢false}
use Rattle.std.specs.Prelude.{nat_le, is_some, unwrap_or, if◌then◌else◌}
use Rattle.std.specs.Str.{bytes_eq}
use Rattle.std.proofs.lemmas.Bool.{leb-true}
use Rattle.scan_model.specs.Words.{number_of}
use Rattle.command_words.specs.declared.argument.Argument.{Argument}
use Rattle.command_words.specs.declared.argument.Argument.TheVariants as argument
use Rattle.command_words.specs.declared.argument.Kind.{Kind}
use Rattle.command_words.specs.declared.argument.Kind.TheVariants.{Tag, Number}
use Rattle.command_words.specs.declared.table.Task.{Task}
use Rattle.command_words.specs.declared.table.Task.TheVariants.{Make, Demo, Serve}
use Rattle.command_words.specs.Words.{word_at}
use Rattle.command_words.specs.Arguments.{kind_of, name_of}
use Rattle.command_words.specs.Table.{Form, commands}
use Rattle.command_words.specs.RightWords.{are_right, form_named, is_right, is_within}
use Rattle.command_words.specs.Invocations.{IsSound, asked_by, asked_of, is_of_die, log_words, number_or_zero, word_among, word_for}
use Rattle.command_words.proofs.OfForms.{at_named, both, right_arguments}

-- what the word of an argument must be, where it is one of these
abbrev kind_among : List Argument → Argument → Option Kind
kind_among [] a = None
kind_among (b ∷ rest) a = if bytes_eq (name_of a) (name_of b) then Some (kind_of b) else kind_among rest a

word_right : (arguments : List Argument) (place : ℕ) (words : List (List ℕ)) (a : Argument) (k : Kind) → are_right arguments place words ≡ true → kind_among arguments a ≡ Some k
    → is_right k (word_among arguments place words a) ≡ true
word_right [] place words a k right is = absurd (true≢false (sym (ap (λ o. is_some o) is)))
word_right (b ∷ rest) place words a k right is = go (bytes_eq (name_of a) (name_of b)) (word_right rest (place + 1) words a k) is
  where
    go : (same : Bool) → (are_right rest (place + 1) words ≡ true → kind_among rest a ≡ Some k → is_right k (word_among rest (place + 1) words a) ≡ true)
        → (if same then Some (kind_of b) else kind_among rest a) ≡ Some k → is_right k (if same then word_at words place else word_among rest (place + 1) words a) ≡ true
    go true more e = subst (λ q. is_right q (word_at words place) ≡ true) (ap (λ o. unwrap_or o k) e) (both _ _ right).0
    go false more e = more (both (is_right (kind_of b) (word_at words place)) _ right).1 e

bounds : (least most : ℕ) (o : Option ℕ) → is_within least most o ≡ true → (least ≤ number_or_zero o) × (number_or_zero o ≤ most)
bounds least most None e = absurd (true≢false (sym e))
bounds least most (Some n) e = let ends = both (nat_le least n) (nat_le n most) e in (leb-true least n ends.0, leb-true n most ends.1)

abbrev makes_for_die : Task → Bool
makes_for_die (Make product profile) = is_of_die product
makes_for_die Demo = false
makes_for_die Serve = false

abbrev tries : Task → Bool
tries (Make product profile) = false
tries Demo = true
tries Serve = false

abbrev serves : Task → Bool
serves (Make product profile) = false
serves Demo = false
serves Serve = true

-- each of the commands that do this takes the argument, whose word must be this
abbrev Takes : (Task → Bool) → Argument → Kind → Type 0
Takes does a k = map (λ f. if does f.task then kind_among f.arguments a else Some k) commands ≡ map (λ f. Some k) commands

takes_design : Takes makes_for_die argument.Design Tag
takes_design = refl

takes_die : Takes makes_for_die argument.Die Tag
takes_die = refl

takes_blocks : Takes tries argument.Blocks (Number 1 200)
takes_blocks = refl

takes_workers : Takes serves argument.Workers (Number 1 64)
takes_workers = refl

module _ (words : List (List ℕ)) (f : Form) (named : form_named words ≡ Some f) where
  taken_right : (does : Task → Bool) (a : Argument) (k : Kind) → Takes does a k → does f.task ≡ true → is_right k (word_for f words a) ≡ true
  taken_right does a k takes is =
      let kind = at_named words f named (λ f. if does f.task then kind_among f.arguments a else Some k) (λ f. Some k) takes in
      word_right f.arguments 1 words a k (right_arguments words f named) (sym (ap (λ b. if b then kind_among f.arguments a else Some k) is) ∙ kind)

  sound_by : (t : Task) → f.task ≡ t → IsSound (asked_by (word_for f words) (log_words f words) t)
  sound_by (Make product profile) is = λ of_die.
      let does : makes_for_die f.task ≡ true = ap makes_for_die is ∙ of_die in
      (taken_right makes_for_die argument.Design Tag takes_design does, taken_right makes_for_die argument.Die Tag takes_die does)
  sound_by Demo is = bounds 1 200 (number_of (word_for f words argument.Blocks)) (taken_right tries argument.Blocks (Number 1 200) takes_blocks (ap tries is))
  sound_by Serve is = bounds 1 64 (number_of (word_for f words argument.Workers)) (taken_right serves argument.Workers (Number 1 64) takes_workers (ap serves is))

  pub sound : IsSound (asked_of words f)
  sound = sound_by f.task refl
