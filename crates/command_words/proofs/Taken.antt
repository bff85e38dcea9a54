-- What is asked for, from the words that were found.
use Rattle.std.proofs.Common.{◌≡◌, ◌∙◌, Bool, true, false, cond, List, [], ◌∷◌, Option, Some, None, Bor, refl, ap, sym, subst, map, true≢false}
use Rattle.std.specs.Prelude.{find, option_map, unwrap_or}
use Rattle.clap.specs.Words.{Text}
use Rattle.command_words.specs.declared.table.Task.{Task}
use Rattle.command_words.specs.declared.table.Task.TheVariants.{Make, Demo, Serve}
use Rattle.command_words.specs.Table.{Form}
use Rattle.clap.specs.Words.{Row}
use Rattle.command_words.specs.declared.command.Command.{Command}
use Rattle.command_words.specs.RightWords.{form_named}
use Rattle.command_words.specs.Invocations.{Invocation, serving, IsSound, Service, asked, asked_by, asked_of, comes_to_page, is_serve, log_words, serves, service_by, word_for}
use Rattle.command_words.specs.ClapCommands.{asked_in, found_logs, found_word}
use Rattle.command_words.specs.CommandViews.{IsAskedBy, IsCommandFor, shown}
use Rattle.command_words.proofs.Sound.{sound}

-- an answer of `get_str`, with an empty word in place of none
pub text_given : (o : Option (Bor Text)) (none : Bor Text) (t : Option Text) → none.now ≡ [] → option_map (λ s. s.now) o ≡ t → (unwrap_or o none).now ≡ unwrap_or t []
text_given None none t empty is = empty ∙ ap (λ o. unwrap_or o []) is
text_given (Some s) none t empty is = ap (λ o. unwrap_or o []) is

-- what is found of a list is found of what it shows
pub find_shown : {X Y : Type 0} (shown : X → Y) (p : Y → Bool) (xs : List X) → option_map shown (find (λ x. p (shown x)) xs) ≡ find p (map shown xs)
find_shown shown p [] = refl
find_shown shown p (x ∷ xs) = go (p (shown x)) (find_shown shown p xs)
  where
    go : (b : Bool) → option_map shown (find (λ x. p (shown x)) xs) ≡ find p (map shown xs)
        → option_map shown (cond b (Some x) (find (λ x. p (shown x)) xs)) ≡ cond b (Some (shown x)) (find p (map shown xs))
    go true rest = refl
    go false rest = rest

-- ---- from the words that were found right

module _ (words : List Text) (f : Form) (named : form_named words ≡ Some f) where
  asked_is : asked words ≡ Some (asked_of words f)
  asked_is = ap (option_map (asked_of words)) named

  pub command_taken : (a : Invocation) → a ≡ asked_of words f → (o : Option Command) → IsCommandFor a o → IsAskedBy words o
  command_taken a is None none = ap comes_to_page (asked_is ∙ ap Some (sym is)) ∙ none
  command_taken a is (Some c) made = (asked_is ∙ ap Some (sym (made ∙ is)), subst IsSound (sym (made ∙ is)) (sound words f named))

  pub service_sound : is_serve words ≡ true → (rows : List Row) → asked_in rows f.task ≡ asked_of words f → (s : Service) → s ≡ service_by (found_word rows) (found_logs rows) → IsSound (serving s)
  service_sound serve rows same s is = subst IsSound (sym (go f.task refl (sym (ap serves asked_is) ∙ serve) same)) (sound words f named)
    where
      go : (t : Task) → f.task ≡ t → serves (Some (asked_by (word_for f words) (log_words f words) t)) ≡ true → asked_in rows t ≡ asked_by (word_for f words) (log_words f words) t → serving s ≡ asked_of words f
      go Serve at e found = ap serving is ∙ found ∙ sym (ap (asked_by (word_for f words) (log_words f words)) at)
      go (Make product profile) at e found = absurd (true≢false (sym e))
      go Demo at e found = absurd (true≢false (sym e))
