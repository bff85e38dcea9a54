-- What is kept of the die of given names.
use Rattle.std.proofs.Common.{◌≡◌, ◌<◌, ◌∙◌, sym, ap, subst, ℕ, List, [], ◌∷◌, length, get_or, Some, None, refl}
use Rattle.std.specs.Prelude.{slice_get}
use Rattle.std.specs.List.{position, position_or_len, find}
use Rattle.std.specs.declared.alloc.Global.{Global}
use Rattle.std.specs.declared.sync.Arc.{Arc}
use Rattle.std.proofs.lemmas.List.Folds.{find_at}
use Rattle.std.proofs.lemmas.Option.{slice_get_past, slice_get-get_or}
use Rattle.desk_outside.specs.declared.deed.Deed.{Deed}
use Rattle.die_entries.specs.declared.sign.Sign.{Sign as SignOff}
use Rattle.diagnosis.specs.Designs.{ReadLogFacts, texts_of}
use Rattle.book.specs.Deeds.{die_logs, die_signs}
use Rattle.book.specs.Lookups.{IsDieIn}
use Rattle.book.specs.Dies.{DieFacts, bare_die, is_die, kept_logs, kept_signs, logs_in, signs_in}
use Rattle.book.specs.State.{AreOfDie}
use Rattle.die_entries.specs.Entries.{arc_values}
use Rattle.book.proofs.NumberedDesign.{position_at, position_past}
use Rattle.book.proofs.Written.{found_before}

-- a die without logs
pub empty_die : (deeds : List Deed) (d x : List ℕ) (logs : List ReadLogFacts) (signs : List SignOff) → AreOfDie deeds d x logs signs → logs ≡ [] → (die_logs deeds d x ≡ []) × (die_signs deeds d x ≡ [])
empty_die deeds d x logs signs was none = (sym was.texts ∙ ap texts_of none, sym was.sign_offs ∙ was.unsigned none)

module _ (deeds : List Deed) (dies : List DieFacts) (d x : List ℕ) (was : AreOfDie deeds d x (kept_logs dies d x) (kept_signs dies d x)) where
  pub no_die : position (is_die d x) dies ≡ None → (die_logs deeds d x ≡ []) × (die_signs deeds d x ≡ [])
  no_die e =
      let none : find (is_die d x) dies ≡ None = find_at (is_die d x) dies ∙ slice_get_past dies (position_or_len (is_die d x) dies) (position_past (is_die d x) dies e) in
      empty_die deeds d x (kept_logs dies d x) (kept_signs dies d x) was (ap logs_in none)

  pub of_found : (j : ℕ) (k : DieFacts) → position (is_die d x) dies ≡ Some j → slice_get dies j ≡ Some k → AreOfDie deeds d x k.logs k.signs
  of_found j k e at = subst (λ o. AreOfDie deeds d x (logs_in o) (signs_in o)) (found_before dies d x j k k e at refl refl) was

-- there is a die at a place that was found
pub die_there : (dies : List DieFacts) (d x : List ℕ) (j : ℕ) → position (is_die d x) dies ≡ Some j → (k : DieFacts) × (slice_get dies j ≡ Some k)
die_there dies d x j e = (get_or dies j (bare_die d x), slice_get-get_or dies j (bare_die d x) (position_at (is_die d x) dies j e).1)

pub no_values : {X : Type 0} (xs : List (Arc X Global)) → length xs ≡ 0 → arc_values xs ≡ []
no_values [] e = refl
no_values (x ∷ xs) e = absurd cc

pub is_die_in : (deeds : List Deed) (d x : List ℕ) (logs : List ReadLogFacts) (signs : List SignOff) → AreOfDie deeds d x logs signs → 0 < length logs → IsDieIn deeds d x logs signs
is_die_in deeds d x logs signs was some = record { texts = was.texts; sign_offs = was.sign_offs; some = some; each = was.each }
