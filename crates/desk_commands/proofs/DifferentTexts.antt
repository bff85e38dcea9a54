-- One more text among different ones.
use Rattle.std.proofs.Common.{◌≡◌, ◌∙◌, ℕ, Bool, true, false, List, [], ◌∷◌, ◌++◌, refl, sym, ap, append_assoc, append-nil}
use Rattle.std.specs.Prelude.{if◌then◌else◌}
use Rattle.scan_model.specs.Words.{has_word}
use Rattle.scan_model.specs.DieReport.{different, different_after}
use Rattle.diagnosis.proofs.DifferentTexts.{different_is, different_differ}
use Rattle.desk_commands.specs.Logs.{with_text}

-- the text, unless it was seen
abbrev unless_seen : Bool → List ℕ → List (List ℕ)
unless_seen b x = if b then [] else x ∷ []

-- what a text that was seen, or that wasn't, has behind it
abbrev behind : List (List ℕ) → List ℕ → Bool → List (List ℕ) → List (List ℕ)
behind seen y b xs = if b then different_after seen xs else y ∷ different_after (seen ++ y ∷ []) xs

more_after : (seen xs : List (List ℕ)) (x : List ℕ) → different_after seen (xs ++ x ∷ []) ≡ different_after seen xs ++ unless_seen (has_word (seen ++ different_after seen xs) x) x
more_after seen [] x = ap (λ (s : List (List ℕ)). unless_seen (has_word s x) x) (sym (append-nil seen))
more_after seen (y ∷ ys) x = go (has_word seen y) (more_after seen ys x) (more_after (seen ++ y ∷ []) ys x)
  where
    go : (b : Bool) → different_after seen (ys ++ x ∷ []) ≡ different_after seen ys ++ unless_seen (has_word (seen ++ different_after seen ys) x) x
        → different_after (seen ++ y ∷ []) (ys ++ x ∷ []) ≡ different_after (seen ++ y ∷ []) ys ++ unless_seen (has_word ((seen ++ y ∷ []) ++ different_after (seen ++ y ∷ []) ys) x) x
        → behind seen y b (ys ++ x ∷ []) ≡ behind seen y b ys ++ unless_seen (has_word (seen ++ behind seen y b ys) x) x
    go true later with_y = later
    go false later with_y =
        ap (λ zs. y ∷ zs) (with_y ∙ ap (λ (s : List (List ℕ)). different_after (seen ++ y ∷ []) ys ++ unless_seen (has_word s x) x) (append_assoc seen (y ∷ []) (different_after (seen ++ y ∷ []) ys)))

put_or_not : (b : Bool) (texts : List (List ℕ)) (x : List ℕ) → texts ++ unless_seen b x ≡ (if b then texts else texts ++ x ∷ [])
put_or_not true texts x = append-nil texts
put_or_not false texts x = refl

pub one_more_different : (texts : List (List ℕ)) (x : List ℕ) → different (texts ++ x ∷ []) ≡ with_text (different texts) x
one_more_different texts x = more_after [] texts x ∙ put_or_not (has_word (different texts) x) (different texts) x

-- the different texts are all different
pub different_again : (texts : List (List ℕ)) → different (different texts) ≡ different texts
different_again texts = different_is (different texts) (different_differ texts)
