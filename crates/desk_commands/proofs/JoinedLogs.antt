-- Logs that are joined as they are read.
use Rattle.std.proofs.Common.{◌≡◌, ◌∙◌, ◌+◌, ℕ, List, [], ◌∷◌, ◌++◌, Ok, length, refl, sym, ap, subst}
use Rattle.std.proofs.lemmas.List.{length-append}
use Rattle.std.proofs.lemmas.List.Elements.{filter_map-append}
use Rattle.scan_model.specs.declared.logs.LogFacts.{LogFacts}
use Rattle.scan_model.specs.LogText.{LogFrame, log_reading}
use Rattle.scan_model.specs.DieReport.{accepted}
use Rattle.log_join.specs.Joining.{JoinedBits, StandsFor, IsJoinedOf}
use Rattle.desk_commands.specs.Logs.{AreJoined, IsJoinedFor, JoinedTexts, read_logs}

abbrev pub texts_for : LogFrame → List (List ℕ) → JoinedTexts
texts_for frame texts = record { frame = frame; texts = texts }

pub none_joined : (frame : LogFrame) (joined : JoinedBits) → IsJoinedFor frame joined → StandsFor [] joined → AreJoined (texts_for frame []) joined
none_joined frame joined size empty = record { size = size; stands = empty; count = refl }

module _ (frame : LogFrame) (texts : List (List ℕ)) (text : List ℕ) (facts : LogFacts) (reads : log_reading frame text ≡ Ok facts) where
  one_more_read : read_logs frame (texts ++ text ∷ []) ≡ read_logs frame texts ++ facts ∷ []
  one_more_read =
      let one : read_logs frame (text ∷ []) ≡ facts ∷ [] = rw reads refl in
      filter_map-append (λ text. accepted (log_reading frame text)) texts (text ∷ []) ∙ ap (λ more. read_logs frame texts ++ more) one

  read_now : (now : List (List ℕ)) → now ≡ texts ++ text ∷ [] → read_logs frame now ≡ read_logs frame texts ++ facts ∷ []
  read_now now is = ap (read_logs frame) is ∙ one_more_read

  pub one_joined : (now : List (List ℕ)) → now ≡ texts ++ text ∷ [] → (old new : JoinedBits) → AreJoined (texts_for frame texts) old → IsJoinedOf old.patterns old.points new
      → ((logs : List LogFacts) → StandsFor logs old → StandsFor (logs ++ facts ∷ []) new) → AreJoined (texts_for frame now) new
  one_joined now is old new joined size adds = record {
    size = (size.0 ∙ joined.size.0, size.1 ∙ joined.size.1);
    stands = subst (λ logs. StandsFor logs new) (sym (read_now now is)) (adds (read_logs frame texts) joined.stands);
    count =
        ap length (read_now now is) ∙ length-append (read_logs frame texts) (facts ∷ []) ∙ ap (λ n. n + 1) joined.count ∙ sym (length-append texts (text ∷ [])) ∙ ap length (sym is);
  }
