-- The addition of a log to a die.
use Rattle.std.specs.Prelude.{◌≡◌, ◌+◌, true, false, [], ◌∷◌, ◌++◌, length}
use Rattle.std.specs.List.{position_or_len}
use Rattle.std.specs.Str.{bytes_eq}
use Rattle.scan_model.specs.Words.{has_word}
use Rattle.diagnosis.specs.declared.put.Put.{Put}
use Rattle.diagnosis.specs.declared.put.Put.TheVariants.{Created, Same}
use Rattle.diagnosis.specs.Designs.{ViewFacts, ReadLogFacts, texts_of}

-- the view with one more log
abbrev pub with_log : ViewFacts → ReadLogFacts → ViewFacts
with_log v log = record { design = v.design; die = v.die; logs = v.logs ++ log ∷ [] }

-- a log of a new text stands last; of an equal text there is one, and nothing changes
abbrev pub Added : Put → ReadLogFacts → ViewFacts → ViewFacts → Type 0
Added (Created number) log old new =
    (has_word (texts_of old.logs) log.text ≡ false) × (number ≡ length old.logs + 1) × (new ≡ with_log old log)
Added (Same number) log old new =
    (has_word (texts_of old.logs) log.text ≡ true) × (number ≡ position_or_len (bytes_eq log.text) (texts_of old.logs) + 1) × (new ≡ old)
