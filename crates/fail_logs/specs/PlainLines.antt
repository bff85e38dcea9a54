-- Fail lines in their plain spelling.
use Rattle.std.specs.Prelude.{ℕ, ◌≡◌, Bool, true, false, ◌&&◌, nat_lt, nat_le, List, ◌∷◌, Some}
use Rattle.scan_model.specs.Lines.{has_refused_byte}
use Rattle.scan_model.specs.Words.{words, has_words, number_of}
use Rattle.scan_model.specs.declared.logs.LogForm.{LogForm}
use Rattle.scan_model.specs.declared.logs.LogVersion.{LogVersion}
use Rattle.scan_model.specs.LogText.{LogLine, out_line, cell_line, log_line}
use Rattle.fail_logs.specs.declared.plain.PlainFail.{PlainFail}
use Rattle.fail_logs.specs.declared.plain.PlainFail.TheVariants.{Out, Cell}
use Rattle.std.specs.List.{position_or_len}
use Rattle.text_parts.specs.FirstWord.{is_word_end}

-- a byte from 36 to 126: no blank, no `#`, and one that a text may have
abbrev pub is_plain : ℕ → Bool
is_plain b = nat_lt 35 b && nat_le b 126

-- no word goes on here, and what follows has the same words and refused bytes
pub record EndsWord (rest after : List ℕ) : Type 0 where
  pub ends : position_or_len is_word_end rest ≡ 0
  pub words : words rest ≡ words after
  pub refused : has_refused_byte rest ≡ has_refused_byte after

-- the word comes first, and what follows has the other words and the refused bytes
pub record BeginsWith (line word after : List ℕ) : Type 0 where
  pub words : words line ≡ word ∷ words after
  pub refused : has_refused_byte line ≡ has_refused_byte after

-- the line has these numbers and this name
abbrev pub IsReadAs : PlainFail → LogLine → Type 0
IsReadAs (Out p n) l = (w : List ℕ) × (number_of w ≡ Some p) × (l ≡ out_line w n.now)
IsReadAs (Cell p c i) l = (w : List ℕ) × (v : List ℕ) × (number_of w ≡ Some p) × (number_of v ≡ Some i) × (l ≡ cell_line w c.now v)

-- the bytes may stand in a log, and they are this line in both versions
pub record IsPlainFail (form : LogForm) (bytes : List ℕ) (line : LogLine) : Type 0 where
  pub accepted : has_refused_byte bytes ≡ false
  pub filled : has_words (words bytes) ≡ true
  pub read : (version : LogVersion) → log_line form version (words bytes) ≡ line
