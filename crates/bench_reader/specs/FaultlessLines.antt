-- NetlistDraft without a fault of the first two rounds.
use Rattle.std.specs.Prelude.{◌≡◌, ◌≤◌, List, length, All, false}
use Rattle.std.specs.List.{AllByRecursion, IsDistinct}
use Rattle.std.specs.Str.{bytes_eq}
use Rattle.scan_model.specs.NetlistLines.{Form}
use Rattle.scan_model.specs.NetlistRules.{defined_names, has_unknown_word, has_wrong_count}
use Rattle.bench_reader.specs.declared.first_round.NetlistDraft.{NetlistDraft}
use Rattle.bench_reader.specs.NetlistDrafts.{uses_undefined, IsWithin, IsAfter}

-- a definition has a gate word, and as many operands as the word takes
abbrev pub HasItsOperands : Form → Type 0
HasItsOperands f = (has_unknown_word f ≡ false) × (has_wrong_count f ≡ false)

-- each line that defines a net is sound, and no two define nets of one name
pub record AreClean (fs : List Form) : Type 0 where
  pub counts : AllByRecursion HasItsOperands fs
  pub differ : IsDistinct bytes_eq (defined_names fs)
  pub short : All (λ n. length n ≤ 64) (defined_names fs)

-- each used net is defined
abbrev pub AreKnown : List Form → Type 0
AreKnown fs = AllByRecursion (λ f. uses_undefined (defined_names fs) f ≡ false) fs

-- the draft of a netlist after the first round
pub record IsRead (draft : NetlistDraft) (fs : List Form) : Type 0 where
  pub after : IsAfter draft fs
  pub within : IsWithin draft
  pub clean : AreClean fs
