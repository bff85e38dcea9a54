-- The transition faults are the first of all modelled faults, and each has words.
use Rattle.std.proofs.Common.{◌≡◌, ℕ, ◌<◌, ◌≤◌, ◌++◌, length, get_or, sym, ◌∙◌, arith}
use Rattle.std.proofs.lemmas.List.{length-append, get_or_append_left}
use Rattle.scan_model.specs.declared.fault.Fault.{Fault}
use Rattle.scan_model.specs.declared.fault.Fault.TheVariants.{Stem, Branch, Bridge, Cell}
use Rattle.scan_model.specs.ScanTest.{ScanTest}
use Rattle.scan_model.specs.Universe.{bridges, cells, universe}
use Rattle.two_frame.specs.TwoFrame.{transitions, slow_words}

pub slow_at : (t : ScanTest) (place : ℕ) (d : Fault) → place < length (transitions t) → get_or (transitions t) place d ≡ get_or (universe t) place d
slow_at t place d lt =
    sym (get_or_append_left (transitions t ++ bridges t) (cells t) d place (omega (arith, length-append (transitions t) (bridges t))) ∙ get_or_append_left (transitions t) (bridges t) d place lt)

pub slow_in_range : (t : ScanTest) → length (transitions t) ≤ length (universe t)
slow_in_range t = omega (arith, length-append (transitions t ++ bridges t) (cells t), length-append (transitions t) (bridges t))

pub words_there : (t : ScanTest) (f : Fault) → 0 < length (slow_words t f)
words_there t (Stem n v) = omega arith
words_there t (Branch p v) = omega arith
words_there t (Bridge a b kind) = omega arith
words_there t (Cell h i kind) = omega arith
