use Rattle.std.proofs.Common.{◌≡◌, ℕ, List, ◌++◌, Result, Ok, Err, OnOk, append_assoc}
use Rattle.std.specs.Prelude.{codes}
use Rattle.design_bundle.proofs.bundle.append_profile.Goals as goal

-- with the line that names profile 2, and more behind it
named_two : {X E : Type 0} (r : Result X E) (old new line : List ℕ) → OnOk r (new ≡ old ++ line) → OnOk r ((rest : List ℕ) → new ++ rest ≡ old ++ (line ++ rest))
named_two (Ok x) old new line is = λ rest. rw is (append_assoc old line rest)
named_two (Err e) old new line is = tt

pub returns-in-Two : goal.returns-in-Two
returns-in-Two c = rw c.in-Two.is (named_two c.append.result c.args.bundle.now c.append.new.self (codes "%profile 2\n") c.append.ensures.ok)
