-- What the result of a reader says of a text.
use Rattle.std.specs.Prelude.{ℕ, ◌≡◌, Result, Ok, Err}
use Rattle.text_parts.specs.declared.fault.ReadFault.{ReadFault}
use Rattle.text_parts.specs.declared.fault.ReadFault.TheVariants.{Text, NoMemory}

-- a fault is the one that reading gives, by its line and its rule, and want of memory says nothing
abbrev pub Fails : {Y : Type 0} → ReadFault → Result Y (ℕ × ℕ) → Type 0
Fails (Text f) read = read ≡ Err (f.line, f.rule)
Fails NoMemory read = Unit {0}

-- the answer, seen by view, is what reading gives, or want of memory
abbrev pub Gives : {X Y : Type 0} → (X → Y) → Result X ReadFault → Result Y (ℕ × ℕ) → Type 0
Gives view (Ok x) read = read ≡ Ok (view x)
Gives view (Err e) read = Fails e read

-- it holds of the fault of the text that is answered, by its line and its rule, if one is
abbrev pub IfFault : {X : Type 0} → Result X ReadFault → (ℕ × ℕ → Type 0) → Type 0
IfFault (Ok x) Holds = Unit {0}
IfFault (Err (Text f)) Holds = Holds (f.line, f.rule)
IfFault (Err NoMemory) Holds = Unit {0}
