-- How many places of a pattern don't agree with a fault.
use Rattle.std.specs.Prelude.{ℕ, Bool, true, cond, not, ◌==◌, ◌&&◌, ◌||◌}

-- 1 where a place is against, by whether its bit is Failing, whether it is Passing, and whether the fault fails there
abbrev pub bad : Bool → Bool → Bool → ℕ
bad failing passing fails = cond ((failing && not fails) || (passing && fails)) 1 0

-- one place more
abbrev pub put_at : (ℕ → Bool) → ℕ → ℕ → Bool
put_at c k q = cond (q == k) true (c q)
