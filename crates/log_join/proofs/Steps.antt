-- What of a log fits so many patterns and points.
use Rattle.std.proofs.Common.{◌≡◌, ℕ, ◌+◌, ◌*◌, ◌/◌, ◌^◌, ◌<◌, ◌≤◌, true, ◌&&◌, leb, List, length, get_or, subst, arith}
use Rattle.std.specs.Prelude.{All}
use Rattle.std.proofs.lemmas.Bool.{and_parts, leb-true}
use Rattle.std.proofs.lemmas.List.Folds.{Any-from_list_any}
use Rattle.std.proofs.lemmas.Nat.{mul-le}
use Rattle.scan_model.specs.declared.logs.Range.{Range}
use Rattle.scan_model.specs.declared.logs.LogFacts.{LogFacts}
use Rattle.scan_model.specs.Coverage.{some_holds, FitsLog}
use Rattle.listed_bits.specs.FailReach.{FitsWords}

tested_below : (ranges : List Range) (patterns w : ℕ) → All (λ r. r.last < patterns) ranges → some_holds ranges w ≡ true → w < patterns
tested_below ranges patterns w below tested =
    let found = Any-from_list_any (λ r. leb r.first w && leb w r.last) ranges tested in
    let last : found.1.last < patterns = subst (λ (r : Range). r.last < patterns) found.3 (below found.0 found.1 found.2) in
    omega (arith, leb-true w found.1.last (and_parts (leb found.1.first w) (leb w found.1.last) found.4).1, last)

pub listed_patterns : (log : LogFacts) (patterns points : ℕ) → FitsLog patterns points log → All (λ b. b.pattern < patterns) log.fails
listed_patterns log patterns points fits i d lt = tested_below log.ranges patterns (get_or log.fails i d).pattern fits.ranges (fits.fails i d lt).0

pub listed_fit : (log : LogFacts) (patterns points : ℕ) → patterns < 2 ^ 32 → points < 2 ^ 32 → FitsLog patterns points log → All FitsWords log.fails
listed_fit log patterns points few narrow fits i d lt =
    (omega (arith, listed_patterns log patterns points fits i d lt, few), omega (arith, (fits.fails i d lt).1, narrow))

-- the words of the listed bits
pub listed_inside : (log : LogFacts) (patterns points : ℕ) (words : List ℕ) → FitsLog patterns points log → length words ≡ (patterns + 63) / 64 * points
    → All (λ b. b.pattern / 64 * points + b.point < length words) log.fails
listed_inside log patterns points words fits size i d lt =
    let b = get_or log.fails i d in
    let row : b.pattern / 64 + 1 ≤ (patterns + 63) / 64 = omega (arith, listed_patterns log patterns points fits i d lt) in
    omega (arith, mul-le (b.pattern / 64 + 1) points ((patterns + 63) / 64) points row (omega arith), (fits.fails i d lt).1, size)

pub listed_points : (log : LogFacts) (patterns points : ℕ) → FitsLog patterns points log → All (λ b. b.point < points) log.fails
listed_points log patterns points fits i d lt = (fits.fails i d lt).1
