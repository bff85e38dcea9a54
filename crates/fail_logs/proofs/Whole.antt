-- A whole log, from what its lines say.
use Rattle.std.proofs.Common.{◌≡◌, ℕ, ◌+◌, ◌*◌, ◌/◌, ◌<◌, ◌≤◌, Bool, true, eqb, List, [], ◌∷◌, length, map, get_or, Option, Some, None, Ok, refl, sym, subst, ap, ◌∙◌, arith}
use Rattle.std.specs.Prelude.{All, filter, filter_map, flat_map}
use Rattle.std.specs.List.{range_with_len}
use Rattle.std.proofs.Math.Nat.{mul-le-mul_right, div-lt_iff_lt-mul}
use Rattle.std.proofs.lemmas.Bool.{eqb-true}
use Rattle.std.proofs.lemmas.Nat.{div-mul-add}
use Rattle.std.proofs.lemmas.List.FromFn.{length-range_with_len, get_or-range_with_len}
use Rattle.std.proofs.lemmas.List.Elements.{All-nil, All-append, All-map, All-filter, All-weaker, filter_passes}
use Rattle.std.proofs.lemmas.List.Folds.{Any-from_list_any}
use Rattle.scan_model.specs.declared.logs.Bit.{Bit}
use Rattle.scan_model.specs.declared.logs.Range.{Range}
use Rattle.scan_model.specs.declared.logs.CutGroup.{CutGroup}
use Rattle.scan_model.specs.declared.logs.LogFacts.{LogFacts}
use Rattle.scan_model.specs.Coverage.{bit_of, some_holds, FitsLog}
use Rattle.scan_model.specs.Lines.{text_lines}
use Rattle.scan_model.specs.TextFaults.{refused_or}
use Rattle.scan_model.specs.LogText.{LogFrame, LogLine, log_fault, log_reading, log_of_lines, later_lines, bits_listed, points_listed, is_listed, range_of, group_cut, group_points, is_in_group, each_once}
use Rattle.fail_logs.specs.BitNumbers.{numbers_named}
use Rattle.fail_logs.specs.Groups.{IsGroupIn}
use Rattle.fail_logs.specs.RisingNumbers.{IsBitsOf}
use Rattle.fail_logs.specs.LineFacts.{LineFacts, facts_of}
use Rattle.fail_logs.specs.FrameFacts.{IsFrame, point_in}
use Rattle.fail_logs.proofs.RisingLists.{has_number}
use Rattle.fail_logs.proofs.NamedPoints.{is_listed-is}
use Rattle.fail_logs.proofs.BitOrder.{bits_are, filter-agree, flat_map-agree}
use Rattle.fail_logs.proofs.Accepted.{IsFaultless, IsTested, faultless, held_below, groups_in}

-- a reading that went well
pub was_read : {X : Type 0} (fault : Option (ℕ × ℕ)) (x y : X) → refused_or fault x ≡ Ok y → (fault ≡ None) × (x ≡ y)
was_read None x y e = (refl, cc)
was_read (Some f) x y e = absurd cc

pub All-flat_map : {X Y : Type 0} (P : Y → Type 0) (f : X → List Y) → ((x : X) → All P (f x)) → (xs : List X) → All P (flat_map f xs)
All-flat_map P f each [] = All-nil P
All-flat_map P f each (x ∷ xs) = All-append P (f x) (flat_map f xs) (each x) (All-flat_map P f each xs)

pub range_below : (n : ℕ) → All (λ k. k < n) (range_with_len 0 n)
range_below n i d lt =
    let within : i < n = omega (arith, length-range_with_len 0 n, lt) in
    rw (get_or-range_with_len 0 n i d within) (omega (arith, within))

-- what holds of each number holds of one that is among them
of_named : (P : ℕ → Type 0) (ns : List ℕ) (n : ℕ) → has_number ns n ≡ true → All P ns → P n
of_named P ns n has all =
    let at = Any-from_list_any (λ x. eqb x n) ns has in
    subst P (at.3 ∙ eqb-true at.1 n at.4) (all at.0 at.1 at.2)

module _ (frame : LogFrame) (rows : List (List ℕ)) (sound : IsFrame frame rows) (ls : List LogLine) (is : IsFaultless frame rows ls) where
  abbrev ranges : List Range
  ranges = filter_map range_of ls

  -- a number of a tested bit is below that of the first bit past so many patterns
  number_below : (patterns : ℕ) → length frame.shifts ≤ patterns → (x : ℕ) → IsTested frame ranges x → x < patterns * length frame.points
  number_below patterns few x tested =
      let n : ℕ = length frame.points in
      let low : x / n < length frame.shifts = held_below ranges (length frame.shifts) (x / n) is.ranges tested.1 in
      let lt : x < length frame.shifts * n = (div-lt_iff_lt-mul tested.0).0 low in
      let more : length frame.shifts * n ≤ patterns * n = mul-le-mul_right n few in
      omega (arith, lt, more)

  pub below : (patterns : ℕ) → length frame.shifts ≤ patterns → All (λ x. x < patterns * length frame.points) (numbers_named frame rows ls)
  below patterns few = All-weaker (IsTested frame ranges) (λ x. x < patterns * length frame.points) (number_below patterns few) (numbers_named frame rows ls) is.fails

  pub listed : (bits : List Bit) → IsBitsOf (length frame.points) (numbers_named frame rows ls) bits → bits ≡ bits_listed frame ls
  listed bits of =
      let points : ℕ = length frame.points in
      let patterns : ℕ = length frame.shifts in
      let numbers : List ℕ = numbers_named frame rows ls in
      let one : (p : ℕ) → map (bit_of p) (filter (λ k. has_number numbers (p * points + k)) (range_with_len 0 points)) ≡ points_listed frame ls p = λ p.
      ap (map (bit_of p)) (filter-agree (λ k. has_number numbers (p * points + k)) (λ k. is_listed frame ls p (point_in frame k)) 0 points (λ k low high. sym (is_listed-is frame rows sound p k (omega arith) ls is.somewhere))) in
      of.2 ∙ bits_are points patterns numbers of.0 of.1 (below patterns (omega arith))
      ∙ flat_map-agree (λ p. map (bit_of p) (filter (λ k. has_number numbers (p * points + k)) (range_with_len 0 points))) (points_listed frame ls) (range_with_len 0 patterns) one

  -- ---- what it stands for lies within the patterns and the points

  abbrev Lies : Bit → Type 0
  Lies b = (some_holds ranges b.pattern ≡ true) × (b.point < length frame.points)

  listed_lies : (p k : ℕ) → k < length frame.points → is_listed frame ls p (point_in frame k) ≡ true → Lies (bit_of p k)
  listed_lies p k below listed =
      let n : ℕ = length frame.points in
      let named : has_number (numbers_named frame rows ls) (p * n + k) ≡ true = sym (is_listed-is frame rows sound p k below ls is.somewhere) ∙ listed in
      let inside : IsTested frame ranges (p * n + k) = of_named (IsTested frame ranges) (numbers_named frame rows ls) (p * n + k) named is.fails in
      (ap (some_holds ranges) (sym (div-mul-add p n k below)) ∙ inside.1, below)

  points_lie : (p : ℕ) → All Lies (points_listed frame ls p)
  points_lie p =
      let n : ℕ = length frame.points in
      let listed : ℕ → Bool = λ k. is_listed frame ls p (point_in frame k) in
      let Below : ℕ → Type 0 = λ k. k < n in
      let below : All Below (filter listed (range_with_len 0 n)) = All-filter listed Below (range_with_len 0 n) (range_below n) in
      let passes = filter_passes listed (range_with_len 0 n) in
      All-map Lies (bit_of p) (filter listed (range_with_len 0 n)) (λ i d lt. listed_lies p (get_or (filter listed (range_with_len 0 n)) i d) (below i d lt) (passes i d lt))

  groups_lie : (gs : List CutGroup) → All (λ group. All (λ k. k < length frame.points) group) (map (group_points frame.points) gs)
  groups_lie gs = All-map (λ group. All (λ k. k < length frame.points) group) (group_points frame.points) gs
      (λ i d lt. All-filter (λ k. is_in_group (get_or gs i d) (point_in frame k)) (λ k. k < length frame.points) (range_with_len 0 (length frame.points)) (range_below (length frame.points)))

  pub lines_fit : FitsLog (length frame.shifts) (length frame.points) (log_of_lines frame ls)
  lines_fit = record {
    ranges = is.ranges;
    fails = All-flat_map Lies (points_listed frame ls) points_lie (range_with_len 0 (length frame.shifts));
    cuts = groups_lie (each_once (filter_map (group_cut frame) ls));
  }

module _ (frame : LogFrame) (rows : List (List ℕ)) (sound : IsFrame frame rows) (bytes : List ℕ) (facts : LineFacts) (read : refused_or (log_fault frame bytes) (facts_of frame rows (later_lines frame.form (text_lines bytes))) ≡ Ok facts) where
  abbrev lines : List LogLine
  lines = later_lines frame.form (text_lines bytes)

  no_fault : log_fault frame bytes ≡ None
  no_fault = (was_read (log_fault frame bytes) (facts_of frame rows lines) facts read).0

  facts_are : facts_of frame rows lines ≡ facts
  facts_are = (was_read (log_fault frame bytes) (facts_of frame rows lines) facts read).1

  all : IsFaultless frame rows lines
  all = faultless frame rows bytes sound no_fault

  pub numbers_fit : All (λ x. x < 4096 * length frame.points) facts.fails
  numbers_fit = subst (λ (f : LineFacts). All (λ x. x < 4096 * length frame.points) f.fails) facts_are (below frame rows sound lines all 4096 sound.few_patterns)

  pub groups_fit : All (IsGroupIn (length frame.chains)) facts.cuts
  groups_fit = subst (λ (f : LineFacts). All (IsGroupIn (length frame.chains)) f.cuts) facts_are (groups_in frame lines all.somewhere)

  -- the log that the facts make
  abbrev made : LineFacts → List Bit → LogFacts
  made f bits = record { ranges = f.ranges; truncated = f.truncated; fails = bits; cuts = map (group_points frame.points) (each_once f.cuts) }

  module _ (bits : List Bit) (of : IsBitsOf (length frame.points) facts.fails bits) where
    log_is : log_of_lines frame lines ≡ made facts bits
    log_is =
        let of_lines : IsBitsOf (length frame.points) (numbers_named frame rows lines) bits = subst (λ (f : LineFacts). IsBitsOf (length frame.points) f.fails bits) (sym facts_are) of in
        ap (λ f. made f (bits_listed frame lines)) facts_are ∙ ap (made facts) (sym (listed frame rows sound lines all bits of_lines))

    pub reading_is : log_reading frame bytes ≡ Ok (made facts bits)
    reading_is = ap (λ f. refused_or f (log_of_lines frame lines)) no_fault ∙ ap Ok log_is

    pub reading_fits : FitsLog (length frame.shifts) (length frame.points) (made facts bits)
    reading_fits = subst (FitsLog (length frame.shifts) (length frame.points)) log_is (lines_fit frame rows sound lines all)
