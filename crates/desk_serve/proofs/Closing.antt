-- How a run ends, from what its last steps say.
use Rattle.std.proofs.Common.{◌≡◌, ◌≤◌, ◌<◌, ◌*◌, ℕ, List, [], ◌∷◌, ◌++◌, length, Option, None, Some, refl, sym, ap, subst, ◌∙◌, inl, inr, arith, append_assoc, append-nil}
use Rattle.std.specs.Prelude.{◌⊎◌, IfSome, IsSome, unwrap_or}
use Rattle.std.specs.Io.KnownBytes.{append_known}
use Rattle.desk_outside.specs.declared.deed.Deed.{Deed}
use Rattle.desk_outside.specs.Bytes.{AddsPart}
use Rattle.desk_outside.specs.Faults.{Rose}
use Rattle.desk_outside.specs.Cabinets.{CabinetTold, keeper_handed, keeper_home}
use Rattle.desk_outside.proofs.Parts.{append_known_twice}
use Rattle.book.specs.declared.opening.StartFault.{StartFault}
use Rattle.book.specs.declared.opening.StartFault.TheVariants as fault
use Rattle.book.specs.LegalDeeds.{spoiled_row}
use Rattle.book.specs.Changes.{BookFacts}
use Rattle.run_ends.specs.declared.ending.Ending.{Ending}
use Rattle.run_ends.specs.declared.ending.Ending.TheVariants.{Done, SinkFault, StoreFault, NoMemory, Spoiled, StreetFault}
use Rattle.run_ends.specs.Endings.{Writes}
use Rattle.desk_serve.specs.Lines.{first_line, line_of}
use Rattle.desk_serve.specs.Refusals.{ending_of}
use Rattle.desk_serve.specs.StreetEnd.{OverBook, IsOver}
use Rattle.desk_serve.specs.Runs.{RunOrder, Outside, HasEnded, IsDue, IsFirstDue, IsUnused, WereServed, HasAll, HasAllUnlessFailed, HasNone, was_kept, max_deeds}
use Rattle.desk_serve.proofs.NoKeeper.{ends_alone}

-- ---- bytes

part_after : (old mid new : Option (List ℕ)) (first line : List ℕ) → mid ≡ append_known old first → AddsPart mid new line → AddsPart old new (first ++ line)
part_after old mid new first line is (left, p) = (
  left,
  record {
    part = first ++ p.part;
    cut = ap (λ l. first ++ l) p.cut ∙ sym (append_assoc first p.part left);
    added = p.added ∙ ap (λ k. append_known k p.part) is ∙ append_known_twice old first p.part;
  },
)

nothing_more : (known : Option (List ℕ)) → append_known known [] ≡ known
nothing_more None = refl
nothing_more (Some xs) = ap Some (append-nil xs)

no_part : (xs ys : List ℕ) → [] ≡ xs ++ ys → xs ≡ []
no_part [] ys e = refl
no_part (x ∷ xs) ys e = absurd (cc)

-- the sink's count rose where it rose since
only_rose : {ending : Ending} {text : List ℕ} {result : Ending} {old new : Option (List ℕ)} {rose all : Type 0} → Writes ending text result old new rose → (rose → all) → Writes ending text result old new all
only_rose (inl is) on = inl is
only_rose (inr (sink, part, cause)) on = inr (sink, part, on cause)

-- ---- the last bytes

module _ (asked : RunOrder) (old new : Outside) (untouched : Type 0) (result : Ending) where
  -- a line after the first
  pub ends_after : (due : Ending) (mid : Option (List ℕ)) (rose : Type 0) → mid ≡ append_known old.written (first_line asked.port) → IsDue asked old new untouched due (first_line asked.port ++ line_of due) → Writes due (line_of due) result mid new.written rose
      → (rose → Rose old.sink_faults new.sink_faults) → HasEnded asked old new untouched result
  ends_after due mid rose first is (inl (same, wrote)) on = inl record {
    text = first_line asked.port ++ line_of due;
    is = subst (λ r. IsDue asked old new untouched r (first_line asked.port ++ line_of due)) (sym same) is;
    wrote = wrote ∙ ap (λ k. append_known k (line_of due)) first ∙ append_known_twice old.written (first_line asked.port) (line_of due);
  }
  ends_after due mid rose first is (inr (sink, part, cause)) on = inr (
    sink,
    record {
      text = first_line asked.port ++ line_of due;
      is = inr (due, is);
      part = part_after old.written mid new.written (first_line asked.port) (line_of due) first part;
      rose = on cause;
    },
  )

  -- no line after a part of the first
  pub ends_cut : (mid : Option (List ℕ)) (rose : Type 0) → IsFirstDue asked old new (first_line asked.port) → AddsPart old.written mid (first_line asked.port) → Rose old.sink_faults new.sink_faults → Writes SinkFault [] result mid new.written rose → HasEnded asked old new untouched result
  ends_cut mid rose is part cause (inl (same, wrote)) =
      inr (same, record { text = first_line asked.port; is = inl is; part = subst (λ w. AddsPart old.written w (first_line asked.port)) (sym (wrote ∙ nothing_more mid)) part; rose = cause })
  ends_cut mid rose is part cause (inr (same, (left, p), again)) =
      let none : new.written ≡ mid = p.added ∙ ap (append_known mid) (no_part p.part left p.cut) ∙ nothing_more mid in
      inr (same, record { text = first_line asked.port; is = inl is; part = subst (λ w. AddsPart old.written w (first_line asked.port)) (sym none) part; rose = cause })

-- ---- a store that wasn't opened

pub not_opened : (asked : RunOrder) (old new : Outside) (untouched : Type 0) (f : StartFault) (result : Ending) → untouched → ((told : CabinetTold) → old.cabinet ≡ Some told → IsUnused asked.store told new.cabinet)
    → ((row : ℕ) → f ≡ fault.Spoiled row → (told : CabinetTold) → old.cabinet ≡ Some told → (deeds : List Deed) × (faults : ℕ) × (new.cabinet ≡ Some (was_kept told asked.store deeds deeds faults)) × (spoiled_row max_deeds deeds ≡ Some row))
    → (f ≡ fault.Failed → Rose old.cabinet_faults new.cabinet_faults) → Writes (ending_of f) (line_of (ending_of f)) result old.written new.written (Rose old.sink_faults new.sink_faults) → HasEnded asked old new untouched result
not_opened asked old new untouched (fault.Spoiled row) result same unused spoiled rose writes =
    ends_alone asked old new untouched result (Spoiled row) (record { street = same; cabinet = spoiled row refl }, refl) writes
not_opened asked old new untouched fault.Failed result same unused spoiled rose writes =
    ends_alone asked old new untouched result StoreFault (record { street = same; cabinet = unused }, rose refl, refl) writes
not_opened asked old new untouched fault.NoMemory result same unused spoiled rose writes =
    ends_alone asked old new untouched result NoMemory (inl (record { street = same; cabinet = unused }, refl)) writes

-- ---- the keeper of a store that wasn't opened

module _ {K : Type 0} (rows_of : K → Option (List Deed)) (faults_of : K → ℕ) (store : List ℕ) (told : CabinetTold) (mid new : Option CabinetTold) (rows : Option (List Deed)) (deeds : List Deed) (handed : mid ≡ Some (keeper_handed told store deeds)) (are : rows ≡ Some deeds) where
  pub came_back : (k : K) (before : ℕ) → ((t : CabinetTold) (ds : List Deed) → mid ≡ Some t → rows_of k ≡ Some ds → new ≡ Some (keeper_home t ds (faults_of k))) → (rows_of k ≡ rows) × (before ≤ faults_of k)
      → new ≡ Some (was_kept told store deeds deeds (faults_of k))
  came_back k before home same = home (keeper_handed told store deeds) deeds handed (same.0 ∙ are)

  pub surely_home : (keeper : Option K) (before : ℕ) → IsSome keeper → ((t : CabinetTold) (ds : List Deed) → mid ≡ Some t → IfSome keeper (λ k. rows_of k ≡ Some ds → new ≡ Some (keeper_home t ds (faults_of k))))
      → IfSome keeper (λ k. (rows_of k ≡ rows) × (before ≤ faults_of k)) → (faults : ℕ) × (new ≡ Some (was_kept told store deeds deeds faults))
  surely_home None before some home same = absurd (cc)
  surely_home (Some k) before some home same = (faults_of k, came_back k before home same)

-- a keeper that failed makes its cabinet's count rise
pub keeper_rose : {K : Type 0} (faults_of : K → ℕ) (keeper : Option K) (first old mid new : ℕ) → IsSome keeper → first ≡ 0 → IfSome keeper (λ k. Rose first (faults_of k)) → IfSome keeper (λ k. 0 < faults_of k → Rose mid new) → old ≤ mid → Rose old new
keeper_rose faults_of None first old mid new some none rose on later = absurd (cc)
keeper_rose faults_of (Some k) first old mid new some none rose on later =
    let above : 0 < faults_of k = omega (arith, none, rose) in
    let then : Rose mid new = on above in
    omega (arith, then, later)

-- ---- a store that was opened

module _ (asked : RunOrder) (old new : Outside) (untouched : Type 0) (deeds : List Deed) (book : BookFacts) (kept : (told : CabinetTold) → old.cabinet ≡ Some told → new.cabinet ≡ Some (was_kept told asked.store deeds book.deeds book.faults)) where
  were_served : (doors unserved : ℕ) (links : _) → OverBook asked old.street new.street doors unserved links deeds book → WereServed asked old new doors unserved links deeds book.deeds
  were_served doors unserved links over = record { grown = over.grown; faults = book.faults; cabinet = kept; street = over.street }

  at_rest : (doors : ℕ) → book.deeds ≡ deeds → OverBook asked old.street new.street doors 0 HasNone deeds book → WereServed asked old new doors 0 HasNone deeds deeds
  at_rest doors same over = subst (λ ds. WereServed asked old new doors 0 HasNone deeds ds) same (were_served doors 0 HasNone over)

  pub opened_ended : (result : Ending) (mid : Option (List ℕ)) (mid_rose last_rose : Type 0) (instead : Option Ending) → (mid_rose → Rose old.sink_faults new.sink_faults) → (last_rose → Rose old.sink_faults new.sink_faults)
      → IsOver asked untouched (Rose old.street_faults new.street_faults) mid_rose old.street new.street old.written mid deeds instead book
      → Writes (unwrap_or instead (Done (asked.workers * asked.sessions) (length book.deeds))) (line_of (unwrap_or instead (Done (asked.workers * asked.sessions) (length book.deeds)))) result mid new.written last_rose
      → HasEnded asked old new untouched result
  opened_ended result mid mid_rose last_rose None on last (over, wrote) writes =
      ends_after asked old new untouched result (Done (asked.workers * asked.sessions) (length book.deeds)) mid last_rose wrote
      (record { before = deeds; after = book.deeds; served = were_served asked.workers 0 (HasAll asked) over; sessions_are = refl; deeds_are = refl }, refl) writes last
  opened_ended result mid mid_rose last_rose (Some NoMemory) on last (inl nothing) writes =
      ends_alone asked old new untouched result NoMemory
      (inl (record { street = nothing.street; cabinet = λ told is. inr (deeds, book.faults, subst (λ ds. new.cabinet ≡ Some (was_kept told asked.store deeds ds book.faults)) nothing.same (kept told is)) }, refl))
      (only_rose (subst (λ w. Writes NoMemory (line_of NoMemory) result w new.written last_rose) nothing.unwritten writes) last)
  opened_ended result mid mid_rose last_rose (Some NoMemory) on last (inr (unserved, some, over, wrote)) writes =
      ends_after asked old new untouched result NoMemory mid last_rose wrote
      (inr (record { before = deeds; after = book.deeds; unserved = unserved; some = some; served = were_served asked.workers unserved (HasAll asked) over }, refl)) writes last
  opened_ended result mid mid_rose last_rose (Some StreetFault) on last (rose, inl (doors, few, same, over, unwritten)) writes =
      ends_alone asked old new untouched result StreetFault (rose, inl (record { deeds = deeds; doors = doors; few = few; served = at_rest doors same over }, refl))
      (only_rose (subst (λ w. Writes StreetFault (line_of StreetFault) result w new.written last_rose) unwritten writes) last)
  opened_ended result mid mid_rose last_rose (Some StreetFault) on last (rose, inr (unserved, over, wrote)) writes =
      ends_after asked old new untouched result StreetFault mid last_rose wrote
      (rose, inr (record { before = deeds; after = book.deeds; unserved = unserved; served = were_served asked.workers unserved (HasAllUnlessFailed asked) over }, refl)) writes last
  opened_ended result mid mid_rose last_rose (Some SinkFault) on last (rose, same, over, part) writes =
      ends_cut asked old new untouched result mid last_rose (record { deeds = deeds; served = at_rest asked.workers same over; text_is = refl }) part (on rose) writes
  opened_ended result mid mid_rose last_rose (Some (Done sessions number)) on last over writes = absurd over
  opened_ended result mid mid_rose last_rose (Some StoreFault) on last over writes = absurd over
  opened_ended result mid mid_rose last_rose (Some (Spoiled row)) on last over writes = absurd over
