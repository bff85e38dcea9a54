-- What a cache keeps stays true where an entry goes to the front or true findings are put into it.
use Rattle.std.proofs.Common.{◌≡◌, ◌∙◌, ◌≤◌, ap, sym, subst, Contains, Bool, true, false, ◌&&◌, ◌==◌, refl, eqb-true, ℕ, List, [], ◌∷◌, map, All, length, take, Option, Some, None, Result, Ok, Err, inl, inr, arith}
use Rattle.std.specs.Prelude.{IfSome, OnSome, OnOk, OnErr}
use Rattle.std.specs.Option.{option_map}
use Rattle.std.specs.Map.{lookup}
use Rattle.std.specs.Str.{bytes_eq}
use Rattle.std.proofs.lemmas.Slice.Eq.{bytes_eq-Decides}
use Rattle.std.proofs.lemmas.List.{length-map, length-take}
use Rattle.std.specs.Arc.{arc_value}
use Rattle.std.specs.declared.sync.Arc.{Arc}
use Rattle.std.specs.declared.alloc.Global.{Global}
use Rattle.std.proofs.lemmas.List.Elements.{All-nil, All-cons, All-head, All-tail, All-map, All-contains, All-contains_itself}
use Rattle.lru.specs.LruCache.{LruCache, lru_cache, put_entries, promoted}
use Rattle.lru.proofs.CallerLemmas.{Contains-put_entries, Contains-promoted, Contains-lookup}
use Rattle.desk_outside.specs.declared.deed.Deed.{Deed}
use Rattle.scan_model.specs.declared.logs.LogFacts.{LogFacts}
use Rattle.scan_model.specs.ScanTest.{ScanTest}
use Rattle.scan_model.specs.DieReport.{logs_of_texts}
use Rattle.scan_model.specs.ReportText.{report_lines}
use Rattle.diagnosis.specs.Cases.{case_of}
use Rattle.diagnosis.specs.Designs.{ViewFacts, ReadLogFacts, IsView, view_lines, texts_of, facts_of}
use Rattle.diagnosis.proofs.Cases.{texts_stand}
use Rattle.diagnosis.proofs.Views.{view_is_case}
use Rattle.slat_view.specs.declared.whole.WholeSlat.{WholeSlat}
use Rattle.slat_view.specs.WholeCounts.{IsWholeOf}
use Rattle.book.specs.Deeds.{design_test, test_of_text, test_of_reading, die_logs}
use Rattle.book.specs.Changes.{IsViewIn}
use Rattle.report_cache.specs.declared.findings.Findings.{Findings}
use Rattle.report_cache.specs.declared.key.ReportKey.{ReportKey}
use Rattle.report_cache.specs.Truth.{KeptReport, HoldsOf, AreLinesIn, IsSlatIn, IsReportIn, IsKeyOf, kept_report, report_for}

abbrev pub Entry : Type 0
Entry = ReportKey × Findings

-- ---- keys

abbrev for_names : Findings → List ℕ → List ℕ → ℕ → KeptReport
for_names findings design die revision = record { design = design; die = die; revision = revision; lines = option_map arc_value findings.report; slat = option_map arc_value findings.slat }

abbrev pub same_key : ReportKey → ReportKey → Bool
same_key a b = bytes_eq a.design.items b.design.items && (bytes_eq a.die.items b.die.items && (a.revision == b.revision))

both : (a b : Bool) → (a && b) ≡ true → (a ≡ true) × (b ≡ true)
both true b e = (refl, e)
both false b e = absurd cc

-- equal keys are those of the same report
for_same_key : (a b : ReportKey) (findings : Findings) → same_key a b ≡ true → report_for b findings ≡ report_for a findings
for_same_key a b findings e =
    let parts = both (bytes_eq a.design.items b.design.items) (bytes_eq a.die.items b.die.items && (a.revision == b.revision)) e in
    let rest = both (bytes_eq a.die.items b.die.items) (a.revision == b.revision) parts.1 in
    let design : b.design.items ≡ a.design.items = sym ((bytes_eq-Decides a.design.items b.design.items).0 parts.0) in
    let die : b.die.items ≡ a.die.items = sym ((bytes_eq-Decides a.die.items b.die.items).0 rest.0) in
    let revision : b.revision ≡ a.revision = sym (eqb-true a.revision b.revision rest.1) in
    ap (λ (n : List ℕ). for_names findings n b.die.items b.revision) design ∙ ap (λ (n : List ℕ). for_names findings a.design.items n b.revision) die ∙ ap (for_names findings a.design.items a.die.items) revision

-- ---- entries and what is kept

unmap : {X Y : Type 0} (P : X → Type 0) (f : Y → X) (ys : List Y) → All P (map f ys) → All (λ y. P (f y)) ys
unmap P f [] h = All-nil (λ y. P (f y))
unmap P f (y ∷ ys) h = All-cons (λ y. P (f y)) y ys (All-head P (f y) (map f ys) h) (unmap P f ys (All-tail P (f y) (map f ys) h))

module _ (deeds : List Deed) where
  -- each entry is of the deeds
  abbrev pub AreTrue : List Entry → Type 0
  AreTrue entries = All (IsReportIn deeds) (map kept_report entries)

  each_true : (entries : List Entry) → AreTrue entries → (entry : Entry) → Contains entries entry → IsReportIn deeds (kept_report entry)
  each_true entries is entry at = All-contains (λ e. IsReportIn deeds (kept_report e)) entries entry (unmap (IsReportIn deeds) kept_report entries is) at

  all_true : (entries : List Entry) → ((entry : Entry) → Contains entries entry → IsReportIn deeds (kept_report entry)) → AreTrue entries
  all_true entries each = All-map (IsReportIn deeds) kept_report entries (λ k d lt. each _ (All-contains_itself entries k d lt))

  -- an entry goes to the front
  pub promoted_true : (test : ReportKey → Bool) (entries : List Entry) → AreTrue entries → AreTrue (promoted test entries)
  promoted_true test entries is = all_true (promoted test entries) (λ entry at. each_true entries is entry (Contains-promoted test entries entry at))

  -- what is found under a key is true for it
  pub found_true : (entries : List Entry) (key : ReportKey) (findings : Findings) → AreTrue entries → lookup (same_key key) entries ≡ Some findings → IsReportIn deeds (report_for key findings)
  found_true entries key findings is found =
      let at = Contains-lookup (same_key key) entries findings found in
      subst (IsReportIn deeds) (for_same_key key at.0 findings at.2) (each_true entries is (at.0, findings) at.1)

  put_true : (cache : LruCache ReportKey Findings) (key : ReportKey) (findings : Findings) → AreTrue cache.entries → IsReportIn deeds (report_for key findings) → AreTrue (put_entries same_key cache key findings)
  put_true cache key findings is one = all_true (put_entries same_key cache key findings) (λ entry at. elim (Contains-put_entries same_key cache key findings entry at) [
    | inl there ↦ each_true cache.entries is entry there
    | inr put ↦
        let under : report_for entry.0 findings ≡ report_for key findings = elim put.1 [
          | inl e ↦ ap (λ (k : ReportKey). report_for k findings) e
          | inr w ↦ for_same_key key entry.0 findings w.2
        ] in
        subst (IsReportIn deeds) (sym (ap (report_for entry.0) put.0 ∙ under)) one
  ])

  -- findings are put, or there is no memory for them
  pub after_put : {X E : Type 0} (result : Result X E) (old new : LruCache ReportKey Findings) (key : ReportKey) (findings : Findings) → OnOk result (new ≡ lru_cache (put_entries same_key old key findings) old.cap) → OnErr result (new ≡ old)
      → AreTrue old.entries → IsReportIn deeds (report_for key findings) → AreTrue new.entries
  after_put (Ok x) old new key findings ok err is one = subst (λ (c : LruCache ReportKey Findings). AreTrue c.entries) (sym ok) (put_true old key findings is one)
  after_put (Err e) old new key findings ok err is one = subst (λ (c : LruCache ReportKey Findings). AreTrue c.entries) (sym err) is

  -- none are true
  pub none_true : (key : ReportKey) (findings : Findings) → findings ≡ record { report = None; slat = None } → IsReportIn deeds (report_for key findings)
  none_true key findings is = subst (λ (x : Findings). IsReportIn deeds (report_for key x)) (sym is) (record { lines = tt; slat = tt })

-- what holds of what is kept holds of one more hold of it
half_shared : {X Y : Type 0} (f : Y → X) (P : X → Type 0) (kept shared : Option Y) → OnSome shared (option_map f shared ≡ option_map f kept) → IfSome (option_map f kept) P → IfSome (option_map f shared) P
half_shared f P kept None same is = tt
half_shared f P kept (Some y) same is = subst (λ o. IfSome o P) (sym same) is

-- a put leaves how many there may be
pub same_cap : {X E : Type 0} (result : Result X E) (old new : LruCache ReportKey Findings) (entries : List Entry) → OnOk result (new ≡ lru_cache entries old.cap) → OnErr result (new ≡ old) → new.cap ≡ old.cap
same_cap (Ok x) old new entries ok err = ap (λ (c : LruCache ReportKey Findings). c.cap) ok
same_cap (Err e) old new entries ok err = ap (λ (c : LruCache ReportKey Findings). c.cap) err

-- ---- the findings on a view

some_same : (a b : ScanTest) → Some a ≡ Some b → a ≡ b
some_same a b e = cc

module _ (deeds : List Deed) (v : ViewFacts) (is_view : IsView v) (in_deeds : IsViewIn deeds v) where
  its_test : design_test deeds v.design.name ≡ Some v.design.test
  its_test = ap test_of_text in_deeds.design ∙ ap test_of_reading is_view.design.stands

  few_logs : length v.logs ≤ length (die_logs deeds v.design.name v.die)
  few_logs =
      let logs = die_logs deeds v.design.name v.die in
      let short : length v.logs ≡ length (take (length v.logs) logs) = sym (length-map v.logs (λ (log : ReadLogFacts). log.text)) ∙ ap length in_deeds.logs in
      let cut = length-take (length v.logs) logs in
      omega arith

  its_logs : logs_of_texts v.design.test v.design.name v.die (texts_of v.logs) ≡ facts_of v.logs
  its_logs = texts_stand (case_of v) (view_is_case v is_view)

  module _ (key : ReportKey) (of_view : IsKeyOf key v) where
    -- what holds of the logs of its key holds of those of the view
    of_logs : (P : ScanTest → List LogFacts → Type 0) → HoldsOf deeds key.design.items key.die.items key.revision P → P v.design.test (logs_of_texts v.design.test v.design.name v.die (texts_of v.logs))
    of_logs P is =
        let named = subst (λ (n : List ℕ). HoldsOf deeds n key.die.items key.revision P) of_view.design is in
        let of_die = subst (λ (x : List ℕ). HoldsOf deeds v.design.name x key.revision P) of_view.die named in
        let held = subst (λ (r : ℕ). HoldsOf deeds v.design.name v.die r P) of_view.revision of_die in
        let test : held.test ≡ v.design.test = some_same held.test v.design.test (sym held.design ∙ its_test) in
        subst (λ (t : ScanTest). P t (logs_of_texts t v.design.name v.die (texts_of v.logs))) test
        (subst (λ (texts : List (List ℕ)). P held.test (logs_of_texts held.test v.design.name v.die texts)) (sym in_deeds.logs) held.holds)

    -- and the other way round
    of_key : (P : ScanTest → List LogFacts → Type 0) → P v.design.test (logs_of_texts v.design.test v.design.name v.die (texts_of v.logs)) → HoldsOf deeds key.design.items key.die.items key.revision P
    of_key P is =
        let held : HoldsOf deeds v.design.name v.die (length v.logs) P = record {
          test = v.design.test;
          design = its_test;
          logs = few_logs;
          holds = subst (λ (texts : List (List ℕ)). P v.design.test (logs_of_texts v.design.test v.design.name v.die texts)) in_deeds.logs is;
        } in
        let numbered = subst (λ (r : ℕ). HoldsOf deeds v.design.name v.die r P) (sym of_view.revision) held in
        let of_die = subst (λ (x : List ℕ). HoldsOf deeds v.design.name x key.revision P) (sym of_view.die) numbered in
        subst (λ (n : List ℕ). HoldsOf deeds n key.die.items key.revision P) (sym of_view.design) of_die

    under_key : report_lines v.design.test key.design.items key.die.items (logs_of_texts v.design.test v.design.name v.die (texts_of v.logs)) ≡ view_lines v
    under_key =
        let logs = logs_of_texts v.design.test v.design.name v.die (texts_of v.logs) in
        ap (λ (n : List ℕ). report_lines v.design.test n key.die.items logs) of_view.design ∙ ap (λ (x : List ℕ). report_lines v.design.test v.design.name x logs) of_view.die

    module _ (findings : Findings) (is : IsReportIn deeds (report_for key findings)) where
      -- what is kept for it is its report, and its explained patterns
      pub kept_lines : (report : Arc (List (List ℕ)) Global) → findings.report ≡ Some report → arc_value report ≡ view_lines v
      kept_lines report there =
          let held : AreLinesIn deeds (report_for key findings) (arc_value report) = subst (λ o. IfSome (option_map arc_value o) (AreLinesIn deeds (report_for key findings))) there is.lines in
          of_logs (λ t logs. arc_value report ≡ report_lines t key.design.items key.die.items logs) held ∙ under_key

      pub kept_slat : (slat : Arc WholeSlat Global) → findings.slat ≡ Some slat → IsWholeOf v.design.test (facts_of v.logs) (arc_value slat)
      kept_slat slat there =
          let held : IsSlatIn deeds (report_for key findings) (arc_value slat) = subst (λ o. IfSome (option_map arc_value o) (IsSlatIn deeds (report_for key findings))) there is.slat in
          subst (λ (logs : List LogFacts). IsWholeOf v.design.test logs (arc_value slat)) its_logs (of_logs (λ t logs. IsWholeOf t logs (arc_value slat)) held)

      -- what is made for it may be kept beside the other half
      pub with_lines : (report : Arc (List (List ℕ)) Global) (shared : Option (Arc (List (List ℕ)) Global)) (new : Findings) → arc_value report ≡ view_lines v → OnSome shared (option_map arc_value shared ≡ Some (arc_value report))
          → new ≡ record { report = shared; slat = findings.slat } → IsReportIn deeds (report_for key new)
      with_lines report shared new are same made = subst (λ (x : Findings). IsReportIn deeds (report_for key x)) (sym made) (record {
        lines = half_shared arc_value (AreLinesIn deeds (report_for key findings)) (Some report) shared same (of_key (λ t logs. arc_value report ≡ report_lines t key.design.items key.die.items logs) (are ∙ sym under_key));
        slat = is.slat;
      })

      pub with_slat : (slat : Arc WholeSlat Global) (shared : Option (Arc WholeSlat Global)) (new : Findings) → IsWholeOf v.design.test (facts_of v.logs) (arc_value slat) → OnSome shared (option_map arc_value shared ≡ Some (arc_value slat))
          → new ≡ record { report = findings.report; slat = shared } → IsReportIn deeds (report_for key new)
      with_slat slat shared new whole same made = subst (λ (x : Findings). IsReportIn deeds (report_for key x)) (sym made) (record {
        lines = is.lines;
        slat = half_shared arc_value (IsSlatIn deeds (report_for key findings)) (Some slat) shared same
            (of_key (λ t logs. IsWholeOf t logs (arc_value slat)) (subst (λ (logs : List LogFacts). IsWholeOf v.design.test logs (arc_value slat)) (sym its_logs) whole));
      })

-- one more hold of findings that are true
pub shared_true : (deeds : List Deed) (key : ReportKey) (kept shared : Findings) → OnSome shared.report (option_map arc_value shared.report ≡ option_map arc_value kept.report) → OnSome shared.slat (option_map arc_value shared.slat ≡ option_map arc_value kept.slat)
    → IsReportIn deeds (report_for key kept) → IsReportIn deeds (report_for key shared)
shared_true deeds key kept shared report slat is = record {
  lines = half_shared arc_value (AreLinesIn deeds (report_for key kept)) kept.report shared.report report is.lines;
  slat = half_shared arc_value (IsSlatIn deeds (report_for key kept)) kept.slat shared.slat slat is.slat;
}
