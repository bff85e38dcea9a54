-- What a run says by its exit status.
use Rattle.std.proofs.Common.{◌≡◌, ◌≢◌, ◌∙◌, ◌==◌, ℕ, Bool, true, false, List, Option, Some, None, refl, sym, ap, inl, inr, arith, true≢false}
use Rattle.std.specs.Prelude.{◌||◌, is_some}
use Rattle.desk_outside.specs.Faults.{Rose}
use Rattle.run_ends.specs.declared.ending.Ending.{Ending}
use Rattle.run_ends.specs.declared.ending.Ending.TheVariants.{Done, SinkFault, StoreFault, NoMemory, Spoiled, StreetFault}
use Rattle.run_ends.specs.Endings.{Ends, status_of}
use Rattle.desk_serve.specs.Runs.{RunOrder, Outside, HasEnded, HasRun, IsWritten}
use Rattle.command_words.specs.declared.command.Command.{Command}
use Rattle.command_words.specs.declared.command.Command.TheVariants.{Make, Demo}
use Rattle.command_words.specs.Invocations as words
use Rattle.command_words.specs.CommandViews.{shown}
use Rattle.desk_commands.specs.CommandEnds.{is_one_of, page_statuses}
use Rattle.desk_run.specs.RunEnds.{statuses_of}
use Rattle.desk_run.specs.Words.{are_right}

-- the statuses of files and words are none of `serve`
other_status : (ending : Ending) → (status_of ending ≢ 2) × (status_of ending ≢ 5)
other_status (Done sessions deeds) = (omega arith, omega arith)
other_status SinkFault = (omega arith, omega arith)
other_status StoreFault = (omega arith, omega arith)
other_status NoMemory = (omega arith, omega arith)
other_status (Spoiled row) = (omega arith, omega arith)
other_status StreetFault = (omega arith, omega arith)

module _ (asked : RunOrder) (old new : Outside) (untouched : Type 0) (status : ℕ) where
  pub never_2 : HasRun asked old new untouched status → status ≢ 2
  never_2 (ending, is, ended) e = (other_status ending).0 (sym is ∙ e)

  pub never_5 : HasRun asked old new untouched status → status ≢ 5
  never_5 (ending, is, ended) e = (other_status ending).1 (sym is ∙ e)

  at_6 : (ending : Ending) → status_of ending ≡ 6 → HasEnded asked old new untouched ending → Rose old.sink_faults new.sink_faults
  at_6 ending six (inr (sink, cut)) = cut.rose
  at_6 SinkFault six (inl written) = absurd written.is
  at_6 (Done sessions deeds) six (inl written) = absurd (omega (arith, six))
  at_6 StoreFault six (inl written) = absurd (omega (arith, six))
  at_6 NoMemory six (inl written) = absurd (omega (arith, six))
  at_6 (Spoiled row) six (inl written) = absurd (omega (arith, six))
  at_6 StreetFault six (inl written) = absurd (omega (arith, six))

  pub sink_rose : HasRun asked old new untouched status → status ≡ 6 → Rose old.sink_faults new.sink_faults
  sink_rose (ending, is, ended) e = at_6 ending (sym is ∙ e) ended

  not_cut : (ending : Ending) (n : ℕ) → n ≢ 6 → status_of ending ≡ n → HasEnded asked old new untouched ending → IsWritten asked old new untouched ending
  not_cut ending n other at (inl written) = written
  not_cut ending n other at (inr (sink, cut)) = absurd (other (sym at ∙ ap status_of sink))

  at_7 : (ending : Ending) → status_of ending ≡ 7 → IsWritten asked old new untouched ending → Rose old.cabinet_faults new.cabinet_faults × untouched
  at_7 StoreFault seven written = (written.is.1, written.is.0.street)
  at_7 SinkFault seven written = absurd (omega (arith, seven))
  at_7 (Done sessions deeds) seven written = absurd (omega (arith, seven))
  at_7 NoMemory seven written = absurd (omega (arith, seven))
  at_7 (Spoiled row) seven written = absurd (omega (arith, seven))
  at_7 StreetFault seven written = absurd (omega (arith, seven))

  pub store_rose : HasRun asked old new untouched status → status ≡ 7 → Rose old.cabinet_faults new.cabinet_faults × untouched
  store_rose (ending, is, ended) e = at_7 ending (sym is ∙ e) (not_cut ending 7 (omega arith) (sym is ∙ e) ended)

  at_9 : (ending : Ending) → status_of ending ≡ 9 → IsWritten asked old new untouched ending → untouched
  at_9 (Spoiled row) nine written = written.is.0.street
  at_9 SinkFault nine written = absurd (omega (arith, nine))
  at_9 (Done sessions deeds) nine written = absurd (omega (arith, nine))
  at_9 NoMemory nine written = absurd (omega (arith, nine))
  at_9 StoreFault nine written = absurd (omega (arith, nine))
  at_9 StreetFault nine written = absurd (omega (arith, nine))

  pub spoiled_alone : HasRun asked old new untouched status → status ≡ 9 → untouched
  spoiled_alone (ending, is, ended) e = at_9 ending (sym is ∙ e) (not_cut ending 9 (omega arith) (sym is ∙ e) ended)

  at_10 : (ending : Ending) → status_of ending ≡ 10 → IsWritten asked old new untouched ending → Rose old.street_faults new.street_faults
  at_10 StreetFault ten written = written.is.0
  at_10 SinkFault ten written = absurd (omega (arith, ten))
  at_10 (Done sessions deeds) ten written = absurd (omega (arith, ten))
  at_10 NoMemory ten written = absurd (omega (arith, ten))
  at_10 StoreFault ten written = absurd (omega (arith, ten))
  at_10 (Spoiled row) ten written = absurd (omega (arith, ten))

  pub street_rose : HasRun asked old new untouched status → status ≡ 10 → Rose old.street_faults new.street_faults
  street_rose (ending, is, ended) e = at_10 ending (sym is ∙ e) (not_cut ending 10 (omega arith) (sym is ∙ e) ended)

  pub serve_listed : HasRun asked old new untouched status → is_one_of (statuses_of true) status ≡ true
  serve_listed (ending, is, ended) = ap (is_one_of (statuses_of true)) is ∙ listed ending
    where
      listed : (e : Ending) → is_one_of (statuses_of true) (status_of e) ≡ true
      listed (Done sessions deeds) = refl
      listed SinkFault = refl
      listed StoreFault = refl
      listed NoMemory = refl
      listed (Spoiled row) = refl
      listed StreetFault = refl

-- ---- which words are right

right_of_serve : (a : Option words.Invocation) → words.serves a ≡ true → is_some a ≡ true
right_of_serve (Some a) e = refl
right_of_serve None e = absurd (true≢false (sym e))

pub serve_is_right : (ws : List (List ℕ)) → words.is_serve ws ≡ true → are_right ws ≡ true
serve_is_right ws e = right_of_serve (words.asked ws) e

right_of_page : (a : Option words.Invocation) → words.serves a ≡ false → is_some a ≡ words.comes_to_page a
right_of_page None e = refl
right_of_page (Some (words.making product request)) e = refl
right_of_page (Some (words.trying seed blocks)) e = refl
right_of_page (Some (words.serving service)) e = absurd (true≢false e)

pub page_is_right : (ws : List (List ℕ)) → words.is_serve ws ≡ false → are_right ws ≡ words.comes_to_page (words.asked ws)
page_is_right ws e = right_of_page (words.asked ws) e

-- ---- what the words of `serve` ask for

pub service_asked : (a : Option words.Invocation) → words.serves a ≡ true → (s : words.Service) × (a ≡ Some (words.serving s))
service_asked None e = absurd (true≢false (sym e))
service_asked (Some (words.making product request)) e = absurd (true≢false (sym e))
service_asked (Some (words.trying seed blocks)) e = absurd (true≢false (sym e))
service_asked (Some (words.serving s)) e = (s, refl)

service_or : words.Service → Option words.Invocation → words.Service
service_or other (Some (words.serving s)) = s
service_or other None = other
service_or other (Some (words.making product request)) = other
service_or other (Some (words.trying seed blocks)) = other

pub same_service : (a : Option words.Invocation) (s s' : words.Service) → a ≡ Some (words.serving s) → a ≡ Some (words.serving s') → s ≡ s'
unfolding service_or
same_service a s s' is is' = ap (service_or s) (sym is ∙ is')

-- ---- a page

pub page_asked : (c : Command) → words.comes_to_page (Some (shown c)) ≡ true
page_asked (Make product order) = refl
page_asked (Demo demo) = refl

-- a status that is one of these is no other
pub not_among : (statuses : List ℕ) (other status : ℕ) → is_one_of statuses other ≡ false → is_one_of statuses status ≡ true → status ≢ other
not_among statuses other status out is e = true≢false (sym is ∙ ap (is_one_of statuses) e ∙ out)

after_others : (a b c d : Bool) → d ≡ true → (a || (b || (c || d))) ≡ true
after_others true b c d e = refl
after_others false true c d e = refl
after_others false false true d e = refl
after_others false false false d e = e

pub page_listed : (status : ℕ) → is_one_of page_statuses status ≡ true → is_one_of (statuses_of false) status ≡ true
page_listed status is = after_others (2 == status) (6 == status) (8 == status) (is_one_of page_statuses status) is

module _ (status : ℕ) (text : List ℕ) (result : ℕ) (old new : Option (List ℕ)) (rose : Type 0) where
  pub ends_never : (other : ℕ) → other ≢ 6 → status ≢ other → Ends status text result old new rose → result ≢ other
  ends_never other six never (inl (is, wrote)) e = never (sym is ∙ e)
  ends_never other six never (inr (is, part, cause)) e = six (sym e ∙ is)

  pub sink_failed : status ≢ 6 → Ends status text result old new rose → result ≡ 6 → rose
  sink_failed never (inl (is, wrote)) e = absurd (never (sym is ∙ e))
  sink_failed never (inr (is, part, cause)) e = cause

  pub ends_listed : is_one_of (statuses_of false) status ≡ true → Ends status text result old new rose → is_one_of (statuses_of false) result ≡ true
  ends_listed listed (inl (is, wrote)) = ap (is_one_of (statuses_of false)) is ∙ listed
  ends_listed listed (inr (is, part, cause)) = ap (is_one_of (statuses_of false)) is
