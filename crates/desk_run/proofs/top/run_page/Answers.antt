use Rattle.std.proofs.Common.{◌∙◌, map, string_bytes, codes, inl, inr, refl, sym, ap, arith, true≢false}
use Rattle.command_words.specs.Invocations.{comes_to_page}
use Rattle.command_words.specs.CommandViews.{shown}
use Rattle.desk_commands.specs.CommandEnds.{page_statuses}
use Rattle.desk_commands.proofs.NoPage.{no_page}
use Rattle.desk_run.proofs.Runs.{asked_due}
use Rattle.desk_run.proofs.Served.{ends_listed, ends_never, not_among, page_asked, page_listed, sink_failed}
use Rattle.desk_run.proofs.top.run_page.Goals as goal

pub returns-in-Ok-None-clause-told : goal.returns-in-Ok-None-clause-told
returns-in-Ok-None-clause-told g c = λ held e.
    let wrong = rw c.in-Ok-None.field-0-is at c.in-Ok-None.ensures.taken in
    rw (no_page (map string_bytes c.args.words.now) held wrong)
    (record { status = 2; text = codes "words not understood\n"; due = inl (inl (refl, refl)); ends = c.finish.ensures.ends })

pub returns-in-Err-clause-told : goal.returns-in-Err-clause-told
returns-in-Err-clause-told g c = λ held e.
    record { status = 8; text = codes "memory\n"; due = inr (refl, refl); ends = c.finish-in-Err.ensures.ends }

pub page_of_command-requires-clause-sound : goal.page_of_command-requires-clause-sound
page_of_command-requires-clause-sound g c κs within =
    let says = rw c.in-Ok-Some.field-0-is at c.in-Ok-Some.ensures.taken in
    says.1

pub returns-in-Ok-clause-told : goal.returns-in-Ok-clause-told
returns-in-Ok-clause-told g c = λ held e.
    let says = rw c.in-Ok-Some.field-0-is at c.in-Ok-Some.ensures.taken in
    let page = c.in-Ok.page in
    record {
      status = page.status;
      text = page.text;
      due = inl (asked_due (map string_bytes c.args.words.now) held (shown c.in-Ok-Some.command) _ page.status page.text says.0 (c.in-Ok.ensures.told held e));
      ends = rw c.as_slice.ensures at c.finish-in-Ok.ensures.ends;
    }

pub returns-clause-told : goal.returns-clause-told
returns-clause-told g c = λ held e.
    record { status = 8; text = codes "memory\n"; due = inr (refl, refl); ends = c.finish-in-Err-page_of_command.ensures.ends }

pub returns-in-Ok-clause-wrong : goal.returns-in-Ok-clause-wrong
returns-in-Ok-clause-wrong g c = λ wrong.
    let says = rw c.in-Ok-Some.field-0-is at c.in-Ok-Some.ensures.taken in
    absurd (true≢false (sym (ap comes_to_page says.0 ∙ page_asked c.in-Ok-Some.command) ∙ wrong))

pub returns-clause-wrong : goal.returns-clause-wrong
returns-clause-wrong g c = λ wrong.
    let says = rw c.in-Ok-Some.field-0-is at c.in-Ok-Some.ensures.taken in
    absurd (true≢false (sym (ap comes_to_page says.0 ∙ page_asked c.in-Ok-Some.command) ∙ wrong))

pub returns-in-Ok-clause-right : goal.returns-in-Ok-clause-right
returns-in-Ok-clause-right g c = λ two.
    absurd (ends_never _ _ _ _ _ _ 2 (omega arith) (not_among page_statuses 2 c.in-Ok.page.status refl c.in-Ok.ensures.statuses) c.finish-in-Ok.ensures.ends two)

pub returns-in-Ok-clause-misunderstood : goal.returns-in-Ok-clause-misunderstood
returns-in-Ok-clause-misunderstood g c = λ two.
    absurd (ends_never _ _ _ _ _ _ 2 (omega arith) (not_among page_statuses 2 c.in-Ok.page.status refl c.in-Ok.ensures.statuses) c.finish-in-Ok.ensures.ends two)

pub returns-in-Ok-clause-memory : goal.returns-in-Ok-clause-memory
returns-in-Ok-clause-memory g c = λ eight.
    absurd (ends_never _ _ _ _ _ _ 8 (omega arith) (not_among page_statuses 8 c.in-Ok.page.status refl c.in-Ok.ensures.statuses) c.finish-in-Ok.ensures.ends eight)

pub returns-in-Ok-clause-sink_fault : goal.returns-in-Ok-clause-sink_fault
returns-in-Ok-clause-sink_fault g c = sink_failed _ _ _ _ _ _ (not_among page_statuses 6 c.in-Ok.page.status refl c.in-Ok.ensures.statuses) c.finish-in-Ok.ensures.ends

pub returns-in-Ok-None-clause-statuses : goal.returns-in-Ok-None-clause-statuses
returns-in-Ok-None-clause-statuses g c = ends_listed _ _ _ _ _ _ refl c.finish.ensures.ends

pub returns-in-Err-clause-statuses : goal.returns-in-Err-clause-statuses
returns-in-Err-clause-statuses g c = ends_listed _ _ _ _ _ _ refl c.finish-in-Err.ensures.ends

pub returns-in-Ok-clause-statuses : goal.returns-in-Ok-clause-statuses
returns-in-Ok-clause-statuses g c = ends_listed _ _ _ _ _ _ (page_listed c.in-Ok.page.status c.in-Ok.ensures.statuses) c.finish-in-Ok.ensures.ends

pub returns-clause-statuses : goal.returns-clause-statuses
returns-clause-statuses g c = ends_listed _ _ _ _ _ _ refl c.finish-in-Err-page_of_command.ensures.ends
