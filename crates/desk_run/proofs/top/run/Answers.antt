use Rattle.std.proofs.Common.{◌≡◌, ◌∙◌, map, string_bytes, true, false, refl, sym, ap, true≢false}
use Rattle.command_words.specs.Invocations.{asked, is_serve, serves}
use Rattle.desk_commands.specs.CommandEnds.{is_one_of}
use Rattle.desk_run.specs.RunEnds.{statuses_of}
use Rattle.desk_run.proofs.Served.{never_2, never_5, not_among, sink_rose, store_rose, spoiled_alone, street_rose, serve_is_right, page_is_right, serve_listed, service_asked}
use Rattle.desk_run.proofs.top.run.Goals as goal

pub returns-then-is_serve-clause-told : goal.returns-then-is_serve-clause-told
returns-then-is_serve-clause-told g c =
    let words = map string_bytes c.args.words.now in
    let serves : is_serve words ≡ true = sym c.is_serve.ensures ∙ c.if-is_serve.true in
    λ alone held e. absurd (true≢false (sym serves ∙ alone))

pub returns-then-is_serve-clause-served : goal.returns-then-is_serve-clause-served
returns-then-is_serve-clause-served g c = c.run_serve.ensures.served

pub returns-then-is_serve-clause-files_alone : goal.returns-then-is_serve-clause-files_alone
returns-then-is_serve-clause-files_alone g c =
    let words = map string_bytes c.args.words.now in
    let serves : is_serve words ≡ true = sym c.is_serve.ensures ∙ c.if-is_serve.true in
    λ alone. absurd (true≢false (sym serves ∙ alone))

pub returns-then-is_serve-clause-no_files : goal.returns-then-is_serve-clause-no_files
returns-then-is_serve-clause-no_files g c =
    let words = map string_bytes c.args.words.now in
    let serves : is_serve words ≡ true = sym c.is_serve.ensures ∙ c.if-is_serve.true in
    λ e. refl

pub returns-then-is_serve-clause-wrong : goal.returns-then-is_serve-clause-wrong
returns-then-is_serve-clause-wrong g c =
    let words = map string_bytes c.args.words.now in
    let serves : is_serve words ≡ true = sym c.is_serve.ensures ∙ c.if-is_serve.true in
    λ wrong. absurd (true≢false (sym (serve_is_right words serves) ∙ wrong))

pub returns-then-is_serve-clause-right : goal.returns-then-is_serve-clause-right
returns-then-is_serve-clause-right g c =
    let words = map string_bytes c.args.words.now in
    let serves : is_serve words ≡ true = sym c.is_serve.ensures ∙ c.if-is_serve.true in
    let service = service_asked (asked words) serves in
    let ran = c.run_serve.ensures.served service.0 service.1 in
    λ two. absurd (never_2 _ _ _ _ _ ran two)

pub returns-then-is_serve-clause-shelf_fault : goal.returns-then-is_serve-clause-shelf_fault
returns-then-is_serve-clause-shelf_fault g c =
    let words = map string_bytes c.args.words.now in
    let serves : is_serve words ≡ true = sym c.is_serve.ensures ∙ c.if-is_serve.true in
    let service = service_asked (asked words) serves in
    let ran = c.run_serve.ensures.served service.0 service.1 in
    λ five. absurd (never_5 _ _ _ _ _ ran five)

pub returns-then-is_serve-clause-sink_fault : goal.returns-then-is_serve-clause-sink_fault
returns-then-is_serve-clause-sink_fault g c =
    let words = map string_bytes c.args.words.now in
    let serves : is_serve words ≡ true = sym c.is_serve.ensures ∙ c.if-is_serve.true in
    let service = service_asked (asked words) serves in
    let ran = c.run_serve.ensures.served service.0 service.1 in
    λ six. sink_rose _ _ _ _ _ ran six

pub returns-then-is_serve-clause-store_fault : goal.returns-then-is_serve-clause-store_fault
returns-then-is_serve-clause-store_fault g c =
    let words = map string_bytes c.args.words.now in
    let serves : is_serve words ≡ true = sym c.is_serve.ensures ∙ c.if-is_serve.true in
    let service = service_asked (asked words) serves in
    let ran = c.run_serve.ensures.served service.0 service.1 in
    λ seven. store_rose _ _ _ _ _ ran seven

pub returns-then-is_serve-clause-memory : goal.returns-then-is_serve-clause-memory
returns-then-is_serve-clause-memory g c =
    let words = map string_bytes c.args.words.now in
    let serves : is_serve words ≡ true = sym c.is_serve.ensures ∙ c.if-is_serve.true in
    λ alone. absurd (true≢false (sym serves ∙ alone))

pub returns-then-is_serve-clause-spoiled : goal.returns-then-is_serve-clause-spoiled
returns-then-is_serve-clause-spoiled g c =
    let words = map string_bytes c.args.words.now in
    let serves : is_serve words ≡ true = sym c.is_serve.ensures ∙ c.if-is_serve.true in
    let service = service_asked (asked words) serves in
    let ran = c.run_serve.ensures.served service.0 service.1 in
    λ nine. spoiled_alone _ _ _ _ _ ran nine

pub returns-then-is_serve-clause-street_fault : goal.returns-then-is_serve-clause-street_fault
returns-then-is_serve-clause-street_fault g c =
    let words = map string_bytes c.args.words.now in
    let serves : is_serve words ≡ true = sym c.is_serve.ensures ∙ c.if-is_serve.true in
    let service = service_asked (asked words) serves in
    let ran = c.run_serve.ensures.served service.0 service.1 in
    λ ten. street_rose _ _ _ _ _ ran ten

pub returns-then-is_serve-clause-misunderstood : goal.returns-then-is_serve-clause-misunderstood
returns-then-is_serve-clause-misunderstood g c =
    let words = map string_bytes c.args.words.now in
    let serves : is_serve words ≡ true = sym c.is_serve.ensures ∙ c.if-is_serve.true in
    let service = service_asked (asked words) serves in
    let ran = c.run_serve.ensures.served service.0 service.1 in
    λ two. absurd (never_2 _ _ _ _ _ ran two)

pub returns-clause-told : goal.returns-clause-told
returns-clause-told g c =
    let words = map string_bytes c.args.words.now in
    let page : is_serve words ≡ false = sym c.is_serve.ensures ∙ c.if-is_serve.false in
    λ alone. c.run_page.ensures.told

pub returns-clause-served : goal.returns-clause-served
returns-clause-served g c =
    let words = map string_bytes c.args.words.now in
    let page : is_serve words ≡ false = sym c.is_serve.ensures ∙ c.if-is_serve.false in
    λ service is. absurd (true≢false (sym (ap serves is) ∙ page))

pub returns-clause-files_alone : goal.returns-clause-files_alone
returns-clause-files_alone g c =
    let words = map string_bytes c.args.words.now in
    let page : is_serve words ≡ false = sym c.is_serve.ensures ∙ c.if-is_serve.false in
    λ alone. (refl, refl)

pub returns-clause-no_files : goal.returns-clause-no_files
returns-clause-no_files g c =
    let words = map string_bytes c.args.words.now in
    let page : is_serve words ≡ false = sym c.is_serve.ensures ∙ c.if-is_serve.false in
    λ e. absurd (true≢false (sym e ∙ page))

pub returns-clause-wrong : goal.returns-clause-wrong
returns-clause-wrong g c =
    let words = map string_bytes c.args.words.now in
    let page : is_serve words ≡ false = sym c.is_serve.ensures ∙ c.if-is_serve.false in
    λ wrong. c.run_page.ensures.wrong (sym (page_is_right words page) ∙ wrong)

pub returns-clause-right : goal.returns-clause-right
returns-clause-right g c =
    let words = map string_bytes c.args.words.now in
    let page : is_serve words ≡ false = sym c.is_serve.ensures ∙ c.if-is_serve.false in
    λ two. page_is_right words page ∙ c.run_page.ensures.right two

pub returns-clause-store_fault : goal.returns-clause-store_fault
returns-clause-store_fault g c =
    let words = map string_bytes c.args.words.now in
    let page : is_serve words ≡ false = sym c.is_serve.ensures ∙ c.if-is_serve.false in
    λ seven. absurd (not_among (statuses_of false) 7 c.run_page.result refl c.run_page.ensures.statuses seven)

pub returns-clause-spoiled : goal.returns-clause-spoiled
returns-clause-spoiled g c =
    let words = map string_bytes c.args.words.now in
    let page : is_serve words ≡ false = sym c.is_serve.ensures ∙ c.if-is_serve.false in
    λ nine. absurd (not_among (statuses_of false) 9 c.run_page.result refl c.run_page.ensures.statuses nine)

pub returns-clause-street_fault : goal.returns-clause-street_fault
returns-clause-street_fault g c =
    let words = map string_bytes c.args.words.now in
    let page : is_serve words ≡ false = sym c.is_serve.ensures ∙ c.if-is_serve.false in
    λ ten. absurd (not_among (statuses_of false) 10 c.run_page.result refl c.run_page.ensures.statuses ten)

pub returns-clause-memory : goal.returns-clause-memory
returns-clause-memory g c =
    let words = map string_bytes c.args.words.now in
    let page : is_serve words ≡ false = sym c.is_serve.ensures ∙ c.if-is_serve.false in
    λ alone. c.run_page.ensures.memory

pub returns-then-is_serve-clause-statuses : goal.returns-then-is_serve-clause-statuses
returns-then-is_serve-clause-statuses g c =
    let words = map string_bytes c.args.words.now in
    let serves : is_serve words ≡ true = sym c.is_serve.ensures ∙ c.if-is_serve.true in
    let service = service_asked (asked words) serves in
    let ran = c.run_serve.ensures.served service.0 service.1 in
    ap (λ b. is_one_of (statuses_of b) c.run_serve.result) serves ∙ serve_listed _ _ _ _ _ ran

pub returns-clause-statuses : goal.returns-clause-statuses
returns-clause-statuses g c =
    let words = map string_bytes c.args.words.now in
    let page : is_serve words ≡ false = sym c.is_serve.ensures ∙ c.if-is_serve.false in
    ap (λ b. is_one_of (statuses_of b) c.run_page.result) page ∙ c.run_page.ensures.statuses
