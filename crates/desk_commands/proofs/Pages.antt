-- Pages that are due.
use Rattle.std.proofs.Common.{◌≡◌, inl, inr, List, ℕ, true, refl, Result, Ok, Err}
use Rattle.std.specs.Prelude.{IfOk}
use Rattle.scan_model.specs.declared.rows.NoMemory.{NoMemory}
use Rattle.desk_commands.specs.declared.files.Stop.{Stop}
use Rattle.desk_commands.specs.declared.files.Stop.TheVariants.{Refused, Fault, NoMemory as LacksMemory}
use Rattle.desk_commands.specs.declared.page.Page.{Page}
use Rattle.desk_commands.specs.FileReadings.{Reading}
use Rattle.desk_commands.specs.Work.{Output, output_of}
use Rattle.desk_commands.specs.CommandStops.{Follows, IsPageOf, IsPageOfAnswer, is_fault, ends_by_fault}
use Rattle.desk_commands.specs.CommandEnds.{IsDueOf}

-- the page of a stop is due where reading comes to that stop, and where the shelf failed, its count rose
pub stop_is_due : (reading : Reading (List ℕ)) (rose : Type 0) (stop : Stop) (status : ℕ) (text : List ℕ) → Follows {X = List ℕ} (Err stop) reading
    → (is_fault stop ≡ true → rose) → IsPageOf stop status text → IsDueOf (output_of reading) rose status text
stop_is_due reading rose (Refused n refusal) status text is cause page = rw is (inl page)
stop_is_due reading rose (Fault n) status text is cause page =
    inr (record { name = n.now; is_read = is; status_is = page.0; text_is = page.1; cause = cause refl })
stop_is_due reading rose LacksMemory status text is cause page = absurd page

-- so is the page of an answer to which reading comes
pub answer_is_due : (reading : Reading (List ℕ)) (rose : Type 0) (answer : Result (List ℕ) Stop) (status : ℕ) (text : List ℕ) → Follows answer reading
    → (ends_by_fault answer ≡ true → rose) → IsPageOfAnswer answer status text → IsDueOf (output_of reading) rose status text
answer_is_due reading rose (Ok written) status text is cause page = rw is (inl page)
answer_is_due reading rose (Err stop) status text is cause page = stop_is_due reading rose stop status text is cause page

-- where there is a page, it is due
pub page_is_due : (reading : Reading (List ℕ)) (rose : Type 0) (answer : Result (List ℕ) Stop) (made : Result Page NoMemory) → Follows answer reading
    → (ends_by_fault answer ≡ true → rose) → IfOk made (λ page. IsPageOfAnswer answer page.status page.text)
    → IfOk made (λ page. IsDueOf (output_of reading) rose page.status page.text)
page_is_due reading rose answer (Ok page) is cause shows = answer_is_due reading rose answer page.status page.text is cause shows
page_is_due reading rose answer (Err e) is cause shows = tt

-- so is the page of a status and a text that are due
pub output_is_due : (output : Output) (rose : Type 0) (made : Result Page NoMemory) → IfOk made (λ page. page.status ≡ output.status)
    → IfOk made (λ page. page.text ≡ output.text) → IfOk made (λ page. IsDueOf output rose page.status page.text)
output_is_due output rose (Ok page) status text = inl (status, text)
output_is_due output rose (Err e) status text = tt
