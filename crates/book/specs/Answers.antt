-- What the calls of a book answer after a list of deeds.
use Rattle.std.specs.Prelude.{ℕ, ◌+◌, ◌-◌, ◌==◌, ◌||◌, nat_le, nat_lt, if◌then◌else◌, List, length, take, slice_get, Option, Some, None, Result, Ok, Err}
use Rattle.std.specs.List.{list_any, position_or_len}
use Rattle.std.specs.Str.{bytes_eq}
use Rattle.sha2.specs.Sha256.{sha256}
use Rattle.desk_outside.specs.declared.deed.Deed.{Deed}
use Rattle.scan_model.specs.Words.{has_word}
use Rattle.diagnosis.specs.declared.put.Put.{Put}
use Rattle.diagnosis.specs.declared.put.Put.TheVariants.{Created, Same}
use Rattle.book.specs.declared.answers.PutFault.{PutFault}
use Rattle.book.specs.declared.answers.PutFault.TheVariants as put_fault
use Rattle.book.specs.declared.answers.LookFault.{LookFault}
use Rattle.book.specs.declared.answers.LookFault.TheVariants as look_fault
use Rattle.die_entries.specs.declared.sign.Sign.{Sign as SignOff}
use Rattle.die_entries.specs.Entries.{is_signed_by}
use Rattle.book.specs.Deeds.{designs, design_text, die_logs, die_signs}

-- ---- changes

-- the number of the design of a name, from 1
abbrev pub design_number : List Deed → List ℕ → ℕ
design_number deeds name = position_or_len (λ d. bytes_eq d.name name) (designs deeds) + 1

module _ (limit : ℕ) (deeds : List Deed) where
  -- what isn't there yet is created, as the entry of this number, where there is room
  abbrev pub create : ℕ → Result Put PutFault
  create number = if nat_le limit (length deeds) then Err (put_fault.Full limit) else Ok (Created number)

  abbrev pub design_beside : Option (List ℕ) → List ℕ → List ℕ → Result Put PutFault
  design_beside None name text = create (length (designs deeds) + 1)
  design_beside (Some kept) name text =
      if bytes_eq kept text then Ok (Same (design_number deeds name)) else Err (put_fault.NameTaken (sha256 kept))

  abbrev pub design_answer : List ℕ → List ℕ → Result Put PutFault
  design_answer name text = design_beside (design_text deeds name) name text

  -- among the logs of its die
  abbrev pub log_among : List (List ℕ) → List ℕ → Result Put PutFault
  log_among logs text =
      if has_word logs text then Ok (Same (position_or_len (bytes_eq text) logs + 1)) else create (length logs + 1)

  abbrev pub log_beside : Option (List ℕ) → List (List ℕ) → List ℕ → Result Put PutFault
  log_beside None logs text = Err put_fault.UnknownDesign
  log_beside (Some kept) logs text = log_among logs text

  abbrev pub log_answer : List ℕ → List ℕ → List ℕ → Result Put PutFault
  log_answer design die text = log_beside (design_text deeds design) (die_logs deeds design die) text

  -- among the sign-offs of its die
  abbrev pub sign_among : List SignOff → ℕ → List ℕ → Result Put PutFault
  sign_among signs revision signer =
      if list_any (is_signed_by revision signer) signs then Ok (Same (position_or_len (is_signed_by revision signer) signs + 1))
      else create (length signs + 1)

  -- a sign-off with a digest, where the right one is that of the die's report at the revision
  abbrev pub sign_answer : List ℕ → List ℕ → ℕ → List ℕ → List ℕ → List ℕ → Result Put PutFault
  sign_answer design die revision right signer digest =
      if bytes_eq digest right then sign_among (die_signs deeds design die) revision signer else Err (put_fault.DigestDiffers right)

-- ---- looks

abbrev pub known_design : Option (List ℕ) → Result (List ℕ) LookFault
known_design None = Err look_fault.UnknownDesign
known_design (Some text) = Ok text

-- the text of a design
abbrev pub design_look : List Deed → List ℕ → Result (List ℕ) LookFault
design_look deeds name = known_design (design_text deeds name)

-- goes on with what was found
abbrev pub and_look : {X Y : Type 0} → Result X LookFault → (X → Result Y LookFault) → Result Y LookFault
and_look (Ok x) next = next x
and_look (Err fault) next = Err fault

-- the first so many logs of a die, or all
abbrev pub up_to : List (List ℕ) → Option ℕ → Result (List (List ℕ)) LookFault
up_to logs None = Ok logs
up_to logs (Some revision) =
    if (revision == 0) || nat_lt (length logs) revision then Err (look_fault.UnknownRevision (length logs)) else Ok (take revision logs)

-- the logs of a die that has one
abbrev pub known_die : List (List ℕ) → Result (List (List ℕ)) LookFault
known_die logs = if length logs == 0 then Err look_fault.UnknownDie else Ok logs

-- the log texts of a die at a revision, or at its last
abbrev pub die_look : List Deed → List ℕ → List ℕ → Option ℕ → Result (List (List ℕ)) LookFault
die_look deeds design die revision =
    and_look (design_look deeds design) (λ text. and_look (known_die (die_logs deeds design die)) (λ logs. up_to logs revision))

abbrev pub sign_numbered : List SignOff → ℕ → Result SignOff LookFault
sign_numbered signs number = there (if number == 0 then None else slice_get signs (number - 1))
  where
    there : Option SignOff → Result SignOff LookFault
    there None = Err (look_fault.UnknownSign (length signs))
    there (Some sign) = Ok sign

-- a sign-off of a die, by its number from 1
abbrev pub sign_look : List Deed → List ℕ → List ℕ → ℕ → Result SignOff LookFault
sign_look deeds design die number =
    and_look (design_look deeds design) (λ text. and_look (known_die (die_logs deeds design die)) (λ logs. sign_numbered (die_signs deeds design die) number))
