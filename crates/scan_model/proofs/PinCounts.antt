-- How many pins each net has, pin by pin, and which pins are branches.
use Rattle.std.proofs.Common.{◌≡◌, ℕ, ◌+◌, ◌<◌, ◌≤◌, eqb, List, length, get_or, take, sym, ap, ◌∙◌, inl, inr, arith}
use Rattle.std.specs.Prelude.{count_by, nat_le, slice_set}
use Rattle.std.proofs.lemmas.Bool.{cases_eq, eq-eqb, ne_eqb}
use Rattle.std.proofs.lemmas.Grind.{get_or-set_at}
use Rattle.std.proofs.lemmas.List.{get_or-set_other, get_or_default, length-set}
use Rattle.std.proofs.lemmas.List.Sums.{count_by_more_no, count_by_more_yes, count_by-le-length}
use Rattle.scan_model.specs.declared.circuit.Net.{Net}
use Rattle.scan_model.specs.declared.circuit.Pin.{Pin}
use Rattle.scan_model.specs.Netlist.{is_branch, no_pin}
use Rattle.scan_model.specs.GateSearch.{wiring, IsWired}
use Rattle.scan_model.specs.PinCounts.{CountsPins}

counted_now : (nets : ℕ) (pins : List Pin) (counts : List ℕ) (n now : ℕ) → CountsPins nets pins counts → n < nets → now ≡ get_or counts n now → now ≡ count_by (λ q. eqb q.net n) pins
counted_now nets pins counts n now counted below is = is ∙ get_or_default counts n now 0 (omega (arith, counted.size)) ∙ counted.each n below

-- one more pin is counted
pub pin_counted : (nets : ℕ) (pins : List Pin) (counts : List ℕ) (i now : ℕ) (d : Pin) → CountsPins nets (take i pins) counts → i < length pins → (get_or pins i d).net < nets → now ≡ get_or counts (get_or pins i d).net now → CountsPins nets (take (i + 1) pins) (slice_set counts (get_or pins i d).net (now + 1))
pin_counted nets pins counts i now d so_far lt inside is =
    let net = (get_or pins i d).net in
    record {
      size = length-set counts net (now + 1) ∙ so_far.size;
      each = λ n below. elim (cases_eq n net) [
        | inl same ↦ get_or-set_at counts net n (now + 1) 0 same (omega (arith, so_far.size)) ∙ ap (λ k. k + 1) (counted_now nets (take i pins) counts net now so_far inside is ∙ ap (λ k. count_by (λ q. eqb q.net k) (take i pins)) (sym same))
            ∙ sym (count_by_more_yes (λ q. eqb q.net n) pins i d lt (eq-eqb net n (sym same)))
        | inr other ↦ get_or-set_other counts net n (now + 1) 0 other ∙ so_far.each n below
            ∙ sym (count_by_more_no (λ q. eqb q.net n) pins i d lt (ne_eqb net n (λ e. other (sym e))))
      ];
    }

-- a net has at most as many pins as there are
pub count_few : (nets : ℕ) (pins : List Pin) (counts : List ℕ) (n now : ℕ) → CountsPins nets pins counts → n < nets → now ≡ get_or counts n now → now ≤ length pins
count_few nets pins counts n now counted below is = omega (arith, counted_now nets pins counts n now counted below is, count_by-le-length (λ q. eqb q.net n) pins)

-- the net of a pin is there
pub pin_net_there : (nets : List Net) (pins : List Pin) (i : ℕ) (d : Pin) → IsWired (wiring nets pins) → i < length pins → (get_or pins i d).net < length nets
pin_net_there nets pins i d wired lt = rw (get_or_default pins i d no_pin lt) (wired.pin_nets i lt)

-- whether a pin is a branch, from the count of its net
pub branch_counted : (nets : List Net) (pins : List Pin) (counts : List ℕ) (i now : ℕ) (d : Pin) → CountsPins (length nets) pins counts → i < length pins → (get_or pins i d).net < length nets → now ≡ get_or counts (get_or pins i d).net now → is_branch (wiring nets pins) i ≡ nat_le 2 now
branch_counted nets pins counts i now d counted lt inside is =
    ap (λ (p : Pin). nat_le 2 (count_by (λ q. eqb q.net p.net) pins)) (get_or_default pins i no_pin d lt)
    ∙ ap (λ n. nat_le 2 n) (sym (counted_now (length nets) pins counts (get_or pins i d).net now counted inside is))
