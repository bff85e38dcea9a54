-- Steps of the loops that copy the listed bits.
use Rattle.std.proofs.Common.{◌≡◌, ℕ, ◌+◌, ◌<◌, Bool, true, false, cond, ◌||◌, ◌&&◌, eqb, List, length, get_or, take, refl, sym, ap, ◌∙◌}
use Rattle.std.specs.List.{list_any}
use Rattle.std.proofs.lemmas.Bool.{and_parts, eqb-true}
use Rattle.std.proofs.lemmas.List.Folds.{list_any_more}
use Rattle.scan_model.specs.declared.logs.Bit.{Bit}
use Rattle.scan_model.specs.BitTable.{table_bit}
use Rattle.scan_model.specs.Coverage.{bit_of, same_bit}

here_or_there : (here seen is_set from old : Bool) → (here ≡ true → is_set ≡ from) → cond here is_set (cond seen from old) ≡ cond (seen || here) from old
here_or_there true true is_set from old is = is refl
here_or_there true false is_set from old is = is refl
here_or_there false true is_set from old is = refl
here_or_there false false is_set from old is = refl

-- one more listed bit is copied
pub copies_on : (from into0 into1 into2 : List ℕ) (points : ℕ) (fails : List Bit) (i : ℕ) (d : Bit) (is_set : Bool) → i < length fails
    → is_set ≡ table_bit from points (get_or fails i d).pattern (get_or fails i d).point
    → ((w k : ℕ) → k < points → table_bit into2 points w k ≡ cond (eqb w (get_or fails i d).pattern && eqb k (get_or fails i d).point) is_set (table_bit into1 points w k))
    → ((w k : ℕ) → k < points → table_bit into1 points w k ≡ cond (list_any (same_bit (bit_of w k)) (take i fails)) (table_bit from points w k) (table_bit into0 points w k))
    → (w k : ℕ) → k < points → table_bit into2 points w k ≡ cond (list_any (same_bit (bit_of w k)) (take (i + 1) fails)) (table_bit from points w k) (table_bit into0 points w k)
copies_on from into0 into1 into2 points fails i d is_set lt is written so_far w k in_row =
    let p = (get_or fails i d).pattern in
    let q = (get_or fails i d).point in
    let here = eqb w p && eqb k q in
    let seen = list_any (same_bit (bit_of w k)) (take i fails) in
    written w k in_row ∙ ap (λ (b : Bool). cond here is_set b) (so_far w k in_row)
    ∙ here_or_there here seen is_set (table_bit from points w k) (table_bit into0 points w k)
    (λ same.
    let both = and_parts (eqb w p) (eqb k q) same in
    is ∙ sym (ap (λ (n : ℕ). table_bit from points n k) (eqb-true w p both.0) ∙ ap (λ (n : ℕ). table_bit from points p n) (eqb-true k q both.1)))
    ∙ ap (λ (b : Bool). cond b (table_bit from points w k) (table_bit into0 points w k)) (sym (list_any_more (same_bit (bit_of w k)) fails i d lt))

set_or_seen : (here seen old : Bool) → (here || (seen || old)) ≡ ((seen || here) || old)
set_or_seen true true old = refl
set_or_seen true false old = refl
set_or_seen false true old = refl
set_or_seen false false old = refl

-- one more listed bit is set
pub sets_on : (words0 words1 words2 : List ℕ) (points : ℕ) (fails : List Bit) (i : ℕ) (d : Bit) → i < length fails
    → ((w k : ℕ) → k < points → table_bit words2 points w k ≡ ((eqb w (get_or fails i d).pattern && eqb k (get_or fails i d).point) || table_bit words1 points w k))
    → ((w k : ℕ) → k < points → table_bit words1 points w k ≡ (list_any (same_bit (bit_of w k)) (take i fails) || table_bit words0 points w k))
    → (w k : ℕ) → k < points → table_bit words2 points w k ≡ (list_any (same_bit (bit_of w k)) (take (i + 1) fails) || table_bit words0 points w k)
sets_on words0 words1 words2 points fails i d lt is_set so_far w k in_row =
    let here = eqb w (get_or fails i d).pattern && eqb k (get_or fails i d).point in
    let seen = list_any (same_bit (bit_of w k)) (take i fails) in
    let old = table_bit words0 points w k in
    is_set w k in_row ∙ ap (λ (b : Bool). here || b) (so_far w k in_row) ∙ set_or_seen here seen old
    ∙ ap (λ (b : Bool). b || old) (sym (list_any_more (same_bit (bit_of w k)) fails i d lt))
