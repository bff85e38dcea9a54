-- What is known of the chains of lines without a fault.
use Rattle.std.proofs.Common.{◌≡◌, ℕ, ◌<◌, ◌≤◌, Bool, true, false, not, cond, ◌&&◌, List, [], ◌∷◌, ◌++◌, length, map, get_or, Option, Some, None, option_to_list, is_some, refl, sym, ap, ◌∙◌, arith, append_assoc, append-nil}
use Rattle.std.specs.Prelude.{All, bytes_eq, nat_eq, codes, nat_lt, nat_le}
use Rattle.std.specs.List.{IsDistinct, list_any, list_all}
use Rattle.std.proofs.lemmas.Bool.{ltb-true, leb-true, leb-false, not-false, or_parts, both_ways, false_from_ne_true, eqb-true}
use Rattle.std.proofs.lemmas.Cmp.{nat_list_eq_equiv}
use Rattle.std.proofs.lemmas.Slice.Eq.{bytes_eq-Decides}
use Rattle.std.proofs.lemmas.List.{length-map, get_or-map, map_push, map-append, length-append}
use Rattle.std.proofs.lemmas.List.Concat.{flat_map-append}
use Rattle.std.proofs.lemmas.List.Elements.{All-nil, All-cons, All-append, All-push, All-map}
use Rattle.std.proofs.lemmas.List.Sums.{passes_at_first}
use Rattle.std.proofs.lemmas.Map.Keys.{IsDistinct-push, IsDistinct-from_apart, apart_from_distinct}
use Rattle.scan_model.specs.declared.circuit.Driver.{Driver}
use Rattle.scan_model.specs.declared.circuit.Driver.TheVariants.{Input, Flop, Gate}
use Rattle.scan_model.specs.declared.circuit.Net.{Net}
use Rattle.scan_model.specs.Netlist.{Netlist, driver_of}
use Rattle.scan_model.specs.Words.{words, is_short, is_short_name, is_name_byte, has_word}
use Rattle.scan_model.specs.TextFaults.{lowest}
use Rattle.scan_model.specs.declared.rules.TheConstants.{OTHER_CHAIN_FORM, UNKNOWN_CELL, NOT_A_FLOP, CHAIN_TAKEN, TOO_MANY_CHAINS}
use Rattle.scan_model.specs.ScanText.{ChainNames, net_names, number_of_net, is_net, is_flop_net, is_flop_driver, chain_of, chain_limit, cells_named, has_other_form, is_taken, stands_again, cells_in, titles_in, scan_rules, numbered}
use Rattle.scan_model.specs.ScanTest.{IsFlop, cells_of, AreChains}
use Rattle.text_parts.proofs.Places.{any_position}
use Rattle.scan_text.proofs.Tables.{none_broken}

pub record AreSound (nets : List Net) (cs : List ChainNames) : Type 0 where
  pub are_nets : All (λ w. is_net nets w ≡ true) (cells_in cs)
  pub are_flops : All (λ w. is_flop_net nets w ≡ true) (cells_in cs)
  pub cells_differ : IsDistinct bytes_eq (cells_in cs)
  pub names_differ : IsDistinct bytes_eq (titles_in cs)
  pub names_fit : All (λ c. length c.name ≤ 64) cs
  pub few : length cs ≤ 256

pub none_sound : (nets : List Net) → AreSound nets []
unfolding IsDistinct
none_sound nets = record {
  are_nets = All-nil _;
  are_flops = All-nil _;
  cells_differ = tt;
  names_differ = tt;
  names_fit = All-nil _;
  few = omega arith;
}

-- ---- one more line

pub all_from_any : {X : Type 0} (p : X → Bool) (xs : List X) → list_any (λ x. not (p x)) xs ≡ false → All (λ x. p x ≡ true) xs
all_from_any p [] h = All-nil (λ x. p x ≡ true)
all_from_any p (x ∷ xs) h =
    let both = or_parts (not (p x)) (list_any (λ y. not (p y)) xs) h in
    All-cons (λ y. p y ≡ true) x xs (not-false (p x) both.0) (all_from_any p xs both.1)

distinct_more : (seen ws : List (List ℕ)) → IsDistinct bytes_eq seen → stands_again seen ws ≡ false → IsDistinct bytes_eq (seen ++ ws)
distinct_more seen [] h e = rw append-nil h
distinct_more seen (w ∷ ws) h e =
    let both = or_parts (has_word seen w) (stands_again (seen ++ w ∷ []) ws) e in
    let rest : IsDistinct bytes_eq ((seen ++ w ∷ []) ++ ws) = distinct_more (seen ++ w ∷ []) ws (IsDistinct-push nat_list_eq_equiv seen w h both.0) both.1 in
    rw append_assoc at rest

short_in : (k n s m : Bool) (x c : ChainNames) → cond (k && ((n && s) && m)) (Some x) None ≡ Some c → (s ≡ true) × (x ≡ c)
short_in true true true true x c e = (refl, cc)
short_in true true true false x c e = absurd cc
short_in true true false m x c e = absurd cc
short_in true false s m x c e = absurd cc
short_in false n s m x c e = absurd cc

-- the name of a chain's line is short
name_fits : (ws : List (List ℕ)) (c : ChainNames) → chain_of ws ≡ Some c → length c.name ≤ 64
name_fits [] c e = absurd cc
name_fits (w ∷ []) c e = absurd cc
name_fits (w ∷ v ∷ []) c e = absurd cc
name_fits (keyword ∷ name ∷ cell ∷ cells) c e =
    let h = short_in (bytes_eq keyword (codes "CHAIN")) (list_all is_name_byte name) (is_short name) (list_all is_short_name (cell ∷ cells)) (record { name = name; cells = cell ∷ cells }) c e in
    let fits : length name ≤ 64 = leb-true (length name) 64 h.0 in
    rw (← ap (λ x. x.name) h.1) fits

cells_push : (cs : List ChainNames) (c : ChainNames) → cells_in (cs ++ c ∷ []) ≡ cells_in cs ++ c.cells
cells_push cs c = flat_map-append (λ x. x.cells) cs (c ∷ []) ∙ ap (λ xs. cells_in cs ++ xs) (append-nil c.cells)

module _ (nets : List Net) (cs : List ChainNames) (sound : AreSound nets cs) where
  -- a line's chain, which breaks no rule
  chain_more : (ws : List (List ℕ)) (form : Bool) (o : Option ChainNames) → chain_of ws ≡ o
      → None ≡ lowest ((OTHER_CHAIN_FORM, form) ∷ (UNKNOWN_CELL, list_any (λ w. not (is_net nets w)) (cells_named o)) ∷ (NOT_A_FLOP, list_any (λ w. not (is_flop_net nets w)) (cells_named o)) ∷ (CHAIN_TAKEN, is_taken (cells_in cs) (titles_in cs) o) ∷ (TOO_MANY_CHAINS, is_some o && nat_le chain_limit (length (titles_in cs))) ∷ [])
      → AreSound nets (cs ++ option_to_list o)
  chain_more ws form None e none = rw append-nil sound
  chain_more ws form (Some c) e none =
      let whole = none_broken 11 12 13 14 15 form (list_any (λ w. not (is_net nets w)) c.cells) (list_any (λ w. not (is_flop_net nets w)) c.cells) (is_taken (cells_in cs) (titles_in cs) (Some c)) (nat_le chain_limit (length (titles_in cs))) none in
      let taken = or_parts (stands_again (cells_in cs) c.cells) (has_word (titles_in cs) c.name) whole.3 in
      let below : length (titles_in cs) < 256 = leb-false 256 (length (titles_in cs)) whole.4 in
      let both : length (titles_in cs) ≡ length cs = length-map cs (λ x. x.name) in
      record {
        are_nets = rw (cells_push cs c) (All-append (λ w. is_net nets w ≡ true) (cells_in cs) c.cells sound.are_nets (all_from_any (is_net nets) c.cells whole.1));
        are_flops = rw (cells_push cs c) (All-append (λ w. is_flop_net nets w ≡ true) (cells_in cs) c.cells sound.are_flops (all_from_any (is_flop_net nets) c.cells whole.2));
        cells_differ = rw (cells_push cs c) (distinct_more (cells_in cs) c.cells sound.cells_differ taken.0);
        names_differ = rw (map_push (λ x. x.name) cs c) (IsDistinct-push nat_list_eq_equiv (titles_in cs) c.name sound.names_differ taken.1);
        names_fit = All-push (λ x. length x.name ≤ 64) cs c sound.names_fit (name_fits ws c e);
        few = omega (arith, length-append cs (c ∷ []));
      }

  pub line_more : (line : List ℕ) → None ≡ lowest (scan_rules nets (cells_in cs) (titles_in cs) line) → AreSound nets (cs ++ option_to_list (chain_of (words line)))
  line_more line none = chain_more (words line) (has_other_form line (words line)) (chain_of (words line)) refl none

-- ---- the chains by number

flop_from : (d : Driver) → is_flop_driver d ≡ true → IsFlop d
flop_from Input e = absurd cc
flop_from Flop e = tt
flop_from (Gate kind) e = absurd cc

some_below : (b : Bool) (i : ℕ) → is_some (cond b (Some i) None) ≡ true → b ≡ true
some_below true i e = refl
some_below false i e = absurd cc

place_within : (nets : List Net) (w : List ℕ) → is_net nets w ≡ true → number_of_net nets w < length (net_names nets)
place_within nets w e =
    let place = number_of_net nets w in
    ltb-true place (length (net_names nets)) (some_below (nat_lt place (length (net_names nets))) place (any_position (bytes_eq w) (net_names nets) ∙ e))

-- the net of that number has the name
net_has_name : (nets : List Net) (w : List ℕ) → is_net nets w ≡ true → w ≡ get_or (net_names nets) (number_of_net nets w) []
net_has_name nets w e = (bytes_eq-Decides w (get_or (net_names nets) (number_of_net nets w) [])).0 (passes_at_first (bytes_eq w) (net_names nets) [] (place_within nets w e))

number_within : (nets : List Net) (w : List ℕ) → is_net nets w ≡ true → number_of_net nets w < length nets
number_within nets w e = rw (← length-map nets (λ n. n.name)) (place_within nets w e)

cells_numbered : (nets : List Net) (cs : List ChainNames) → cells_of (map (numbered nets) cs) ≡ map (number_of_net nets) (cells_in cs)
cells_numbered nets [] = refl
cells_numbered nets (c ∷ cs) =
    ap (λ xs. map (number_of_net nets) c.cells ++ xs) (cells_numbered nets cs) ∙ sym (map-append (number_of_net nets) c.cells (cells_in cs))

names_numbered : (nets : List Net) (cs : List ChainNames) → map (λ h. h.name) (map (numbered nets) cs) ≡ titles_in cs
names_numbered nets [] = refl
names_numbered nets (c ∷ cs) = ap (λ xs. c.name ∷ xs) (names_numbered nets cs)

-- two names of nets with one number are equal
names_apart : (nets : List Net) (v w : List ℕ) → is_net nets v ≡ true → is_net nets w ≡ true → bytes_eq v w ≡ false → nat_eq (number_of_net nets v) (number_of_net nets w) ≡ false
names_apart nets v w hv hw apart = false_from_ne_true (nat_eq (number_of_net nets v) (number_of_net nets w)) (λ same.
    let numbers = eqb-true (number_of_net nets v) (number_of_net nets w) same in
    let names : v ≡ w = net_has_name nets v hv ∙ ap (λ n. get_or (net_names nets) n []) numbers ∙ sym (net_has_name nets w hw) in
    both_ways (bytes_eq v w) apart ((bytes_eq-Decides v w).1 names))

pub numbered_fit : (c : Netlist) (cs : List ChainNames) → AreSound c.nets cs → AreChains c (map (numbered c.nets) cs)
numbered_fit c cs sound =
    let number = number_of_net c.nets in
    let ws = cells_in cs in
    let same_length : length (map number ws) ≡ length ws = length-map ws number in
    record {
      cells = rw (cells_numbered c.nets cs) (All-map (λ n. (n < length c.nets) × IsFlop (driver_of c n)) number ws (λ k d lt. (number_within c.nets (get_or ws k d) (sound.are_nets k d lt), flop_from (driver_of c (number (get_or ws k d))) (sound.are_flops k d lt))));
      cells_differ = rw (cells_numbered c.nets cs) (IsDistinct-from_apart nat_eq (map number ws) (λ i j d lt lt'.
          let high : j < length ws = omega arith in
          let low : i < length ws = omega arith in
          rw (get_or-map number ws i [] d low, get_or-map number ws j [] d high) (names_apart c.nets (get_or ws i []) (get_or ws j []) (sound.are_nets i [] low) (sound.are_nets j [] high) (apart_from_distinct bytes_eq ws i j [] sound.cells_differ lt high))));
      names_differ = rw (names_numbered c.nets cs) sound.names_differ;
      names_fit = All-map (λ h. length h.name ≤ 64) (numbered c.nets) cs sound.names_fit;
      few = rw (length-map cs (numbered c.nets)) sound.few;
    }
