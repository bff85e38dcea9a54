-- One more line of a scan text.
use Rattle.std.proofs.Common.{◌≡◌, ℕ, ◌+◌, ◌-◌, ◌<◌, ◌≤◌, List, [], ◌∷◌, ◌++◌, length, take, map, get_or, Option, Some, None, Ok, Err, option_to_list, refl, sym, ap, ◌∙◌, arith, Bor}
use Rattle.std.specs.List.{filter_map, cons_option}
use Rattle.std.proofs.lemmas.List.Elements.{filter_map-append}
use Rattle.std.proofs.lemmas.List.{take_more, map_push, length-map, get_or-map, take_all}
use Rattle.scan_model.specs.declared.circuit.Net.{Net}
use Rattle.scan_model.specs.Lines.{line_at}
use Rattle.scan_model.specs.Words.{words, word_lines}
use Rattle.scan_model.specs.TextFaults.{lowest, fault_from, first_fault, refused_or}
use Rattle.scan_model.specs.ScanText.{chain_of, chains, chains_before, cells_in, titles_in, scan_rule, scan_rules, numbered, chains_of}
use Rattle.scan_model.proofs.FaultSteps.{fault_goes_on, fault_is_here, fault_is_none}
use Rattle.text_parts.specs.Views.{nows}
use Rattle.scan_text.proofs.SoundChains.{AreSound, line_more}
use Rattle.scan_text.specs.ScanDrafts.{IsAfter}
use Rattle.scan_text.specs.declared.chains.ScanDraft.{ScanDraft}

filter_map_one : {X Y : Type 0} (f : X → Option Y) (x : X) → filter_map f (x ∷ []) ≡ option_to_list (f x)
filter_map_one f x = one (f x)
  where
    one : {Y : Type 0} (o : Option Y) → cons_option o [] ≡ option_to_list o
    one None = refl
    one (Some y) = refl

-- the chains of one more line
chains_before_more : (ls : List (List ℕ)) (i : ℕ) → i < length ls → chains_before ls (i + 1) ≡ chains_before ls i ++ option_to_list (chain_of (words (line_at ls i)))
chains_before_more ls i lt =
    ap (λ xs. filter_map chain_of (word_lines xs)) (take_more ls i [] lt)
    ∙ ap (filter_map chain_of) (map_push words (take i ls) (line_at ls i))
    ∙ filter_map-append chain_of (word_lines (take i ls)) (words (line_at ls i) ∷ [])
    ∙ ap (λ cs. chains_before ls i ++ cs) (filter_map_one chain_of (words (line_at ls i)))

module _ (nets : List Net) (ls : List (List ℕ)) (items : List (Bor (List ℕ))) (i : ℕ) (d : Bor (List ℕ)) (kept : ScanDraft)
    (same : nows items ≡ ls)
    (so_far : fault_from (scan_rule nets ls) i (length ls - i) ≡ first_fault (scan_rule nets ls) (length ls))
    (after : IsAfter nets kept (chains_before ls i)) where
  lines_length : length items ≡ length ls
  lines_length = sym (length-map items (λ x. x.now)) ∙ ap length same

  line_is : i < length items → (get_or items i d).now ≡ line_at ls i
  line_is lt = sym (get_or-map (λ x. x.now) items i d [] lt) ∙ ap (λ ts. line_at ts i) same

  rule_is : i < length items → lowest (scan_rules nets kept.cells kept.titles (get_or items i d).now) ≡ scan_rule nets ls i
  rule_is lt = rw (after.cells, after.titles, line_is lt) refl

  -- the line has a fault
  pub line_is_faulty : (r : ℕ) → i < length items → Some r ≡ lowest (scan_rules nets kept.cells kept.titles (get_or items i d).now) → refused_or (first_fault (scan_rule nets ls) (length ls)) (chains_of nets ls) ≡ Err (i + 1, r)
  line_is_faulty r lt some =
      let lt' : i < length ls = omega (arith, lines_length) in
      let fault = fault_is_here (scan_rule nets ls) (length ls) i (first_fault (scan_rule nets ls) (length ls)) r lt' (sym (some ∙ rule_is lt)) so_far in
      ap (λ f. refused_or f (chains_of nets ls)) fault

  -- the line has none
  pub no_fault_more : i < length items → None ≡ lowest (scan_rules nets kept.cells kept.titles (get_or items i d).now)
      → fault_from (scan_rule nets ls) (i + 1) (length ls - (i + 1)) ≡ first_fault (scan_rule nets ls) (length ls)
  no_fault_more lt none =
      let lt' : i < length ls = omega (arith, lines_length) in
      fault_goes_on (scan_rule nets ls) (length ls) i (first_fault (scan_rule nets ls) (length ls)) lt' (sym (none ∙ rule_is lt)) so_far

  pub after_more : (new : ScanDraft) → i < length items
      → IsAfter nets new (chains_before ls i ++ option_to_list (chain_of (words (get_or items i d).now))) → IsAfter nets new (chains_before ls (i + 1))
  after_more new lt h =
      let lt' : i < length ls = omega (arith, lines_length) in
      rw (chains_before_more ls i lt', ← line_is lt) h

  pub sound_more : i < length items → None ≡ lowest (scan_rules nets kept.cells kept.titles (get_or items i d).now)
      → AreSound nets (chains_before ls i) → AreSound nets (chains_before ls (i + 1))
  sound_more lt none sound =
      let lt' : i < length ls = omega (arith, lines_length) in
      let none' : None ≡ lowest (scan_rules nets (cells_in (chains_before ls i)) (titles_in (chains_before ls i)) (line_at ls i)) = none ∙ rule_is lt in
      rw (chains_before_more ls i lt') (line_more nets (chains_before ls i) sound (line_at ls i) none')

  -- past the last line
  pub text_is_whole : length items ≤ i → refused_or (first_fault (scan_rule nets ls) (length ls)) (chains_of nets ls) ≡ Ok (kept.chains.items)
  text_is_whole le =
      let le' : length ls ≤ i = omega (arith, lines_length) in
      let none = fault_is_none (scan_rule nets ls) (length ls) i (first_fault (scan_rule nets ls) (length ls)) le' so_far in
      let all : chains_before ls i ≡ chains (word_lines ls) = ap (λ ts. chains (word_lines ts)) (take_all i ls le') in
      ap (λ f. refused_or f (chains_of nets ls)) none ∙ ap Ok (sym (after.chains ∙ ap (map (numbered nets)) all))
