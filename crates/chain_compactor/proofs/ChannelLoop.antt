-- One more line of a channel text.
use Rattle.std.proofs.Common.{◌≡◌, ℕ, ◌+◌, ◌-◌, ◌<◌, ◌≤◌, Bool, List, [], ◌∷◌, ◌++◌, length, take, map, get_or, Option, Some, None, Ok, Err, option_to_list, refl, sym, ap, subst, ◌∙◌, arith, Bor, append-nil}
use Rattle.std.specs.List.{filter_map, cons_option}
use Rattle.std.proofs.lemmas.List.Elements.{filter_map-append}
use Rattle.std.proofs.lemmas.List.{take_more, map_push, length-map, get_or-map, take_all}
use Rattle.scan_model.specs.declared.parts.Chain.{Chain}
use Rattle.scan_model.specs.Lines.{line_at}
use Rattle.scan_model.specs.Words.{words, word_lines}
use Rattle.scan_model.specs.ScanTest.{ScanTest}
use Rattle.scan_model.specs.TextFaults.{lowest, fault_from, first_fault, refused_or}
use Rattle.scan_model.specs.declared.rules.TheConstants.{OTHER_CHANNEL_FORM, UNKNOWN_CHAIN, CHANNEL_TAKEN, TOO_MANY_CHANNELS, TOO_MANY_POINTS}
use Rattle.scan_model.proofs.FaultSteps.{fault_goes_on, fault_is_here, fault_is_none}
use Rattle.text_parts.specs.Views.{nows}
use Rattle.compact_points.specs.declared.compactor.Channel.{Channel}
use Rattle.compact_points.specs.Channels.{Compactor, cycles_of, compact_points, compactor_of}
use Rattle.chain_compactor.specs.declared.channels.Channels.{Channels}
use Rattle.chain_compactor.specs.ChannelText.{ChannelNames, chain_names, channel_of, named_channels, channels_before, numbered, has_other_form, lacks_chain, is_taken, is_one_more, has_too_many_points, channel_rules, channel_rule, compactor_of_lines}
use Rattle.chain_compactor.specs.ChannelReading.{numbers_in, cycles_in, some_rules, line_rules, AddsSome, IsAfter}
use Rattle.chain_compactor.proofs.PointCount.{points_more}
use Rattle.chain_compactor.proofs.Sound.{AreSound, line_more}

-- ---- what is kept, over the chains of a test

module _ (t : ScanTest) (chains : List Chain) (names : List (List ℕ)) (chains_are : chains ≡ t.chains) (names_are : names ≡ chain_names t) (kept : Channels) (xs : List ChannelNames) (after : IsAfter t kept xs) where
  cycles_are : (x : ChannelNames) → cycles_in chains names x ≡ cycles_of t (numbered t x)
  cycles_are x = rw (chains_are, names_are) refl

  points_are : (x : ChannelNames) → kept.points + cycles_in chains names x ≡ length (compact_points t (map (numbered t) (xs ++ x ∷ [])))
  points_are x =
      ap (λ n. n + cycles_in chains names x) after.points
      ∙ ap (λ n. length (compact_points t (map (numbered t) xs)) + n) (cycles_are x)
      ∙ sym (points_more t (map (numbered t) xs) (numbered t x))
      ∙ ap (λ (ys : List Channel). length (compact_points t ys)) (sym (map_push (numbered t) xs x))

  rules_same : (form : Bool) (o : Option ChannelNames) → lowest ((OTHER_CHANNEL_FORM, form) ∷ some_rules chains names kept o)
      ≡ lowest ((OTHER_CHANNEL_FORM, form) ∷ (UNKNOWN_CHAIN, lacks_chain t o) ∷ (CHANNEL_TAKEN, is_taken xs o) ∷ (TOO_MANY_CHANNELS, is_one_more xs o) ∷ (TOO_MANY_POINTS, has_too_many_points t xs o) ∷ [])
  rules_same form None = refl
  rules_same form (Some x) = rw (points_are x, names_are, after.titles, length-map xs (λ (y : ChannelNames). y.name)) refl

  pub line_same : (line : List ℕ) → lowest (line_rules chains names kept line) ≡ lowest (channel_rules t xs line)
  line_same line = rules_same (has_other_form line (words line)) (channel_of (words line))

  pub after_some : (new : Channels) (o : Option ChannelNames) → AddsSome chains names kept new o → IsAfter t new (xs ++ option_to_list o)
  after_some new None same = subst (λ (k : Channels). IsAfter t k (xs ++ [])) (sym same) (rw append-nil after)
  after_some new (Some x) adds =
      let number : numbers_in names x.chains ≡ (numbered t x).chains = rw names_are refl in
      record {
        channels = adds.channels ∙ ap (λ (hs : List ℕ). let y : Channel = record { name = x.name; chains = hs } in kept.channels.items ++ y ∷ []) number ∙ ap (λ (ys : List Channel). ys ++ numbered t x ∷ []) after.channels ∙ sym (map_push (numbered t) xs x);
        titles = adds.titles ∙ ap (λ (ys : List (List ℕ)). ys ++ x.name ∷ []) after.titles ∙ sym (map_push (λ (y : ChannelNames). y.name) xs x);
        cycles = adds.cycles ∙ ap (λ (n : ℕ). kept.cycles.items ++ n ∷ []) (cycles_are x) ∙ ap (λ (ys : List ℕ). ys ++ cycles_of t (numbered t x) ∷ []) after.cycles
            ∙ sym (ap (map (cycles_of t)) (map_push (numbered t) xs x) ∙ map_push (cycles_of t) (map (numbered t) xs) (numbered t x));
        points = adds.points ∙ points_are x;
      }

-- ---- the lines

filter_map_one : {X Y : Type 0} (f : X → Option Y) (x : X) → filter_map f (x ∷ []) ≡ option_to_list (f x)
filter_map_one f x = one (f x)
  where
    one : {Y : Type 0} (o : Option Y) → cons_option o [] ≡ option_to_list o
    one None = refl
    one (Some y) = refl

-- the channels of one more line
channels_before_more : (ls : List (List ℕ)) (i : ℕ) → i < length ls → channels_before ls (i + 1) ≡ channels_before ls i ++ option_to_list (channel_of (words (line_at ls i)))
channels_before_more ls i lt =
    ap (λ ys. filter_map channel_of (word_lines ys)) (take_more ls i [] lt)
    ∙ ap (filter_map channel_of) (map_push words (take i ls) (line_at ls i))
    ∙ filter_map-append channel_of (word_lines (take i ls)) (words (line_at ls i) ∷ [])
    ∙ ap (λ xs. channels_before ls i ++ xs) (filter_map_one channel_of (words (line_at ls i)))

module _ (t : ScanTest) (ls : List (List ℕ)) (items : List (Bor (List ℕ))) (i : ℕ) (d : Bor (List ℕ)) (kept : Channels) (chains : List Chain) (names : List (List ℕ))
    (chains_are : chains ≡ t.chains) (names_are : names ≡ chain_names t) (same : nows items ≡ ls)
    (so_far : fault_from (channel_rule t ls) i (length ls - i) ≡ first_fault (channel_rule t ls) (length ls))
    (after : IsAfter t kept (channels_before ls i)) where
  lines_length : length items ≡ length ls
  lines_length = sym (length-map items (λ x. x.now)) ∙ ap length same

  line_is : i < length items → (get_or items i d).now ≡ line_at ls i
  line_is lt = sym (get_or-map (λ x. x.now) items i d [] lt) ∙ ap (λ ts. line_at ts i) same

  rule_is : i < length items → lowest (line_rules chains names kept (get_or items i d).now) ≡ channel_rule t ls i
  rule_is lt = line_same t chains names chains_are names_are kept (channels_before ls i) after (get_or items i d).now ∙ ap (λ (line : List ℕ). lowest (channel_rules t (channels_before ls i) line)) (line_is lt)

  -- the line has a fault
  pub line_is_faulty : (r : ℕ) → i < length items → Some r ≡ lowest (line_rules chains names kept (get_or items i d).now) → refused_or (first_fault (channel_rule t ls) (length ls)) (compactor_of_lines t ls) ≡ Err (i + 1, r)
  line_is_faulty r lt some =
      let lt' : i < length ls = omega (arith, lines_length) in
      let fault = fault_is_here (channel_rule t ls) (length ls) i (first_fault (channel_rule t ls) (length ls)) r lt' (sym (some ∙ rule_is lt)) so_far in
      ap (λ f. refused_or f (compactor_of_lines t ls)) fault

  -- the line has none
  pub no_fault_more : i < length items → None ≡ lowest (line_rules chains names kept (get_or items i d).now)
      → fault_from (channel_rule t ls) (i + 1) (length ls - (i + 1)) ≡ first_fault (channel_rule t ls) (length ls)
  no_fault_more lt none =
      let lt' : i < length ls = omega (arith, lines_length) in
      fault_goes_on (channel_rule t ls) (length ls) i (first_fault (channel_rule t ls) (length ls)) lt' (sym (none ∙ rule_is lt)) so_far

  pub after_more : (new : Channels) → i < length items → AddsSome chains names kept new (channel_of (words (get_or items i d).now)) → IsAfter t new (channels_before ls (i + 1))
  after_more new lt adds =
      let lt' : i < length ls = omega (arith, lines_length) in
      rw (channels_before_more ls i lt', ← line_is lt) (after_some t chains names chains_are names_are kept (channels_before ls i) after new (channel_of (words (get_or items i d).now)) adds)

  pub sound_more : i < length items → None ≡ lowest (line_rules chains names kept (get_or items i d).now)
      → AreSound t (channels_before ls i) → AreSound t (channels_before ls (i + 1))
  sound_more lt none sound =
      let lt' : i < length ls = omega (arith, lines_length) in
      rw (channels_before_more ls i lt') (line_more t (channels_before ls i) sound (line_at ls i) (none ∙ rule_is lt))

  -- past the last line
  pub text_is_whole : length items ≤ i → refused_or (first_fault (channel_rule t ls) (length ls)) (compactor_of_lines t ls) ≡ Ok (compactor_of t kept.channels.items)
  text_is_whole le =
      let le' : length ls ≤ i = omega (arith, lines_length) in
      let none = fault_is_none (channel_rule t ls) (length ls) i (first_fault (channel_rule t ls) (length ls)) le' so_far in
      let all : channels_before ls i ≡ named_channels (word_lines ls) = ap (λ ts. named_channels (word_lines ts)) (take_all i ls le') in
      ap (λ f. refused_or f (compactor_of_lines t ls)) none ∙ ap (λ (xs : List Channel). let read : Compactor = compactor_of t xs in Ok read) (sym (after.channels ∙ ap (map (numbered t)) all))
