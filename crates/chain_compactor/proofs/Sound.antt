-- What is known of the channels of lines without a fault.
use Rattle.std.proofs.Common.{◌≡◌, ℕ, ◌<◌, ◌≤◌, Bool, true, false, cond, List, [], ◌∷◌, ◌++◌, length, map, Option, Some, None, option_to_list, is_some, refl, ap, ◌∙◌, arith, append-nil}
use Rattle.std.specs.Prelude.{All, bytes_eq, nat_lt}
use Rattle.std.specs.List.{IsDistinct}
use Rattle.std.proofs.lemmas.Bool.{ltb-true, ltb-false, leb-false, or_parts}
use Rattle.std.proofs.lemmas.Cmp.{nat_list_eq_equiv}
use Rattle.std.proofs.lemmas.List.{length-map, map_push, length-append}
use Rattle.std.proofs.lemmas.List.Elements.{All-nil, All-push, All-map, All-weaker}
use Rattle.std.proofs.lemmas.Map.Keys.{IsDistinct-push}
use Rattle.scan_model.specs.Words.{words, has_word}
use Rattle.scan_model.specs.ScanText.{stands_again}
use Rattle.scan_model.specs.ScanTest.{ScanTest}
use Rattle.scan_model.specs.TextFaults.{lowest}
use Rattle.scan_model.specs.declared.rules.TheConstants.{OTHER_CHANNEL_FORM, UNKNOWN_CHAIN, CHANNEL_TAKEN, TOO_MANY_CHANNELS, TOO_MANY_POINTS}
use Rattle.text_parts.proofs.Places.{any_position}
use Rattle.scan_text.proofs.Tables.{none_broken}
use Rattle.scan_text.proofs.SoundChains.{all_from_any}
use Rattle.compact_points.specs.Channels.{AreChannels, compact_points}
use Rattle.chain_compactor.specs.ChannelText.{ChannelNames, chain_names, is_chain, chain_number, channel_of, titles_in, numbered, has_other_form, lacks_chain, is_taken, is_one_more, has_too_many_points, channel_rules}

pub record AreSound (t : ScanTest) (xs : List ChannelNames) : Type 0 where
  pub are_chains : All (λ x. All (λ w. is_chain t w ≡ true) x.chains) xs
  pub names_differ : IsDistinct bytes_eq (titles_in xs)
  pub few : length xs ≤ 256
  pub few_points : length (compact_points t (map (numbered t) xs)) ≤ 131072

pub none_sound : (t : ScanTest) → length (compact_points t []) ≤ 131072 → AreSound t []
unfolding IsDistinct
none_sound t few = record { are_chains = All-nil _; names_differ = tt; few = omega arith; few_points = few }

module _ (t : ScanTest) (xs : List ChannelNames) (sound : AreSound t xs) where
  -- a line's channel, which breaks no rule
  channel_more : (form : Bool) (o : Option ChannelNames)
      → None ≡ lowest ((OTHER_CHANNEL_FORM, form) ∷ (UNKNOWN_CHAIN, lacks_chain t o) ∷ (CHANNEL_TAKEN, is_taken xs o) ∷ (TOO_MANY_CHANNELS, is_one_more xs o) ∷ (TOO_MANY_POINTS, has_too_many_points t xs o) ∷ []) → AreSound t (xs ++ option_to_list o)
  channel_more form None none = rw append-nil sound
  channel_more form (Some x) none =
      let whole = none_broken 101 102 103 104 105 form (lacks_chain t (Some x)) (is_taken xs (Some x)) (is_one_more xs (Some x)) (has_too_many_points t xs (Some x)) none in
      let taken = or_parts (has_word (titles_in xs) x.name) (stands_again [] x.chains) whole.2 in
      let below : length xs < 256 = leb-false 256 (length xs) whole.3 in
      record {
        are_chains = All-push (λ y. All (λ w. is_chain t w ≡ true) y.chains) xs x sound.are_chains (all_from_any (is_chain t) x.chains whole.1);
        names_differ = rw (map_push (λ y. y.name) xs x) (IsDistinct-push nat_list_eq_equiv (titles_in xs) x.name sound.names_differ taken.0);
        few = omega (arith, length-append xs (x ∷ []));
        few_points = ltb-false 131072 (length (compact_points t (map (numbered t) (xs ++ x ∷ [])))) whole.4;
      }

  pub line_more : (line : List ℕ) → None ≡ lowest (channel_rules t xs line) → AreSound t (xs ++ option_to_list (channel_of (words line)))
  line_more line none = channel_more (has_other_form line (words line)) (channel_of (words line)) none

-- ---- the channels by number

some_below : (b : Bool) (i : ℕ) → is_some (cond b (Some i) None) ≡ true → b ≡ true
some_below true i e = refl
some_below false i e = absurd cc

number_within : (t : ScanTest) (w : List ℕ) → is_chain t w ≡ true → chain_number t w < length t.chains
number_within t w e =
    let place = chain_number t w in
    rw (← length-map t.chains (λ h. h.name)) (ltb-true place (length (chain_names t)) (some_below (nat_lt place (length (chain_names t))) place (any_position (bytes_eq w) (chain_names t) ∙ e)))

names_numbered : (t : ScanTest) (xs : List ChannelNames) → map (λ x. x.name) (map (numbered t) xs) ≡ titles_in xs
names_numbered t [] = refl
names_numbered t (x ∷ xs) = ap (λ ys. x.name ∷ ys) (names_numbered t xs)

pub numbered_fit : (t : ScanTest) (xs : List ChannelNames) → AreSound t xs → AreChannels t (map (numbered t) xs)
numbered_fit t xs sound = record {
  chains = All-map (λ x. All (λ h. h < length t.chains) x.chains) (numbered t) xs
      (All-weaker (λ x. All (λ w. is_chain t w ≡ true) x.chains) (λ x. All (λ h. h < length t.chains) (numbered t x).chains)
      (λ x named. All-map (λ h. h < length t.chains) (chain_number t) x.chains (All-weaker (λ w. is_chain t w ≡ true) (λ w. chain_number t w < length t.chains) (number_within t) x.chains named)) xs sound.are_chains);
  names_differ = rw (names_numbered t xs) sound.names_differ;
  few = rw (length-map xs (numbered t)) sound.few;
}
