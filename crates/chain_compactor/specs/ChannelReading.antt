-- The channels so far, as the reader keeps them, and one more.
use Rattle.std.specs.Prelude.{ℕ, ◌≡◌, ◌+◌, ◌≤◌, not, ◌||◌, nat_le, nat_lt, Bool, List, [], ◌∷◌, ◌++◌, length, map, slice_index_or, Option, Some, None}
use Rattle.std.specs.List.{list_any, position_or_len}
use Rattle.std.specs.Str.{bytes_eq}
use Rattle.scan_model.specs.declared.parts.Chain.{Chain}
use Rattle.scan_model.specs.Words.{words, has_word}
use Rattle.scan_model.specs.ScanText.{stands_again}
use Rattle.scan_model.specs.ScanTest.{ScanTest, no_chain}
use Rattle.scan_model.specs.declared.rules.TheConstants.{OTHER_CHANNEL_FORM, UNKNOWN_CHAIN, CHANNEL_TAKEN, TOO_MANY_CHANNELS, TOO_MANY_POINTS}
use Rattle.text_parts.specs.Views.{nows}
use Rattle.compact_points.specs.Channels.{AreChannels, greatest, cycles_of, compact_points}
use Rattle.chain_compactor.specs.ChannelText.{ChannelNames, channel_of, has_other_form, titles_in, numbered, channel_limit, compact_point_limit}
use Rattle.chain_compactor.specs.declared.channels.Channels.{Channels}
use Rattle.chain_compactor.specs.declared.named.NamedChannel.{NamedChannel}

-- a channel's line, as the reader takes it apart
abbrev pub named_view : NamedChannel → ChannelNames
named_view x = record { name = x.name.now; chains = nows x.chains.now }

abbrev pub length_in : List Chain → ℕ → ℕ
length_in chains h = length (slice_index_or chains h no_chain).cells

-- the numbers of the chains with these names
abbrev pub numbers_in : List (List ℕ) → List (List ℕ) → List ℕ
numbers_in names ws = map (λ w. position_or_len (bytes_eq w) names) ws

-- in how many cycles a channel shows something
abbrev pub cycles_in : List Chain → List (List ℕ) → ChannelNames → ℕ
cycles_in chains names x = greatest (map (length_in chains) (numbers_in names x.chains))

-- rules 102 to 105 at a channel, over chains with these names
abbrev pub named_rules : List Chain → List (List ℕ) → Channels → ChannelNames → List (ℕ × Bool)
named_rules chains names kept x =
    (UNKNOWN_CHAIN, list_any (λ w. not (has_word names w)) x.chains) ∷
    (CHANNEL_TAKEN, has_word kept.titles x.name || stands_again [] x.chains) ∷
    (TOO_MANY_CHANNELS, nat_le channel_limit (length kept.titles)) ∷
    (TOO_MANY_POINTS, nat_lt compact_point_limit (kept.points + cycles_in chains names x)) ∷ []

abbrev pub some_rules : List Chain → List (List ℕ) → Channels → Option ChannelNames → List (ℕ × Bool)
some_rules chains names kept None = []
some_rules chains names kept (Some x) = named_rules chains names kept x

-- the rules at a line
abbrev pub line_rules : List Chain → List (List ℕ) → Channels → List ℕ → List (ℕ × Bool)
line_rules chains names kept line = (OTHER_CHANNEL_FORM, has_other_form line (words line)) ∷ some_rules chains names kept (channel_of (words line))

-- what is kept after one more channel
pub record Adds (chains : List Chain) (names : List (List ℕ)) (old new : Channels) (x : ChannelNames) : Type 0 where
  pub channels : new.channels.items ≡ old.channels.items ++ record { name = x.name; chains = numbers_in names x.chains } ∷ []
  pub titles : new.titles ≡ old.titles ++ x.name ∷ []
  pub cycles : new.cycles.items ≡ old.cycles.items ++ cycles_in chains names x ∷ []
  pub points : new.points ≡ old.points + cycles_in chains names x
  pub few : new.points ≤ 131072

-- what is kept after a line: one more channel, if it names one
abbrev pub AddsSome : List Chain → List (List ℕ) → Channels → Channels → Option ChannelNames → Type 0
AddsSome chains names old new None = new ≡ old
AddsSome chains names old new (Some x) = Adds chains names old new x

-- what is kept after these channels
pub record IsAfter (t : ScanTest) (kept : Channels) (xs : List ChannelNames) : Type 0 where
  pub channels : kept.channels.items ≡ map (numbered t) xs
  pub titles : kept.titles ≡ titles_in xs
  pub cycles : kept.cycles.items ≡ map (cycles_of t) (map (numbered t) xs)
  pub points : kept.points ≡ length (compact_points t (map (numbered t) xs))

-- what is known of channels of lines without a fault
pub record IsKept (t : ScanTest) (kept : Channels) : Type 0 where
  pub channels : AreChannels t kept.channels.items
  pub cycles : kept.cycles.items ≡ map (cycles_of t) kept.channels.items
  pub few : length (compact_points t kept.channels.items) ≤ 131072
