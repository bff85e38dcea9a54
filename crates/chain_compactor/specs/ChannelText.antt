-- The channels of a channel text.
use Rattle.std.specs.Prelude.{ℕ, Bool, false, not, ◌&&◌, ◌||◌, nat_le, nat_lt, if◌then◌else◌, is_none, List, [], ◌∷◌, ◌++◌, length, map, take, filter_map, Option, Some, None, codes, Result}
use Rattle.std.specs.List.{list_any, list_all, position_or_len}
use Rattle.std.specs.Str.{bytes_eq}
use Rattle.scan_model.specs.Lines.{text_lines, line_at, has_refused_byte}
use Rattle.scan_model.specs.Words.{words, word_lines, has_words, has_word, is_short_name}
use Rattle.scan_model.specs.TextFaults.{breaks, lowest, first_fault, refused_or}
use Rattle.scan_model.specs.declared.rules.TheConstants.{OTHER_CHANNEL_FORM, UNKNOWN_CHAIN, CHANNEL_TAKEN, TOO_MANY_CHANNELS, TOO_MANY_POINTS}
use Rattle.scan_model.specs.ScanText.{stands_again}
use Rattle.scan_model.specs.ScanTest.{ScanTest}
use Rattle.compact_points.specs.declared.compactor.Channel.{Channel}
use Rattle.compact_points.specs.Channels.{Compactor, compactor_of, compact_points}

abbrev pub channel_limit : ℕ
channel_limit = 256

abbrev pub compact_point_limit : ℕ
compact_point_limit = 131072

-- a channel by names
pub record ChannelNames : Type 0 where
  pub name : List ℕ
  pub chains : List (List ℕ)

-- the names of all chains
abbrev pub chain_names : ScanTest → List (List ℕ)
chain_names t = map (λ h. h.name) t.chains

abbrev pub is_chain : ScanTest → List ℕ → Bool
is_chain t w = has_word (chain_names t) w

-- the number of the chain with a name
abbrev pub chain_number : ScanTest → List ℕ → ℕ
chain_number t w = position_or_len (bytes_eq w) (chain_names t)

-- the channel of a line `CHANNEL name chain chain ..`, with one chain or more
abbrev pub channel_of : List (List ℕ) → Option ChannelNames
channel_of (keyword ∷ name ∷ chain ∷ chains) =
    if bytes_eq keyword (codes "CHANNEL") && list_all is_short_name (name ∷ chain ∷ chains)
    then Some (record { name = name; chains = chain ∷ chains })
    else None
channel_of ws = None

-- the channels of lines
abbrev pub named_channels : List (List (List ℕ)) → List ChannelNames
named_channels ws = filter_map channel_of ws

abbrev pub titles_in : List ChannelNames → List (List ℕ)
titles_in xs = map (λ x. x.name) xs

-- a channel with its chains by number
abbrev pub numbered : ScanTest → ChannelNames → Channel
numbered t x = record { name = x.name; chains = map (chain_number t) x.chains }

-- ---- the rules of a line, after these channels

-- rule 101: the line has words and is no channel's line, or has a byte that no text may have
abbrev pub has_other_form : List ℕ → List (List ℕ) → Bool
has_other_form line ws = has_refused_byte line || (has_words ws && is_none (channel_of ws))

-- rule 102: no chain has a name that the line gives
abbrev pub lacks_chain : ScanTest → Option ChannelNames → Bool
lacks_chain t None = false
lacks_chain t (Some x) = list_any (λ w. not (is_chain t w)) x.chains

-- rule 103: an earlier channel has the name, or a chain stands twice in the line
abbrev pub is_taken : List ChannelNames → Option ChannelNames → Bool
is_taken earlier None = false
is_taken earlier (Some x) = has_word (titles_in earlier) x.name || stands_again [] x.chains

-- rule 104: the line makes one channel too many
abbrev pub is_one_more : List ChannelNames → Option ChannelNames → Bool
is_one_more earlier None = false
is_one_more earlier (Some x) = nat_le channel_limit (length earlier)

-- rule 105: with the line there are too many compact points
abbrev pub has_too_many_points : ScanTest → List ChannelNames → Option ChannelNames → Bool
has_too_many_points t earlier None = false
has_too_many_points t earlier (Some x) = nat_lt compact_point_limit (length (compact_points t (map (numbered t) (earlier ++ x ∷ []))))

abbrev pub channel_rules : ScanTest → List ChannelNames → List ℕ → List (ℕ × Bool)
channel_rules t earlier line =
    (OTHER_CHANNEL_FORM, has_other_form line (words line)) ∷
    (UNKNOWN_CHAIN, lacks_chain t (channel_of (words line))) ∷
    (CHANNEL_TAKEN, is_taken earlier (channel_of (words line))) ∷
    (TOO_MANY_CHANNELS, is_one_more earlier (channel_of (words line))) ∷
    (TOO_MANY_POINTS, has_too_many_points t earlier (channel_of (words line))) ∷ []

-- ---- the text

-- the channels of the lines before the line i
abbrev pub channels_before : List (List ℕ) → ℕ → List ChannelNames
channels_before ls i = named_channels (word_lines (take i ls))

-- the rules at the line i
abbrev pub channel_table : ScanTest → List (List ℕ) → ℕ → List (ℕ × Bool)
channel_table t ls i = channel_rules t (channels_before ls i) (line_at ls i)

-- the line i breaks the rule
abbrev pub channel_breaks : ScanTest → List (List ℕ) → ℕ → ℕ → Bool
channel_breaks t ls i rule = breaks (channel_table t ls i) rule

-- the lowest rule that the line i breaks
abbrev pub channel_rule : ScanTest → List (List ℕ) → ℕ → Option ℕ
channel_rule t ls i = lowest (channel_table t ls i)

abbrev pub channel_fault : ScanTest → List ℕ → Option (ℕ × ℕ)
channel_fault t bytes = first_fault (channel_rule t (text_lines bytes)) (length (text_lines bytes))

abbrev pub compactor_of_lines : ScanTest → List (List ℕ) → Compactor
compactor_of_lines t ls = compactor_of t (map (numbered t) (named_channels (word_lines ls)))

-- what reading a channel text gives: its first fault, or the channels in the order of lines with the compact points
abbrev pub channel_reading : ScanTest → List ℕ → Result Compactor (ℕ × ℕ)
channel_reading t bytes = refused_or (channel_fault t bytes) (compactor_of_lines t (text_lines bytes))
