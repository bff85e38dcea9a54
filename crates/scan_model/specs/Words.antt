-- Words, names, tags and number words.
use Rattle.std.specs.Prelude.{ℕ, ◌+◌, ◌-◌, ◌*◌, ◌^◌, Bool, false, not, ◌&&◌, ◌||◌, ◌==◌, nat_le, nat_lt, if◌then◌else◌, List, [], ◌∷◌, length, map, filter, fold, Option, Some, None}
use Rattle.std.specs.List.{slice_split, list_all, list_any}
use Rattle.std.specs.Str.{bytes_eq}
use Rattle.scan_model.specs.Lines.{is_blank, without_comment}

abbrev pub is_filled : List ℕ → Bool
is_filled w = not (length w == 0)

-- the words of a line: what stands between blanks, outside the comment
abbrev pub words : List ℕ → List (List ℕ)
words line = filter is_filled (slice_split is_blank (without_comment line))

-- the words of all lines
abbrev pub word_lines : List (List ℕ) → List (List (List ℕ))
word_lines ls = map words ls

-- a line with words
abbrev pub has_words : List (List ℕ) → Bool
has_words ws = nat_lt 0 (length ws)

-- the word is among these
abbrev pub has_word : List (List ℕ) → List ℕ → Bool
has_word ws w = list_any (bytes_eq w) ws

-- one of `(`, `)`, `,`, `=`
abbrev pub is_sign : ℕ → Bool
is_sign b = (b == 40) || ((b == 41) || ((b == 44) || (b == 61)))

-- a byte from 33 to 126 other than the signs, `#`, `%` and the double quote
abbrev pub is_name_byte : ℕ → Bool
is_name_byte b = (nat_le 33 b && nat_le b 126) && not (is_sign b || ((b == 35) || ((b == 37) || (b == 34))))

-- the longest name of a net or a chain, in bytes
abbrev pub name_limit : ℕ
name_limit = 64

abbrev pub is_short : List ℕ → Bool
is_short w = nat_le (length w) name_limit

-- a word that is a name of at most 64 bytes
abbrev pub is_short_name : List ℕ → Bool
is_short_name w = list_all is_name_byte w && is_short w

abbrev pub is_digit : ℕ → Bool
is_digit b = nat_le 48 b && nat_le b 57

abbrev pub is_letter : ℕ → Bool
is_letter b = (nat_le 65 b && nat_le b 90) || (nat_le 97 b && nat_le b 122)

-- a letter, a digit, `_`, `-` or `.`
abbrev pub is_tag_byte : ℕ → Bool
is_tag_byte b = is_letter b || (is_digit b || ((b == 95) || ((b == 45) || (b == 46))))

-- 1 to 64 tag bytes, of which the first is a letter or a digit
abbrev pub is_tag : List ℕ → Bool
is_tag [] = false
is_tag (b ∷ bs) = (is_letter b || is_digit b) && (list_all is_tag_byte bs && nat_lt (length bs) 64)

-- `0`, or a digit 1 to 9 followed by digits
abbrev pub is_numeral : List ℕ → Bool
is_numeral [] = false
is_numeral (b ∷ bs) = is_digit b && (list_all is_digit bs && (not (b == 48) || (length bs == 0)))

-- the number that decimal digits stand for
abbrev pub digits_number : List ℕ → ℕ
digits_number w = fold (λ n b. n * 10 + (b - 48)) 0 w

-- the number of a number word, which is below 2 ^ 32, and nothing for any other word
abbrev pub number_of : List ℕ → Option ℕ
number_of w = if is_numeral w && nat_lt (digits_number w) (2 ^ 32) then Some (digits_number w) else None
