-- In how many bytes the end of a head was sought in vain, as bytes come and are looked at.
use Rattle.std.proofs.Common.{◌≡◌, ℕ, zero, ◌≤◌, min, List, ◌++◌, length, take, Option, Some, None, refl, sym, ap, ◌∙◌, arith, length-append}
use Rattle.std.proofs.lemmas.List.{take-append-le, length-take, take_all}
use Rattle.std.proofs.Math.Seq.{take-take}
use Rattle.desk_heads.specs.Heads.{head_length, head_limit, HeadFound, HasNoEndWithin}
use Rattle.desk_heads.specs.InboxReads.{IsUnended}
use Rattle.desk_heads.proofs.IncomingSteps.{unended_short}

-- in no byte
pub in_none : (bytes : List ℕ) → HasNoEndWithin zero bytes
unfolding head_length
in_none bytes = record { fits = omega arith; short = omega arith; none = refl }

-- more bytes come behind them
pub before_more : (count : ℕ) (bytes more : List ℕ) → HasNoEndWithin count bytes → HasNoEndWithin count (bytes ++ more)
before_more count bytes more is =
    record {
      fits = omega (arith, is.fits, length-append bytes more);
      short = is.short;
      none = ap head_length (take-append-le count bytes more is.fits) ∙ is.none;
    }

-- they are all in the front that is as long as a head may be
pub in_front : (count size : ℕ) (bytes : List ℕ) → size ≡ min head_limit (length bytes) → HasNoEndWithin count bytes → HasNoEndWithin count (take size bytes)
in_front count size bytes short is =
    let within : count ≤ size = omega (arith, is.fits, is.short, short) in
    record {
      fits = omega (arith, is.fits, within, length-take size bytes);
      short = is.short;
      none = ap head_length (take-take count size bytes within) ∙ is.none;
    }

-- bytes that are no whole head yet
pub in_unended : (bytes : List ℕ) → IsUnended bytes → HasNoEndWithin (length bytes) bytes
in_unended bytes unended =
    let short = unended_short bytes unended in
    record {
      fits = omega arith;
      short = omega (arith, short);
      none = ap head_length (whole (length bytes) (omega arith) ∙ sym (whole head_limit (omega (arith, short)))) ∙ by (head_length (take head_limit bytes)) refl unended;
    }
  where
    whole : (n : ℕ) → length bytes ≤ n → take n bytes ≡ bytes
    whole n enough = take_all n bytes enough

    by : (end : Option ℕ) → head_length (take head_limit bytes) ≡ end → HeadFound bytes end None → head_length (take head_limit bytes) ≡ None
    by None e is = e
    by (Some n) e (read, reads, is) = absurd (cc)
