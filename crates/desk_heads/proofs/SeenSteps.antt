-- What is seen in the text of a head stands at the front of the bytes.
use Rattle.std.proofs.Common.{◌≡◌, ℕ, ◌<◌, ◌≤◌, true, false, if◌then◌else◌, nat_le, min, List, length, take, drop, Option, Some, None, Result, Ok, Err, refl, sym, ap, subst, ◌∙◌, arith}
use Rattle.std.specs.Str.{IsAscii}
use Rattle.std.proofs.lemmas.Bool.{le-leb, lt-leb}
use Rattle.std.proofs.lemmas.List.{take_min, length-take}
use Rattle.std.proofs.lemmas.Slice.{between_is}
use Rattle.std.proofs.Math.Seq.{take-take}
use Rattle.httparse.specs.declared.spans.Span.{Span}
use Rattle.httparse.specs.Grammar.{RequestHead}
use Rattle.httparse.specs.Spans.{span_bytes}
use Rattle.desk_heads.specs.declared.head.Head.{Head}
use Rattle.desk_heads.specs.declared.head.HeadFault.{HeadFault}
use Rattle.desk_heads.specs.declared.head.HeadFault.TheVariants as fault
use Rattle.desk_heads.specs.declared.head.HeadSeen.TheVariants.{Unended, Refused, Whole}
use Rattle.desk_heads.specs.Heads.{HeadFacts, Reads, judged, head_length, head_limit, HeadFound, IsHeadOf}
use Rattle.desk_heads.specs.SeenHeads.{Judges, Sees}

-- a span within the front covers the same bytes of the whole
pub span_in_front : (bytes : List ℕ) (n : ℕ) (span : Span) → span.end ≤ n → span_bytes (take n bytes) span ≡ span_bytes bytes span
span_in_front bytes n span le = between_is (take n bytes) span.start span.end ∙ ap (drop span.start) (take-take span.end n bytes le) ∙ sym (between_is bytes span.start span.end)

pub front_is : (limit size : ℕ) (bytes : List ℕ) (found : Option ℕ) → size ≡ min limit (length bytes) → found ≡ head_length (take size bytes) → head_length (take limit bytes) ≡ found
front_is limit size bytes found short is = sym (is ∙ ap (λ k. head_length (take k bytes)) short ∙ ap head_length (take_min limit bytes))

module _ (bytes : List ℕ) where
  none : (head : Option (Result (ℕ × HeadFacts) HeadFault)) → head_length (take head_limit bytes) ≡ None
      → head ≡ (if nat_le head_limit (length bytes) then Some (Err fault.HeadTooLarge) else None) → IsHeadOf bytes head
  none head found is = subst (λ o. HeadFound bytes o head) (sym found) is

  pub unended : head_length (take head_limit bytes) ≡ None → length bytes < head_limit → Sees bytes Unended
  unended found short = let e : nat_le head_limit (length bytes) ≡ false = lt-leb _ _ short in none None found (rw e refl)

  pub too_large : head_length (take head_limit bytes) ≡ None → head_limit ≤ length bytes → Sees bytes (Refused fault.HeadTooLarge)
  too_large found long = let e : nat_le head_limit (length bytes) ≡ true = le-leb _ _ long in none (Some (Err fault.HeadTooLarge)) found (rw e refl)

  module _ (n : ℕ) (found : head_length (take head_limit bytes) ≡ Some n) (read : Option RequestHead) (reads : Reads (take n bytes) read) where
    some : (head : Option (Result (ℕ × HeadFacts) HeadFault)) → HeadFound bytes (Some n) head → IsHeadOf bytes head
    some head is = subst (λ o. HeadFound bytes o head) (sym found) is

    pub refused : (f : HeadFault) → Judges (take n bytes) (judged read) (Err f) → Sees bytes (Refused f)
    refused f judges = by (judged read) refl judges
      where
        by : (result : Result HeadFacts HeadFault) → judged read ≡ result → Judges (take n bytes) result (Err f) → Sees bytes (Refused f)
        by (Ok asked) e wrong = absurd wrong
        by (Err g) e same = some (Some (Err f)) (read, reads, rw (e, same) refl)

    pub whole : n ≤ length bytes → (head : Head) → Judges (take n bytes) (judged read) (Ok head) → Sees bytes (Whole head)
    whole within head judges = by (judged read) refl judges
      where
        by : (result : Result HeadFacts HeadFault) → judged read ≡ result → Judges (take n bytes) result (Ok head) → Sees bytes (Whole head)
        by (Err g) e wrong = absurd wrong
        by (Ok asked) e (long, fits, is) =
            let long_enough : head.length ≡ n = omega (arith, long, length-take n bytes) in
            let target = span_in_front bytes n head.target (omega (arith, fits.target.1)) in (
              record { whole = omega arith; target = fits.target; ascii = subst IsAscii target fits.ascii; body = fits.body },
              (
                asked,
                some (Some (Ok (head.length, asked))) (read, reads, rw (e, long_enough) refl),
                record { method = is.method; target = sym target ∙ is.target; body = is.body; awaits = is.awaits; closes = is.closes },
              ),
            )
