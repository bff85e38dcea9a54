-- What is read from a connection, as the front of its bytes.
use Rattle.std.proofs.Common.{◌≡◌, ℕ, ◌+◌, ◌-◌, ◌<◌, ◌≤◌, true, false, ◌==◌, nat_lt, List, [], ◌++◌, length, take, drop, slice_range, Option, Some, None, Ok, Err, refl, sym, ap, subst, ◌∙◌, arith, length-append, length-drop, append-nil, eq-eqb}
use Rattle.std.specs.Io.KnownBytes.{prepend_known, IsAtEnd}
use Rattle.std.proofs.lemmas.Bool.{lt-ltb, le-ltb, ne_eqb}
use Rattle.std.proofs.lemmas.List.{take-append-le, drop-append-le}
use Rattle.std.specs.Str.{IsAscii}
use Rattle.httparse.specs.declared.spans.Span.{Span}
use Rattle.httparse.specs.Spans.{span_bytes}
use Rattle.desk_heads.specs.declared.head.Head.{Head}
use Rattle.desk_heads.specs.declared.head.HeadFault.{HeadFault}
use Rattle.desk_heads.specs.declared.head.HeadSeen.TheVariants.{Refused}
use Rattle.desk_heads.specs.Heads.{HeadFacts, IsHeadOf}
use Rattle.desk_heads.specs.InboxReads.{Grows, IsUnended}
use Rattle.desk_heads.specs.Items.{refused, request, nothing, part, item, IsFrontOf}
use Rattle.desk_heads.specs.SeenHeads.{IsAsked, IsHeadIn, Sees}
use Rattle.desk_heads.proofs.HeadLaws.{stays}
use Rattle.desk_heads.proofs.ItemLaws.{request_stays, refused_stays}

-- ---- a head that came, and its body

-- a span covers the same bytes where more come
span_stays : (old more : List ℕ) (span : Span) → span.start ≤ span.end → span.end ≤ length old → span_bytes (old ++ more) span ≡ span_bytes old span
span_stays old more span ordered within =
    let behind : drop span.start (old ++ more) ≡ drop span.start old ++ more = drop-append-le span.start old more (omega arith) in
    ap (take (span.end - span.start)) behind ∙ take-append-le (span.end - span.start) (drop span.start old) more (omega (arith, length-drop span.start old))

module _ (old new : List ℕ) (grows : Grows old new) (head : Head) (asked : HeadFacts) where
  -- the head stays, with what it asks for, where more bytes come
  pub head_stays : IsHeadOf old (Some (Ok (head.length, asked))) → IsHeadOf new (Some (Ok (head.length, asked)))
  head_stays is = subst (λ bytes. IsHeadOf bytes (Some (Ok (head.length, asked)))) (sym grows.1) (stays old grows.0 (Ok (head.length, asked)) is)

  target_stays : IsHeadIn old head → span_bytes new head.target ≡ span_bytes old head.target
  target_stays fits =
      ap (λ bytes. span_bytes bytes head.target) grows.1 ∙ span_stays old grows.0 head.target fits.target.0 (omega (arith, fits.target.1, fits.whole))

  pub asked_stays : IsHeadIn old head → IsAsked old head asked → IsAsked new head asked
  asked_stays fits asks = record { method = asks.method; target = target_stays fits ∙ asks.target; body = asks.body; awaits = asks.awaits; closes = asks.closes }

  pub in_stays : IsHeadIn old head → IsHeadIn new head
  in_stays fits =
      record {
        whole = omega (arith, fits.whole, ap length grows.1, length-append old grows.0);
        target = fits.target;
        ascii = subst IsAscii (sym (target_stays fits)) fits.ascii;
        body = fits.body;
      }

  module _ (is : IsHeadOf old (Some (Ok (head.length, asked)))) (asks : IsAsked old head asked) where
    -- where all bytes of the body came, the request is at the front
    pub request_front : head.length + head.body ≤ length new → IsFrontOf new (item (request asked (take asked.body (drop head.length new))) (drop (head.length + asked.body) new))
    request_front whole =
        let e : nat_lt (length new) (head.length + asked.body) ≡ false = le-ltb _ _ (omega (arith, whole, asks.body)) in
        (Some (Ok (head.length, asked)), head_stays is, rw e refl)

    -- the bytes between the end of the head and that of the message are the body
    pub slice_is_body : slice_range new head.length (head.length + head.body) ≡ take asked.body (drop head.length new)
    slice_is_body = let count : (head.length + head.body) - head.length ≡ asked.body = omega (arith, asks.body) in ap (λ n. take n (drop head.length new)) count

    -- where some didn't come, the message isn't whole
    pub part_front : length new < head.length + head.body → IsFrontOf new (part asked.awaits)
    part_front short =
        let e : nat_lt (length new) (head.length + asked.body) ≡ true = lt-ltb _ _ (omega (arith, short, asks.body)) in
        (Some (Ok (head.length, asked)), head_stays is, rw e refl)

-- ---- a head that is refused, or didn't come

pub refused_front : (bytes : List ℕ) (fault : HeadFault) → Sees bytes (Refused fault) → IsFrontOf bytes (item (refused fault) [])
refused_front bytes fault sees = (Some (Err fault), sees, refl)

-- no byte of it came
pub nothing_front : (bytes : List ℕ) → IsUnended bytes → length bytes ≡ 0 → IsFrontOf bytes nothing
nothing_front bytes unended none = let e : (length bytes == 0) ≡ true = eq-eqb _ _ none in (None, unended, rw e refl)

-- some bytes of it came
pub part_of_head_front : (bytes : List ℕ) → IsUnended bytes → 0 < length bytes → IsFrontOf bytes (part false)
part_of_head_front bytes unended some = let e : (length bytes == 0) ≡ false = ne_eqb _ _ (λ no. omega (arith, some, no)) in (None, unended, rw e refl)

-- ---- what waits, before what is left

-- at the end all bytes wait
pub all_wait : (waiting : List ℕ) (left : Option (List ℕ)) (whole : List ℕ) → prepend_known waiting left ≡ Some whole → IsAtEnd left → whole ≡ waiting
all_wait waiting None whole told end = absurd (cc)
all_wait waiting (Some rest) whole told end = let same : whole ≡ waiting ++ rest = cc in same ∙ ap (λ bytes. waiting ++ bytes) end ∙ append-nil waiting

-- a request at the front of what waits is at the front of all bytes, and what waits behind it is before what is left
pub request_of_whole : (waiting : List ℕ) (left : Option (List ℕ)) (whole : List ℕ) → prepend_known waiting left ≡ Some whole
    → (asked : HeadFacts) (body rest : List ℕ) → IsFrontOf waiting (item (request asked body) rest)
    → (after : List ℕ) × IsFrontOf whole (item (request asked body) after) × (prepend_known rest left ≡ Some after)
request_of_whole waiting None whole told asked body rest front = absurd (cc)
request_of_whole waiting (Some more) whole told asked body rest front =
    let same : waiting ++ more ≡ whole = cc in
    (rest ++ more, subst (λ bytes. IsFrontOf bytes (item (request asked body) (rest ++ more))) same (request_stays waiting more asked body rest front), refl)

-- so is one that is refused
pub refused_of_whole : (waiting : List ℕ) (left : Option (List ℕ)) (whole : List ℕ) → prepend_known waiting left ≡ Some whole
    → (fault : HeadFault) (rest : List ℕ) → IsFrontOf waiting (item (refused fault) rest) → IsFrontOf whole (item (refused fault) [])
refused_of_whole waiting None whole told fault rest front = absurd (cc)
refused_of_whole waiting (Some more) whole told fault rest front =
    let same : waiting ++ more ≡ whole = cc in
    subst (λ bytes. IsFrontOf bytes (item (refused fault) [])) same (refused_stays waiting more fault rest front).1
