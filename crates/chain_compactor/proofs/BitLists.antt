-- Lists of bits upstream of Failing bits, as they grow.
use Rattle.std.proofs.Common.{◌≡◌, ℕ, ◌+◌, ◌<◌, Bool, true, false, cond, List, [], ◌∷◌, ◌++◌, sym, subst, ◌∙◌, append-nil, below_more}
use Rattle.std.specs.Prelude.{Contains}
use Rattle.std.proofs.lemmas.Bool.{both_ways}
use Rattle.std.proofs.lemmas.List.Elements.{All-append, All-cons, All-nil, Contains-append_left, Contains-push}
use Rattle.scan_model.specs.declared.logs.Bit.{Bit}
use Rattle.scan_model.specs.Coverage.{bit_of}
use Rattle.lane_rows.specs.Lanes.{lane}
use Rattle.lane_rows.specs.GoodRows.{pattern_of}
use Rattle.chain_compactor.specs.TracedBits.{IsBitIn, AreBits, AddsLanes}

module _ (lanes : List ℕ) (b k : ℕ) where
  abbrev bit : ℕ → Bit
  bit j = bit_of (pattern_of b j) k

  -- no lanes, no bits
  pub no_lane : (n : ℕ) (old : List Bit) → ((j : ℕ) → j < n → lane lanes j ≡ false) → AddsLanes lanes b k n old old
  no_lane n old none = record {
    kept = λ x has. has;
    listed = λ j lt is. absurd (both_ways (lane lanes j) (none j lt) is);
    within = λ patterns points lt inside are. are;
  }

  -- one lane more
  pub lane_more : (n : ℕ) (asked : Bool) (old mid new : List Bit) → n < 512 → asked ≡ lane lanes n → AddsLanes lanes b k n old mid → new ≡ mid ++ cond asked (bit n ∷ []) [] → AddsLanes lanes b k (n + 1) old new
  lane_more n true old mid new lt asked so_far pushed =
      let Has : Bit → List Bit → Type 0 = λ x xs. Contains xs x in
      record {
        kept = λ x has. subst (Has x) (sym pushed) (Contains-append_left mid (bit n ∷ []) x (so_far.kept x has));
        listed = below_more _ _ (λ j h is. subst (Has (bit j)) (sym pushed) (Contains-append_left mid (bit n ∷ []) (bit j) (so_far.listed j h is))) (λ is. subst (Has (bit n)) (sym pushed) (Contains-push mid (bit n)));
        within = λ patterns points k_lt inside are. subst (AreBits patterns points) (sym pushed)
            (All-append (IsBitIn patterns points) mid (bit n ∷ []) (so_far.within patterns points k_lt inside are)
            (All-cons (IsBitIn patterns points) (bit n) [] (inside n lt (sym asked), k_lt) (All-nil (IsBitIn patterns points))));
      }
  lane_more n false old mid new lt asked so_far pushed =
      let same : new ≡ mid = pushed ∙ append-nil mid in
      let Added : List Bit → Type 0 = λ xs. AddsLanes lanes b k n old xs in
      let now = subst Added (sym same) so_far in
      record {
        kept = now.kept;
        listed = below_more _ _ now.listed (λ is. absurd (both_ways (lane lanes n) (sym asked) is));
        within = now.within;
      }
