-- Workers with fresh caches may work.
use Rattle.std.proofs.Common.{◌≡◌, ℕ, List, map, sym, subst}
use Rattle.std.specs.Prelude.{All, slice_index_or}
use Rattle.shared_desk.specs.Seats.{DeskFacts, SeatFacts}
use Rattle.report_cache.specs.Truth.{CacheFacts, IsTrueFor, IsReportIn, fresh_cache}
use Rattle.desk_serve.specs.Work.{CanWork}
use Rattle.std.proofs.lemmas.List.Elements.{All-nil}
use Rattle.desk_serve.proofs.Lists.{all_of_map}

pub can_work : {W : Type 0} (desk : DeskFacts) (seat : W → SeatFacts) (cache : W → CacheFacts) (entries : ℕ) (ws : List W) (seats : List SeatFacts) → map seat ws ≡ seats → All (λ (s : SeatFacts). s.desk ≡ desk) seats → All (λ w. cache w ≡ fresh_cache entries) ws
    → All (λ w. CanWork desk (seat w) (cache w)) ws
can_work desk seat cache entries ws seats are of_desk fresh = λ k d h. record {
  belongs = all_of_map (λ (s : SeatFacts). s.desk ≡ desk) seat ws (subst (All (λ (s : SeatFacts). s.desk ≡ desk)) (sym are) of_desk) k d h;
  truth = subst (λ c. IsTrueFor c (seat (slice_index_or ws k d)).seen) (sym (fresh k d h)) (All-nil (IsReportIn (seat (slice_index_or ws k d)).seen));
}
