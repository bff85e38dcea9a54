-- Nets in the order in which they are shown.
use Rattle.std.specs.Prelude.{◌≡◌, ℕ, ◌<◌, List, [], All, Contains, true, false, length, slice_index_or}
use Rattle.fault_effects.specs.declared.flip_order.Listing.{Listing}

-- nets below the end, among them each net that was seen and owns a suspect
pub record IsListing (groups : List (List ℕ)) (end : ℕ) (listing : Listing) : Type 0 where
  pub count : length listing.seen.items ≡ end
  pub within : All (λ n. n < end) listing.nets.items
  pub due : All (λ n. n < end) listing.due.items
  pub listed : (n : ℕ) → slice_index_or listing.seen.items n false ≡ true → 0 < length (slice_index_or groups n []) → Contains listing.nets.items n
