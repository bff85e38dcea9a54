-- The names of what a target names are tags.
use Rattle.std.proofs.Common.{◌≡◌, ℕ, List, Option, Some, None, Bool, true, false, refl, subst}
use Rattle.std.specs.Prelude.{option_and_then, if◌then◌else◌, slice_get}
use Rattle.matchit.specs.Seek.{first}
use Rattle.scan_model.specs.Words.{is_tag}
use Rattle.desk_answers.specs.declared.routes.resource.Resource.{Resource}
use Rattle.desk_answers.specs.declared.routes.resource.Resource.TheVariants as resource
use Rattle.desk_answers.specs.declared.routes.Route.{Route}
use Rattle.desk_answers.specs.declared.routes.Route.TheVariants as route
use Rattle.desk_answers.specs.Routes.{routes}
use Rattle.desk_answers.specs.Resources.{tag_at, number_at, ◌>>=◌, named, segments, resource_of, HasTags}

-- the part with which something goes on
part_of : {X Y : Type 0} (part : Option X) (next : X → Option Y) (y : Y) → (part >>= next) ≡ Some y → (x : X) × (part ≡ Some x) × (next x ≡ Some y)
part_of None next y e = absurd (let no : None ≡ Some y = e in cc)
part_of (Some x) next y e = (x, refl, e)

tagged : (place : ℕ) (segments : List (List ℕ)) (x : List ℕ) → tag_at place segments ≡ Some x → is_tag x ≡ true
tagged place segments x e = of (slice_get segments place) e
  where
    by : (word : List ℕ) (b : Bool) → is_tag word ≡ b → (if b then Some word else None) ≡ Some x → is_tag x ≡ true
    by word true is e = let same : word ≡ x = cc in subst (λ w. is_tag w ≡ true) same is
    by word false is e = absurd (let no : None ≡ Some x = e in cc)

    of : (word : Option (List ℕ)) → option_and_then (λ word. if is_tag word then Some word else None) word ≡ Some x → is_tag x ≡ true
    of None e = absurd (let no : None ≡ Some x = e in cc)
    of (Some word) e = by word (is_tag word) refl e

module _ (s : List (List ℕ)) (r : Resource) where
  named_tags : (way : Route) → named way s ≡ Some r → HasTags r
  named_tags route.Design e =
      let d = part_of (tag_at 0 s) (λ design. Some (resource.Design design)) r e in
      let is : resource.Design d.0 ≡ r = let same = d.2 in cc in
      subst HasTags is (tagged 0 s d.0 d.1)
  named_tags route.Fails e =
      let d = part_of (tag_at 0 s) (λ design. number_at 1 s >>= (λ fault. Some (resource.Fails design fault))) r e in
      let f = part_of (number_at 1 s) (λ fault. Some (resource.Fails d.0 fault)) r d.2 in
      let is : resource.Fails d.0 f.0 ≡ r = let same = f.2 in cc in
      subst HasTags is (tagged 0 s d.0 d.1)
  named_tags route.Logs e =
      let d = part_of (tag_at 0 s) (λ design. tag_at 1 s >>= (λ die. Some (resource.Logs design die))) r e in
      let x = part_of (tag_at 1 s) (λ die. Some (resource.Logs d.0 die)) r d.2 in
      let is : resource.Logs d.0 x.0 ≡ r = let same = x.2 in cc in
      subst HasTags is (tagged 0 s d.0 d.1, tagged 1 s x.0 x.1)
  named_tags route.LastReport e =
      let d = part_of (tag_at 0 s) (λ design. tag_at 1 s >>= (λ die. Some (resource.LastReport design die))) r e in
      let x = part_of (tag_at 1 s) (λ die. Some (resource.LastReport d.0 die)) r d.2 in
      let is : resource.LastReport d.0 x.0 ≡ r = let same = x.2 in cc in
      subst HasTags is (tagged 0 s d.0 d.1, tagged 1 s x.0 x.1)
  named_tags route.Report e =
      let d = part_of (tag_at 0 s) (λ design. tag_at 1 s >>= (λ die. number_at 2 s >>= (λ revision. Some (resource.Report design die revision)))) r e in
      let x = part_of (tag_at 1 s) (λ die. number_at 2 s >>= (λ revision. Some (resource.Report d.0 die revision))) r d.2 in
      let n = part_of (number_at 2 s) (λ revision. Some (resource.Report d.0 x.0 revision)) r x.2 in
      let is : resource.Report d.0 x.0 n.0 ≡ r = let same = n.2 in cc in
      subst HasTags is (tagged 0 s d.0 d.1, tagged 1 s x.0 x.1)
  named_tags route.Page e =
      let d = part_of (tag_at 0 s) (λ design. tag_at 1 s >>= (λ die. number_at 2 s >>= (λ revision. number_at 3 s >>= (λ line. Some (resource.Page design die revision line))))) r e in
      let x = part_of (tag_at 1 s) (λ die. number_at 2 s >>= (λ revision. number_at 3 s >>= (λ line. Some (resource.Page d.0 die revision line)))) r d.2 in
      let n = part_of (number_at 2 s) (λ revision. number_at 3 s >>= (λ line. Some (resource.Page d.0 x.0 revision line))) r x.2 in
      let l = part_of (number_at 3 s) (λ line. Some (resource.Page d.0 x.0 n.0 line)) r n.2 in
      let is : resource.Page d.0 x.0 n.0 l.0 ≡ r = let same = l.2 in cc in
      subst HasTags is (tagged 0 s d.0 d.1, tagged 1 s x.0 x.1)
  named_tags route.Slat e =
      let d = part_of (tag_at 0 s) (λ design. tag_at 1 s >>= (λ die. number_at 2 s >>= (λ revision. Some (resource.Slat design die revision)))) r e in
      let x = part_of (tag_at 1 s) (λ die. number_at 2 s >>= (λ revision. Some (resource.Slat d.0 die revision))) r d.2 in
      let n = part_of (number_at 2 s) (λ revision. Some (resource.Slat d.0 x.0 revision)) r x.2 in
      let is : resource.Slat d.0 x.0 n.0 ≡ r = let same = n.2 in cc in
      subst HasTags is (tagged 0 s d.0 d.1, tagged 1 s x.0 x.1)
  named_tags route.SlatPattern e =
      let d = part_of (tag_at 0 s) (λ design. tag_at 1 s >>= (λ die. number_at 2 s >>= (λ revision. number_at 3 s >>= (λ pattern. Some (resource.SlatPattern design die revision pattern))))) r e in
      let x = part_of (tag_at 1 s) (λ die. number_at 2 s >>= (λ revision. number_at 3 s >>= (λ pattern. Some (resource.SlatPattern d.0 die revision pattern)))) r d.2 in
      let n = part_of (number_at 2 s) (λ revision. number_at 3 s >>= (λ pattern. Some (resource.SlatPattern d.0 x.0 revision pattern))) r x.2 in
      let p = part_of (number_at 3 s) (λ pattern. Some (resource.SlatPattern d.0 x.0 n.0 pattern)) r n.2 in
      let is : resource.SlatPattern d.0 x.0 n.0 p.0 ≡ r = let same = p.2 in cc in
      subst HasTags is (tagged 0 s d.0 d.1, tagged 1 s x.0 x.1)
  named_tags route.Signs e =
      let d = part_of (tag_at 0 s) (λ design. tag_at 1 s >>= (λ die. Some (resource.Signs design die))) r e in
      let x = part_of (tag_at 1 s) (λ die. Some (resource.Signs d.0 die)) r d.2 in
      let is : resource.Signs d.0 x.0 ≡ r = let same = x.2 in cc in
      subst HasTags is (tagged 0 s d.0 d.1, tagged 1 s x.0 x.1)
  named_tags route.Sign e =
      let d = part_of (tag_at 0 s) (λ design. tag_at 1 s >>= (λ die. number_at 2 s >>= (λ number. Some (resource.Sign design die number)))) r e in
      let x = part_of (tag_at 1 s) (λ die. number_at 2 s >>= (λ number. Some (resource.Sign d.0 die number))) r d.2 in
      let n = part_of (number_at 2 s) (λ number. Some (resource.Sign d.0 x.0 number)) r x.2 in
      let is : resource.Sign d.0 x.0 n.0 ≡ r = let same = n.2 in cc in
      subst HasTags is (tagged 0 s d.0 d.1, tagged 1 s x.0 x.1)

pub resource_tags : (target : List ℕ) (r : Resource) → resource_of target ≡ Some r → HasTags r
resource_tags target r e =
    let row = part_of (first routes target) (λ row. named row.value (segments row target)) r e in
    named_tags (segments row.0 target) r row.0.value row.2
