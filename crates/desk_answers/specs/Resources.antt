-- What the target of a request names, and what may be done there.
use Rattle.std.specs.Prelude.{◌≡◌, true, ℕ, if◌then◌else◌, List, map, slice_get, Option, Some, None, option_and_then}
use Rattle.matchit.specs.Router.{RouteOf}
use Rattle.matchit.specs.Seek.{first}
use Rattle.matchit.specs.Params.{walk}
use Rattle.matchit.specs.declared.params.Params.{Params}
use Rattle.scan_model.specs.Words.{is_tag, number_of}
use Rattle.desk_replies.specs.declared.methods.Methods.{Methods}
use Rattle.desk_replies.specs.declared.methods.Methods.TheVariants as methods
use Rattle.desk_answers.specs.declared.routes.resource.Resource.{Resource}
use Rattle.desk_answers.specs.declared.routes.resource.Resource.TheVariants as resource
use Rattle.desk_answers.specs.declared.routes.Route.{Route}
use Rattle.desk_answers.specs.declared.routes.Route.TheVariants as route
use Rattle.desk_answers.specs.Routes.{routes}

-- ---- what a target names

-- the segment at this place, where it is a tag
abbrev pub tag_at : ℕ → List (List ℕ) → Option (List ℕ)
tag_at place segments = option_and_then (λ word. if is_tag word then Some word else None) (slice_get segments place)

-- the number of the segment at this place, where it is a number word
abbrev pub number_at : ℕ → List (List ℕ) → Option ℕ
number_at place segments = option_and_then number_of (slice_get segments place)

-- goes on with a part that is there
infixl 10 ◌>>=◌
abbrev pub ◌>>=◌ : {X Y : Type 0} → Option X → (X → Option Y) → Option Y
None >>= next = None
Some x >>= next = next x

-- what a route names with these segments in its braces, where each is a tag or a number word as it should be
abbrev pub named : Route → List (List ℕ) → Option Resource
named route.Design segments = do
  design ← tag_at 0 segments
  Some (resource.Design design)
named route.Fails segments = do
  design ← tag_at 0 segments
  fault ← number_at 1 segments
  Some (resource.Fails design fault)
named route.Logs segments = do
  design ← tag_at 0 segments
  die ← tag_at 1 segments
  Some (resource.Logs design die)
named route.LastReport segments = do
  design ← tag_at 0 segments
  die ← tag_at 1 segments
  Some (resource.LastReport design die)
named route.Report segments = do
  design ← tag_at 0 segments
  die ← tag_at 1 segments
  revision ← number_at 2 segments
  Some (resource.Report design die revision)
named route.Page segments = do
  design ← tag_at 0 segments
  die ← tag_at 1 segments
  revision ← number_at 2 segments
  line ← number_at 3 segments
  Some (resource.Page design die revision line)
named route.Slat segments = do
  design ← tag_at 0 segments
  die ← tag_at 1 segments
  revision ← number_at 2 segments
  Some (resource.Slat design die revision)
named route.SlatPattern segments = do
  design ← tag_at 0 segments
  die ← tag_at 1 segments
  revision ← number_at 2 segments
  pattern ← number_at 3 segments
  Some (resource.SlatPattern design die revision pattern)
named route.Signs segments = do
  design ← tag_at 0 segments
  die ← tag_at 1 segments
  Some (resource.Signs design die)
named route.Sign segments = do
  design ← tag_at 0 segments
  die ← tag_at 1 segments
  number ← number_at 2 segments
  Some (resource.Sign design die number)

-- the segments of a target that the braces of a row took, in their order
abbrev pub segments : RouteOf Route → List ℕ → List (List ℕ)
segments row target = map (λ parameter. parameter.1) (walk row.pattern row.text target row.names 0 0)

-- the segments that the parameters of a match hold, in their order
abbrev pub taken : Params → List (List ℕ)
taken p = map (λ parameter. parameter.1) (walk p.pattern.now p.text.now p.path.now p.names.now 0 0)

-- what the first route of a target names with its segments
abbrev pub resource_of : List ℕ → Option Resource
resource_of target = do
  row ← first routes target
  named row.value (segments row target)

-- ---- methods

-- a design is put and got, logs and sign-offs are posted, and all else is got
abbrev pub methods_of : Resource → Methods
methods_of (resource.Design design) = methods.GetPut
methods_of (resource.Logs design die) = methods.Post
methods_of (resource.Signs design die) = methods.Post
methods_of _ = methods.Get

-- ---- names

-- its names are tags
abbrev pub HasTags : Resource → Type 0
HasTags (resource.Design design) = is_tag design ≡ true
HasTags (resource.Fails design fault) = is_tag design ≡ true
HasTags (resource.Logs design die) = (is_tag design ≡ true) × (is_tag die ≡ true)
HasTags (resource.LastReport design die) = (is_tag design ≡ true) × (is_tag die ≡ true)
HasTags (resource.Report design die revision) = (is_tag design ≡ true) × (is_tag die ≡ true)
HasTags (resource.Page design die revision line) = (is_tag design ≡ true) × (is_tag die ≡ true)
HasTags (resource.Slat design die revision) = (is_tag design ≡ true) × (is_tag die ≡ true)
HasTags (resource.SlatPattern design die revision pattern) = (is_tag design ≡ true) × (is_tag die ≡ true)
HasTags (resource.Signs design die) = (is_tag design ≡ true) × (is_tag die ≡ true)
HasTags (resource.Sign design die number) = (is_tag design ≡ true) × (is_tag die ≡ true)
