-- What was handed out is out, as `back` asks.
use Rattle.std.proofs.Common.{◌≡◌, ℕ, ◌<◌, List, Option, None, Some, arith, subst, refl, sym, ◌∙◌}
use Rattle.std.proofs.lemmas.Option.{same_Some, none-some}
use Rattle.desk_outside.specs.declared.deed.Deed.{Deed}
use Rattle.desk_outside.specs.Cabinets.{CabinetTold, keeper_handed}
use Rattle.desk_outside.specs.Doors.{DoorTold, handed}
use Rattle.desk_outside.specs.Streets.{StreetTold, door_handed}

-- where handing out leaves one out, one is out whatever is told now
pub is_out : {T : Type 0} (out : T → ℕ) (old new : Option T) → (old ≡ None → new ≡ None) → ((t : T) → old ≡ Some t → (u : T) × (new ≡ Some u) × (0 < out u)) → (t : T) → new ≡ Some t → 0 < out t
is_out out None new silent handed t e = absurd (none-some t (sym (silent refl) ∙ e))
is_out {T = T} out (Some s) new silent handed t e =
    let h = handed s refl in
    let P : T → Type 0 = λ u. 0 < out u in
    subst P (same_Some h.0 t (sym h.1 ∙ e)) h.2

-- a link is out after `Door::next`
pub link_is_out : {L S : List ℕ → Type 0} (old new : Option DoorTold) → (old ≡ None → new ≡ None)
    → ((t : DoorTold) → old ≡ Some t → (left : List ℕ) × (L left) × (S left) × (new ≡ Some (handed t left))) → (t : DoorTold) → new ≡ Some t → 0 < t.out
link_is_out old new silent handing =
    is_out (λ (t : DoorTold). t.out) old new silent
    (λ t e. let h = handing t e in let one : 0 < (handed t h.0).out = omega arith in (handed t h.0, h.3, one))

-- a door is out after `Street::door`
pub door_is_out : {D : Type 0} (port : ℕ) (old new : Option StreetTold) → (old ≡ None → new ≡ None)
    → ((t : StreetTold) → old ≡ Some t → D × (new ≡ Some (door_handed t port))) → (t : StreetTold) → new ≡ Some t → 0 < t.out
door_is_out port old new silent handing =
    is_out (λ (t : StreetTold). t.out) old new silent
    (λ t e. let one : 0 < (door_handed t port).out = omega arith in (door_handed t port, (handing t e).1, one))

-- a keeper is out after `Cabinet::keeper`
pub keeper_is_out : {K : List Deed → Type 0} (name : List ℕ) (old new : Option CabinetTold) → (old ≡ None → new ≡ None)
    → ((t : CabinetTold) → old ≡ Some t → (rows : List Deed) × (K rows) × (new ≡ Some (keeper_handed t name rows))) → (t : CabinetTold) → new ≡ Some t → 0 < t.out
keeper_is_out name old new silent handing =
    is_out (λ (t : CabinetTold). t.out) old new silent
    (λ t e. let h = handing t e in let one : 0 < (keeper_handed t name h.0).out = omega arith in (keeper_handed t name h.0, h.2, one))
