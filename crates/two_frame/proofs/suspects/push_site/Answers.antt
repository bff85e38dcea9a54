use Rattle.std.proofs.Common.{◌≡◌, ℕ, ◌+◌, ◌++◌, ◌∷◌, [], List, Bool, true, false, sym, subst, arith}
use Rattle.scan_model.specs.declared.fault.Fault.{Fault}
use Rattle.fault_effects.specs.declared.suspect.Suspect.{Suspect}
use Rattle.two_frame.specs.ReachingFaults.{IsMarkedAs, AreReachingTo}
use Rattle.two_frame.proofs.ReachingFaults.{reaching_more, reaching_past}
use Rattle.two_frame.proofs.suspects.push_site.Goals as goal

pub returns-then-not-marked : goal.returns-then-not-marked
returns-then-not-marked c = λ t marks rises falls are.
    let Marked : ℕ → Fault → Bool → Type 0 = λ place f marked. IsMarkedAs t marks marked place f in
    let To : ℕ → Type 0 = λ n. AreReachingTo t marks n c.args.suspects.now in
    let none : c.args.marked ≡ false = c.if-not-marked.true in
    let first = reaching_past t marks c.args.place c.args.rise c.args.suspects.now (subst (Marked c.args.place c.args.rise) none rises) are in
    subst To (omega arith) (reaching_past t marks (c.args.place + 1) c.args.fall c.args.suspects.now (subst (Marked (c.args.place + 1) c.args.fall) none falls) first)

pub returns : goal.returns
returns c = λ t marks rises falls are.
    let Marked : ℕ → Fault → Bool → Type 0 = λ place f marked. IsMarkedAs t marks marked place f in
    let all : c.args.marked ≡ true = c.if-not-marked.false in
    let one : Suspect = record { place = c.args.place; fault = c.args.rise } in
    let two : Suspect = record { place = c.args.place + 1; fault = c.args.fall } in
    let first = reaching_more t marks c.args.place c.args.rise c.args.suspects.now (subst (Marked c.args.place c.args.rise) all rises) are in
    let second = reaching_more t marks (c.args.place + 1) c.args.fall (c.args.suspects.now ++ one ∷ []) (subst (Marked (c.args.place + 1) c.args.fall) all falls) first in
    let Two : List Suspect → Type 0 = λ xs. AreReachingTo t marks (c.args.place + 2) xs in
    let To : ℕ → Type 0 = λ n. AreReachingTo t marks n ((c.args.suspects.now ++ one ∷ []) ++ two ∷ []) in
    let After : List Suspect → Type 0 = λ xs. AreReachingTo t marks (c.args.place + 2) (xs ++ two ∷ []) in
    subst Two (sym c.in_ok-push-2.ensures.ok) (subst After (sym c.in_ok-push.ensures.ok) (subst To (omega arith) second))
