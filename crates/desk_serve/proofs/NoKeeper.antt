-- A run that ends with a line alone, as it does where no keeper is handed out.
use Rattle.std.proofs.Common.{◌≡◌, Some, refl, sym, subst, inl, inr}
use Rattle.std.specs.Prelude.{◌⊎◌}
use Rattle.desk_outside.specs.Faults.{Rose}
use Rattle.desk_outside.specs.Cabinets.{CabinetTold}
use Rattle.run_ends.specs.declared.ending.Ending.{Ending}
use Rattle.run_ends.specs.declared.ending.Ending.TheVariants.{StoreFault, NoMemory}
use Rattle.run_ends.specs.Endings.{Writes}
use Rattle.desk_serve.specs.Lines.{line_of}
use Rattle.desk_serve.specs.Runs.{RunOrder, Outside, HasEnded, IsDue, IsUnused}

module _ (asked : RunOrder) (old new : Outside) (untouched : Type 0) (result : Ending) where
  pub ends_alone : (due : Ending) → IsDue asked old new untouched due (line_of due) → Writes due (line_of due) result old.written new.written (Rose old.sink_faults new.sink_faults) → HasEnded asked old new untouched result
  ends_alone due is (inl (same, wrote)) = inl record { text = line_of due; is = subst (λ r. IsDue asked old new untouched r (line_of due)) (sym same) is; wrote = wrote }
  ends_alone due is (inr (sink, part, rose)) = inr (sink, record { text = line_of due; is = inr (due, is); part = part; rose = rose })

pub no_keeper : (asked : RunOrder) (old new : Outside) (untouched : Type 0) (ending result : Ending) → untouched → ((told : CabinetTold) → old.cabinet ≡ Some told → IsUnused asked.store told new.cabinet)
    → (ending ≡ StoreFault) ⊎ (ending ≡ NoMemory) → (ending ≡ StoreFault → Rose old.cabinet_faults new.cabinet_faults) → Writes ending (line_of ending) result old.written new.written (Rose old.sink_faults new.sink_faults) → HasEnded asked old new untouched result
no_keeper asked old new untouched ending result same unused (inl is) rose writes =
    ends_alone asked old new untouched result StoreFault (record { street = same; cabinet = unused }, rose is, refl) (subst (λ e. Writes e (line_of e) result old.written new.written (Rose old.sink_faults new.sink_faults)) is writes)
no_keeper asked old new untouched ending result same unused (inr is) rose writes =
    ends_alone asked old new untouched result NoMemory (inl (record { street = same; cabinet = unused }, refl)) (subst (λ e. Writes e (line_of e) result old.written new.written (Rose old.sink_faults new.sink_faults)) is writes)
