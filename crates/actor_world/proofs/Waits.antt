-- Whoever holds a lock takes none.
use Rattle.std.proofs.Common.{◌≡◌, true, false, refl}
use Rattle.std.proofs.lemmas.Bool.{false≢true}
use Rattle.actor_world.specs.declared.memory.Place.{Place}
use Rattle.actor_world.specs.declared.memory.Place.TheVariants as place
use Rattle.actor_world.specs.Moves.{lies_in_group, lies_in_log, takes_group, takes_log}

pub group_takes_none : (at : Place) → lies_in_group at ≡ true → (takes_group at ≡ false) × (takes_log at ≡ false)
group_takes_none place.LoadLocked e = (refl, refl)
group_takes_none (place.PinLocked seen) e = (refl, refl)
group_takes_none place.Install e = (refl, refl)
group_takes_none (place.Leave answer) e = (refl, refl)
group_takes_none place.Change e = (refl, refl)
group_takes_none (place.Mark answer) e = (refl, refl)
group_takes_none (place.Free key others) e = (refl, refl)
group_takes_none (place.Kill key others) e = (refl, refl)
group_takes_none place.Answer e = (refl, refl)
group_takes_none (place.InstallMade key) e = (refl, refl)
group_takes_none place.FreeHead e = (refl, refl)
group_takes_none place.KillHead e = (refl, refl)
group_takes_none place.Pass e = (refl, refl)
group_takes_none place.Copy e = (refl, refl)
group_takes_none (place.Retire number others) e = (refl, refl)
group_takes_none place.End e = (refl, refl)
group_takes_none _ e = absurd (false≢true e)

pub log_takes_none : (at : Place) → lies_in_log at ≡ true → (takes_group at ≡ false) × (takes_log at ≡ false)
log_takes_none place.Force e = (refl, refl)
log_takes_none place.WriteHome e = (refl, refl)
log_takes_none _ e = absurd (false≢true e)
