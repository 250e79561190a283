-- What a whole sync or home is answered.
use Rattle.std.specs.Prelude.{◌≡◌, ◌≤◌, ◌<◌, ◌+◌, ◌^◌, None, Some, length}
use Rattle.life_limits.specs.declared.TheConstants.{MAX_RECORD_SECTORS}
use Rattle.life_ports.specs.Faults.{Rose}
use Rattle.log_store.specs.State.{state_of}
use Rattle.log_store.specs.Outcome.{down_count}
use Rattle.life_table.specs.declared.types.Call.{Call}
use Rattle.life_table.specs.declared.types.Call.TheVariants as call
use Rattle.life_table.specs.declared.types.Reply.{Reply}
use Rattle.life_table.specs.declared.types.Reply.TheVariants as reply
use Rattle.life_table.specs.History.{changes}
use Rattle.actor_world.specs.World.{World}
use Rattle.actor_world.specs.Steps.{DiskFace}

-- A sync covers all changes that there are, and a home is done. Else there is a fault, with its cause: the disk's count of
-- faults rose; the log ends so near to the last position that a record of the longest kind would pass it; or the store was
-- down before.
abbrev pub LogAnswers : {D : Type 0} → DiskFace D → Call → World D → World D → Reply → Type 0
LogAnswers {D} face made old new (reply.Covered n) = (made ≡ call.Sync) × (n ≡ length (changes new.history.entries))
LogAnswers {D} face made old new reply.Done = made ≡ call.Home
LogAnswers {D} face made old new reply.WriteFault = Rose (face.faults old.store.disk) (face.faults new.store.disk)
LogAnswers {D} face made old new reply.FlushFault = Rose (face.faults old.store.disk) (face.faults new.store.disk)
LogAnswers {D} face made old new reply.PositionEnd = 2 ^ 63 < (state_of new.store).head + MAX_RECORD_SECTORS
LogAnswers {D} face made old new (reply.Down fault) = down_count (state_of old.store).stage ≡ Some fault
LogAnswers {D} face made old new _ = ⊥

-- none of these causes is there
pub record GoesWell {D : Type 0} (face : DiskFace D) (old new : World D) : Type 0 where
  pub up : down_count (state_of old.store).stage ≡ None
  pub calls : Rose (face.faults old.store.disk) (face.faults new.store.disk) → ⊥
  pub positions : (state_of new.store).head + MAX_RECORD_SECTORS ≤ 2 ^ 63
