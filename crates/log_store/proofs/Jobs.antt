-- What whole jobs move, from their steps.
use Rattle.std.proofs.Common.{Bool, Result, ℕ, List, refl, ap, ◌∙◌, arith, Ok, Err}
use Rattle.disk_model.specs.Disk.{Arming, Cell, IsAfterWrites}
use Rattle.log_store.specs.declared.fault.Progress.{Progress}
use Rattle.log_store.specs.declared.fault.StoreFault.{StoreFault}
use Rattle.log_store.specs.Calls.{DeviceCall, Made, flush, none, write}
use Rattle.log_store.specs.Outcome.{Rises, PositionsStay}
use Rattle.log_store.specs.State.{State}

pub stays_none : (s : State) → PositionsStay s s
stays_none s = record { head = refl; tail = refl; durable = refl }

pub stays_both : (a b d : State) → PositionsStay a b → PositionsStay b d → PositionsStay a d
stays_both a b d one two = record { head = two.head ∙ one.head; tail = two.tail ∙ one.tail; durable = two.durable ∙ one.durable }

-- ---- the rise of the head

pub rises_none : (left : ℕ) (s : State) → Rises left left s s
rises_none left s = omega arith

pub rises_both : (covers mid left : ℕ) (a b d : State) → Rises covers mid a b → Rises mid left b d → Rises covers left a d
rises_both covers mid left a b d one two = omega (arith, one, two)

-- ---- what is armed

-- one call
pub armed_made : {D : Type 0} (known : Bool) (cells : D → List Cell) (arming : D → Arming) (call : DeviceCall) (result : Result Progress StoreFault) (old new : D)
    → Made known cells arming call result old new → IsAfterWrites (arming old) (arming new)
armed_made known cells arming none result old new made = (0, ap arming made)
armed_made known cells arming (write at pieces) (Ok progress) old new made = (1, made.1)
armed_made known cells arming (write at pieces) (Err fault) old new made = (1, made.1)
armed_made known cells arming flush (Ok progress) old new made = (0, made.1)
armed_made known cells arming flush (Err fault) old new made = (0, made.1)
