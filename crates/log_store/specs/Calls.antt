-- Calls of the disk, and what one leaves of it.
use Rattle.std.specs.Prelude.{ℕ, ◌≡◌, ◌+◌, ◌-◌, Bool, nat_le, IsTrue, List, Result, Ok, Err}
use Rattle.life_bytes.specs.declared.sector.Sector.{Sector}
use Rattle.disk_model.specs.Disk.{Arming, Cell, IsPartlyWritten, after_write, flushed, written}
use Rattle.log_record.specs.Encoding.{sector_count}
use Rattle.log_store.specs.declared.fault.Progress.{Progress}
use Rattle.log_store.specs.declared.fault.StoreFault.{StoreFault}
use Rattle.log_store.specs.State.{State}

-- a call of the disk: none, a write of sectors from a sector on, or a flush
pub data DeviceCall : Type 0 where
  none : DeviceCall
  write : ℕ → List Sector → DeviceCall
  flush : DeviceCall

abbrev pub Writes : DeviceCall → Type 0
Writes none = ⊥
Writes (write at pieces) = Unit {0}
Writes flush = ⊥

abbrev pub Flushes : DeviceCall → Type 0
Flushes none = ⊥
Flushes (write at pieces) = ⊥
Flushes flush = Unit {0}

-- whether a record of so many images has room, with a sector to spare for a cover
abbrev pub has_room : State → ℕ → Bool
has_room s images = nat_le ((s.head - s.tail) + sector_count images + 1) s.ring

-- the state before a step with the record that was gathered in it
abbrev pub with_batch : State → State → State
with_batch old new = record old { batch = new.batch; taken = new.taken }

-- A disk before and after the call and no other: what it holds, where that is known, and what is armed.
abbrev pub Made : {D : Type 0} → Bool → (D → List Cell) → (D → Arming) → DeviceCall → Result Progress StoreFault → D → D → Type 0
Made known cells arming none result old new = new ≡ old
Made known cells arming (write at pieces) (Ok progress) old new =
    (IsTrue known → cells new ≡ written at pieces (cells old)) × (arming new ≡ after_write (arming old))
Made known cells arming (write at pieces) (Err fault) old new =
    (IsTrue known → IsPartlyWritten at pieces (cells old) (cells new)) × (arming new ≡ after_write (arming old))
Made known cells arming flush (Ok progress) old new = (IsTrue known → cells new ≡ flushed (cells old)) × (arming new ≡ arming old)
Made known cells arming flush (Err fault) old new = (cells new ≡ cells old) × (arming new ≡ arming old)
