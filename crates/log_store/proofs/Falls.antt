-- A store that goes down.
use Rattle.std.proofs.Common.{◌≡◌, ◌+◌, ℕ, Bool, List, length, refl, sym, subst, arith}
use Rattle.std.specs.Prelude.{IsTrue, Vec}
use Rattle.std.specs.declared.alloc.Global.{Global}
use Rattle.life_limits.specs.declared.TheConstants.{MAX_RECORD_SECTORS}
use Rattle.life_bytes.specs.declared.sector.Sector.{Sector}
use Rattle.disk_model.specs.Disk.{Cell, Elapses, IsImage}
use Rattle.log_store.specs.declared.store.Stage.TheVariants.{Down}
use Rattle.log_store.specs.declared.store.Job.TheVariants.{Idle}
use Rattle.log_store.specs.declared.store.Store.{Store}
use Rattle.log_store.specs.OnDisk.{Replays, ReplaysTo, base_of}
use Rattle.log_store.specs.State.{state_of}
use Rattle.log_store.specs.Steps.{Goes, IsStore}
use Rattle.log_store.proofs.Going.{moves_none}

pub falls : {D : Type 0} (known : Bool) (cells : D → List Cell) (count moment : D → ℕ) (left : D → ℕ → List Sector → Type 0) (old : Store D) (disk : D) (sectors : Vec Sector Global) (fault : ℕ)
    → IsStore known cells count old → count disk ≡ count old.disk → length sectors.items ≡ 135
    → (IsTrue known → base_of (state_of old) (cells disk) ≡ base_of (state_of old) (cells old.disk))
    → (IsTrue known → (image : List Sector) → IsImage (cells disk) image → ReplaysTo (state_of old) (cells old.disk) image)
    → (IsTrue known → Elapses (moment old.disk) (moment disk) (left old.disk) (left disk) (ReplaysTo (state_of old) (cells old.disk)))
    → Goes known cells count moment left old (record old { disk = disk; sectors = sectors; stage = Down fault; job = Idle })
falls known cells count moment left old disk sectors fault store size long base images moments = record {
  store = record {
    sound = record {
      place = omega (arith, store.sound.place);
      last = store.sound.last;
      ring = store.sound.ring;
      commits = store.sound.commits;
      groups = store.sound.groups;
      numbers = store.sound.numbers;
      rises = store.sound.rises;
      homes = store.sound.homes;
      room = store.sound.room;
      buffer = long;
      stage = tt;
      job = tt;
      asks = tt;
    };
    holds = λ tells image is.
        subst (λ (b : List Sector). Replays old.anchor old.ring (old.positions.head + MAX_RECORD_SECTORS) b old.queue.items old.durable image) (sym (base tells)) (images tells image is);
  };
  moves = moves_none known (state_of old) _ (cells old.disk) (cells disk) refl refl refl refl (omega arith) base;
  moments = moments;
}
