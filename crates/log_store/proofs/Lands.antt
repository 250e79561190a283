-- A store after a flush that succeeded.
use Rattle.std.proofs.Common.{◌≡◌, ℕ, Bool, false, List, refl, sym, ap, ◌∙◌, subst, arith}
use Rattle.std.specs.Prelude.{IsTrue}
use Rattle.life_bytes.specs.declared.sector.Sector.{Sector}
use Rattle.disk_model.specs.Disk.{Cell, Elapses, flushed}
use Rattle.log_store.specs.declared.store.Stage.TheVariants.{Free}
use Rattle.log_store.specs.declared.store.Job.{Job}
use Rattle.log_store.specs.declared.store.Store.{Store}
use Rattle.log_store.specs.Landed.{flushed_home}
use Rattle.log_store.specs.OnDisk.{AtRest, ReplaysTo, base_of}
use Rattle.log_store.specs.State.{State, state_of}
use Rattle.log_store.specs.Steps.{Goes, IsStore, JobAsks}
use Rattle.log_store.proofs.Base.{base-flushed}
use Rattle.log_store.proofs.Going.{moves_none}
use Rattle.log_store.proofs.Sound.{held_of, job_free, rest_of, stage_free}

-- what was written home is flushed
pub lands_home : {D : Type 0} (known : Bool) (cells : D → List Cell) (count moment : D → ℕ) (left : D → ℕ → List Sector → Type 0) (old : Store D) (disk : D) (job : Job)
    → IsStore known cells count old → JobAsks job old.queue.items old.batch old.ring old.positions.head old.positions.tail → old.stage ≡ Free → count disk ≡ count old.disk
    → (IsTrue known → cells disk ≡ flushed (cells old.disk))
    → ((s : State) (cs : List Cell) → AtRest s cs → AtRest (flushed_home s) (flushed cs))
    → (IsTrue known → Elapses (moment old.disk) (moment disk) (left old.disk) (left disk) (ReplaysTo (state_of old) (cells old.disk)))
    → Goes known cells count moment left old (record old { disk = disk; unflushed = false; job = job })
lands_home known cells count moment left old disk job store asks free size after law moments = record {
  store = record {
    sound = record {
      place = omega (arith, store.sound.place);
      last = store.sound.last;
      ring = store.sound.ring;
      commits = store.sound.commits;
      groups = store.sound.groups;
      numbers = store.sound.numbers;
      rises = store.sound.rises;
      homes = store.sound.homes;
      room = store.sound.room;
      buffer = store.sound.buffer;
      stage = stage_free old.stage _ old.sectors.items old.count free;
      job = job_free old.stage job free;
      asks = asks;
    };
    holds = λ tells. held_of old.stage _ _ free
        (subst (λ (cs : List Cell). AtRest (flushed_home (state_of old)) cs) (sym (after tells))
        (law (state_of old) (cells old.disk) (rest_of old.stage (state_of old) (cells old.disk) free (store.holds tells))));
  };
  moves = moves_none known (state_of old) _ (cells old.disk) (cells disk) refl refl refl refl (omega arith) (λ tells.
      ap (base_of (state_of old)) (after tells) ∙ base-flushed (state_of old) (cells old.disk));
  moments = moments;
}
