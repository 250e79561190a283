-- Ways from one store to another.
use Rattle.std.proofs.Common.{◌≡◌, ◌+◌, ◌-◌, ◌≤◌, ℕ, Bool, List, [], length, take, drop, min, refl, sym, ap, ◌∙◌, inl, inr, arith}
use Rattle.std.specs.Prelude.{IsTrue, Vec}
use Rattle.std.specs.declared.alloc.Global.{Global}
use Rattle.std.proofs.lemmas.Bool.{cases_lt}
use Rattle.std.proofs.lemmas.List.{take-take, take_all, length-take, drop-take, drop_all}
use Rattle.life_bytes.specs.declared.sector.Sector.{Sector}
use Rattle.disk_model.specs.Disk.{Cell, Elapses}
use Rattle.log_record.specs.declared.image.Image.{Image}
use Rattle.log_record.specs.declared.image.Commit.{Commit}
use Rattle.log_store.specs.declared.store.Stage.{Stage}
use Rattle.log_store.specs.declared.store.Stage.TheVariants.{Cover, Down, Free, Half, Record}
use Rattle.log_store.specs.declared.store.Job.{Job}
use Rattle.log_store.specs.declared.store.Job.TheVariants.{Idle}
use Rattle.log_store.specs.declared.store.Store.{Store}
use Rattle.log_store.specs.OnDisk.{AtRest, HoldsAtStage, ReplaysTo, ReplaysUpTo, base_of}
use Rattle.log_store.specs.State.{State, state_of}
use Rattle.log_store.specs.Steps.{Goes, IsStore, JobAsks, JobFits, StageFits}
use Rattle.log_store.proofs.Going.{leaves_both, leaves_none, moves_both, moves_none, replays_earlier, replays_wider}
use Rattle.log_store.proofs.Sound.{held_of, rest_of, stage_free}

-- what is at rest does not ask for the list, the record or the stage
abbrev pub rerest : (s : State) (list : List Commit) (batch : List Image) (taken : ℕ) (stage : Stage) (cells : List Cell) → AtRest s cells
    → AtRest (record s { list = list; batch = batch; taken = taken; stage = stage }) cells
rerest s list batch taken stage cells rest = record {
  log = rest.log;
  tail = rest.tail;
  end = rest.end;
  next = rest.next;
  images = rest.images;
  logged = rest.logged;
  home = rest.home;
  clean = rest.clean;
}

-- one way after another
pub goes_both : {D : Type 0} (known : Bool) (cells : D → List Cell) (count moment : D → ℕ) (left : D → ℕ → List Sector → Type 0) (a b d : Store D)
    → Goes known cells count moment left a b → Goes known cells count moment left b d → Goes known cells count moment left a d
goes_both known cells count moment left a b d one two = record {
  store = two.store;
  moves = moves_both known (state_of a) (state_of b) (state_of d) (cells a.disk) (cells b.disk) (cells d.disk) one.moves two.moves;
  moments = λ tells. leaves_both (moment a.disk) (moment b.disk) (moment d.disk) (left a.disk) (left b.disk) (left d.disk)
      (ReplaysUpTo d.positions.head (state_of a) (cells a.disk)) (ReplaysUpTo b.positions.head (state_of a) (cells a.disk)) (ReplaysUpTo d.positions.head (state_of b) (cells b.disk))
      (λ image is. replays_wider b.positions.head d.positions.head (state_of a) (cells a.disk) image two.moves.head is)
      (λ image is. replays_earlier known d.positions.head (state_of a) (state_of b) (cells a.disk) (cells b.disk) image tells one.moves is)
      (one.moments tells) (two.moments tells);
}

-- where no job is going any may begin
pub any_job : (stage : Stage) (job : Job) → JobFits stage Idle → JobFits stage job
any_job Free job fits = tt
any_job (Down fault) job fits = tt
any_job Half job fits = absurd fits
any_job Record job fits = absurd fits
any_job Cover job fits = absurd fits

-- another job
pub goes_job : {D : Type 0} (known : Bool) (cells : D → List Cell) (count moment : D → ℕ) (left : D → ℕ → List Sector → Type 0) (old : Store D) (job : Job)
    → IsStore known cells count old → JobFits old.stage job → JobAsks job old.queue.items old.batch old.ring old.positions.head old.positions.tail → Goes known cells count moment left old (record old { job = job })
goes_job known cells count moment left old job store fits asks = record {
  store = record {
    sound = record {
      place = store.sound.place;
      last = store.sound.last;
      ring = store.sound.ring;
      commits = store.sound.commits;
      groups = store.sound.groups;
      numbers = store.sound.numbers;
      rises = store.sound.rises;
      homes = store.sound.homes;
      room = store.sound.room;
      buffer = store.sound.buffer;
      stage = store.sound.stage;
      job = fits;
      asks = asks;
    };
    holds = store.holds;
  };
  moves = moves_none known (state_of old) (state_of old) (cells old.disk) (cells old.disk) refl refl refl refl (omega arith) (λ tells. refl);
  moments = λ tells. leaves_none (moment old.disk) (left old.disk) (ReplaysTo (state_of old) (cells old.disk));
}

-- another record that is gathered
pub goes_gathered : {D : Type 0} (known : Bool) (cells : D → List Cell) (count moment : D → ℕ) (left : D → ℕ → List Sector → Type 0) (old : Store D)
    (batch : List Image) (taken size : ℕ) → IsStore known cells count old → old.stage ≡ Free → JobAsks old.job old.queue.items batch old.ring old.positions.head old.positions.tail
    → Goes known cells count moment left old (record old { batch = batch; taken = taken; count = size })
goes_gathered known cells count moment left old batch taken size store free asks = record {
  store = record {
    sound = record {
      place = store.sound.place;
      last = store.sound.last;
      ring = store.sound.ring;
      commits = store.sound.commits;
      groups = store.sound.groups;
      numbers = store.sound.numbers;
      rises = store.sound.rises;
      homes = store.sound.homes;
      room = store.sound.room;
      buffer = store.sound.buffer;
      stage = stage_free old.stage _ old.sectors.items size free;
      job = store.sound.job;
      asks = asks;
    };
    holds = λ tells. held_of old.stage _ (cells old.disk) free
        (rerest (state_of old) old.queue.items batch taken old.stage (cells old.disk) (rest_of old.stage (state_of old) (cells old.disk) free (store.holds tells)));
  };
  moves = moves_none known (state_of old) _ (cells old.disk) (cells old.disk) refl refl refl refl (omega arith) (λ tells. refl);
  moments = λ tells. leaves_none (moment old.disk) (left old.disk) (ReplaysTo (state_of old) (cells old.disk));
}

-- a write to the ring that was made
pub goes_written : {D : Type 0} (known : Bool) (cells : D → List Cell) (count moment : D → ℕ) (left : D → ℕ → List Sector → Type 0) (old : Store D)
    (disk : D) (sectors : Vec Sector Global) (stage : Stage) → IsStore known cells count old → JobFits stage old.job → count disk ≡ count old.disk → length sectors.items ≡ 135
    → StageFits stage (record (state_of old) { stage = stage }) sectors.items old.count
    → (IsTrue known → HoldsAtStage stage (record (state_of old) { stage = stage }) (cells disk))
    → (IsTrue known → base_of (state_of old) (cells disk) ≡ base_of (state_of old) (cells old.disk))
    → (IsTrue known → Elapses (moment old.disk) (moment disk) (left old.disk) (left disk) (ReplaysTo (state_of old) (cells old.disk)))
    → Goes known cells count moment left old (record old { disk = disk; sectors = sectors; stage = stage })
goes_written known cells count moment left old disk sectors stage store job size long fits holds base moments = record {
  store = record {
    sound = record {
      place = omega (arith, store.sound.place);
      last = store.sound.last;
      ring = store.sound.ring;
      commits = store.sound.commits;
      groups = store.sound.groups;
      numbers = store.sound.numbers;
      rises = store.sound.rises;
      homes = store.sound.homes;
      room = store.sound.room;
      buffer = long;
      stage = fits;
      job = job;
      asks = store.sound.asks;
    };
    holds = holds;
  };
  moves = moves_none known (state_of old) _ (cells old.disk) (cells disk) refl refl refl refl (omega arith) base;
  moments = moments;
}

-- the front of a record, up to the ring's end
pub front_part : (xs all : List Sector) (count k : ℕ) → take count xs ≡ all → take (min count k) xs ≡ take k all
front_part xs all count k is = elim (cases_lt k count) [
  | inl below ↦
      let least : min count k ≡ k = omega arith in
      ap (λ (n : ℕ). take n xs) least ∙ sym (take-take k count xs (omega arith)) ∙ ap (take k) is
  | inr above ↦
      let least : min count k ≡ count = omega arith in
      let short : length all ≤ k = omega (arith, ap length is, length-take count xs) in
      ap (λ (n : ℕ). take n xs) least ∙ is ∙ sym (take_all k all short)
]

-- the rest of it
pub rest_range : (xs all : List Sector) (count k : ℕ) → k ≤ count → take count xs ≡ all → take (count - k) (drop k xs) ≡ drop k all
rest_range xs all count k le is =
    let split : k + (count - k) ≡ count = omega arith in
    sym (drop-take k (count - k) xs) ∙ ap (λ (n : ℕ). drop k (take n xs)) split ∙ ap (drop k) is

-- none is left of one that does not pass the ring's end
pub no_rest : (xs all : List Sector) (count k : ℕ) → count ≤ k → take count xs ≡ all → drop k all ≡ []
no_rest xs all count k le is = drop_all k all (omega (arith, ap length is, length-take count xs))
