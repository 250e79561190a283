use Rattle.std.proofs.Common.{◌≡◌, ℕ, List, [], ◌∷◌, ◌++◌, length, sym, ap, ◌∙◌, subst, arith}
use Rattle.log_record.specs.declared.image.Image.{Image}
use Rattle.log_record.specs.declared.image.Commit.{Commit}
use Rattle.log_store.specs.declared.store.Job.{Job}
use Rattle.log_store.specs.declared.store.Job.TheVariants.{Clear, Force, Home, Idle, Nothing, WriteBack}
use Rattle.log_store.specs.declared.store.Stage.{Stage}
use Rattle.log_store.specs.declared.store.Stage.TheVariants.{Cover, Down, Free, Half, Record}
use Rattle.log_store.specs.State.{State, state_of}
use Rattle.std.specs.List.{All}
use Rattle.std.proofs.lemmas.Grind.{flat_map-append}
use Rattle.std.proofs.lemmas.List.{append-nil, length-append, take-append-le}
use Rattle.std.proofs.lemmas.List.Elements.{All-append, All-push}
use Rattle.life_bytes.specs.declared.sector.Sector.{Sector}
use Rattle.disk_model.specs.Disk.{Cell}
use Rattle.log_image.specs.Log.{IsGroupImage}
use Rattle.log_image.specs.Overlay.{overlaid}
use Rattle.log_batch.specs.Newest.{IsCommit, IsNewestOf, commit_images}
use Rattle.log_store.specs.OnDisk.{Flies, HoldsAtStage, IsTaken, ReplaysTo, base_of}
use Rattle.log_store.specs.Steps.{IsInFlight, JobAsks, StageFits}
use Rattle.log_store.proofs.Ways.{rerest}
use Rattle.log_store.proofs.store.Store.take.Goals as goal

commit_images-push : (list : List Commit) (commit : Commit) → commit_images (list ++ commit ∷ []) ≡ commit_images list ++ commit.images
commit_images-push list commit =
    flat_map-append (λ (c : Commit). c.images) list (commit ∷ []) ∙ ap (λ (l : List Image). commit_images list ++ l) (append-nil commit.images)

more_taken : (list : List Commit) (commit : Commit) (taken : ℕ) (batch : List Image) → IsTaken list taken batch → IsTaken (list ++ commit ∷ []) taken batch
more_taken list commit taken batch is = record {
  within = omega (arith, is.within, length-append list (commit ∷ []));
  newest = subst (λ (l : List Commit). IsNewestOf (commit_images l) batch) (sym (take-append-le taken list (commit ∷ []) is.within)) is.newest;
  few = is.few;
}

abbrev more_list : State → Commit → State
more_list s commit = record s { list = s.list ++ commit ∷ [] }

flight_more : (s : State) (commit : Commit) (sectors : List Sector) (count : ℕ) → IsInFlight s sectors count → IsInFlight (more_list s commit) sectors count
flight_more s commit sectors count is = record {
  some = is.some;
  batch = more_taken s.list commit s.taken s.batch is.batch;
  fits = is.fits;
  size = is.size;
  encoded = is.encoded;
  room = is.room;
  end = is.end;
}

fits_more : (stage : Stage) (s : State) (commit : Commit) (sectors : List Sector) (count : ℕ) → StageFits stage s sectors count → StageFits stage (more_list s commit) sectors count
fits_more Free s commit sectors count fits = tt
fits_more Half s commit sectors count fits = (flight_more s commit sectors count fits.0, fits.1)
fits_more Record s commit sectors count fits = flight_more s commit sectors count fits
fits_more Cover s commit sectors count fits = fits
fits_more (Down fault) s commit sectors count fits = tt

flies_more : (s : State) (commit : Commit) (before : List Cell) → Flies s before → Flies (more_list s commit) before
flies_more s commit before flies = record {
  rest = rerest s (s.list ++ commit ∷ []) s.batch s.taken s.stage before flies.rest;
  goes = flies.goes;
  batch = more_taken s.list commit s.taken s.batch flies.batch;
}

replays_more : (s : State) (commit : Commit) (cells : List Cell) (image : List Sector) → ReplaysTo s cells image → ReplaysTo (more_list s commit) cells image
replays_more s commit cells image is = record {
  log = is.log;
  count = is.count;
  within = omega (arith, is.within, length-append s.list (commit ∷ []));
  says = is.says;
  groups = is.groups ∙ ap (λ (l : List Commit). overlaid (base_of s cells) (commit_images l)) (sym (take-append-le is.count s.list (commit ∷ []) is.within));
  next = is.next;
  end = is.end;
}

holds_more : (stage : Stage) (s : State) (commit : Commit) (cells : List Cell) → HoldsAtStage stage s cells → HoldsAtStage stage (more_list s commit) cells
holds_more Free s commit cells rest = rerest s (s.list ++ commit ∷ []) s.batch s.taken s.stage cells rest
holds_more Half s commit cells (before, flies, at) = (before, flies_more s commit before flies, at)
holds_more Record s commit cells (before, flies, at) = (before, flies_more s commit before flies, at)
holds_more Cover s commit cells (before, covers, at) =
    (before, record { rest = rerest s (s.list ++ commit ∷ []) s.batch s.taken s.stage before covers.rest; dirty = covers.dirty; unflushed = covers.unflushed }, at)
holds_more (Down fault) s commit cells holds = λ image is. replays_more s commit cells image (holds image is)

more_some : (list : List Commit) (commit : Commit) → list ++ commit ∷ [] ≡ [] → ⊥
more_some [] commit same = cc
more_some (first ∷ list) commit same = cc

asks_more : (job : Job) (list : List Commit) (commit : Commit) (batch : List Image) (ring head tail : ℕ) → JobAsks job list batch ring head tail
    → JobAsks job (list ++ commit ∷ []) batch ring head tail
asks_more Clear list commit batch ring head tail asks = record { some = λ same. more_some list commit same; few = asks.few; short = asks.short }
asks_more Force list commit batch ring head tail asks = tt
asks_more Home list commit batch ring head tail asks = tt
asks_more WriteBack list commit batch ring head tail asks = tt
asks_more Nothing list commit batch ring head tail asks = tt
asks_more Idle list commit batch ring head tail asks = tt

pub returns-clause-store : goal.returns-clause-store
returns-clause-store g c =
    let old = c.args.self.now in
    let sound = c.requires.store.sound in
    let s : State = state_of old in
    let commit = c.args.commit in
    let items = c.push_back_reserved.ensures.items in
    let pushed = commit_images-push old.queue.items commit in
    record {
      sound = record {
        place = sound.place;
        last = sound.last;
        ring = sound.ring;
        commits = subst (λ (l : List Commit). All IsCommit l) (sym items) (All-push IsCommit old.queue.items commit sound.commits c.requires.commit);
        groups = subst (λ (l : List Commit). All (IsGroupImage old.anchor) (commit_images l)) (sym items)
            (subst (λ (l : List Image). All (IsGroupImage old.anchor) l) (sym pushed) (All-append (IsGroupImage old.anchor) (commit_images old.queue.items) commit.images sound.groups c.requires.groups));
        numbers = omega (arith, c.requires.number, ap length items, length-append old.queue.items (commit ∷ []));
        rises = sound.rises;
        homes = sound.homes;
        room = record {
          counted = omega (
            arith,
            sound.room.counted,
            ap (λ (l : List Commit). length (commit_images l)) items,
            ap length pushed,
            length-append (commit_images old.queue.items) commit.images,
          );
          within = omega (arith, c.requires.images, sound.room.within);
          countable = omega (arith, c.requires.images, sound.room.countable);
        };
        buffer = sound.buffer;
        stage = subst (λ (l : List Commit). StageFits old.stage (record s { list = l }) old.sectors.items old.count) (sym items) (fits_more old.stage s commit old.sectors.items old.count sound.stage);
        job = sound.job;
        asks = subst (λ (l : List Commit). JobAsks old.job l old.batch old.ring old.positions.head old.positions.tail) (sym items) (asks_more old.job old.queue.items commit old.batch old.ring old.positions.head old.positions.tail sound.asks);
      };
      holds = λ tells. subst (λ (l : List Commit). HoldsAtStage old.stage (record s { list = l }) (g.D.Disk.cells old.disk)) (sym items)
          (holds_more old.stage s commit (g.D.Disk.cells old.disk) (c.requires.store.holds tells));
    }
