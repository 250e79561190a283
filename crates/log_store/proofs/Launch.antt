-- A record that begins to be written.
use Rattle.std.proofs.Common.{◌≡◌, ◌+◌, ◌-◌, ◌^◌, ◌<◌, ◌≤◌, ℕ, zero, suc, List, [], ◌∷◌, ◌++◌, length, take, drop, refl, sym, ap, ◌∙◌, subst, arith}
use Rattle.std.specs.List.{All}
use Rattle.std.proofs.lemmas.Grind.{flat_map-append}
use Rattle.std.proofs.lemmas.List.{take-append-drop, take_at, append-nil}
use Rattle.std.proofs.lemmas.List.Elements.{All-head, All-tail, All-take, All-nil, All-same}
use Rattle.disk_model.specs.Disk.{Cell}
use Rattle.log_record.specs.declared.image.Image.{Image}
use Rattle.log_record.specs.declared.image.Commit.{Commit}
use Rattle.log_record.specs.Encoding.{FitsFields, sector_count}
use Rattle.log_image.specs.Log.{IsGroupImage}
use Rattle.log_batch.specs.Newest.{IsBatch, IsCommit, commit_images}
use Rattle.log_batch.specs.NewestLaws.{newest_is_put_all, put_all_is_newest}
use Rattle.log_batch.specs.Put.{put, put_all}
use Rattle.log_batch.specs.PutLaws.{All-put, length-put}
use Rattle.log_store.specs.OnDisk.{AtRest, Flies, IsTaken, item_of}
use Rattle.log_store.specs.State.{State}

pub All-put_all : (P : Image → Type 0) (images into : List Image) → All P images → All P into → All P (put_all images into)
All-put_all P [] into all others = others
All-put_all P (x ∷ xs) into all others =
    All-put_all P xs (put x into) (All-tail P x xs all) (All-put P (λ (i : Image). i.home) x into (All-head P x xs all) others)

pub length-put_all-le : (images into : List Image) → length (put_all images into) ≤ length into + length images
length-put_all-le [] into = omega arith
length-put_all-le (x ∷ xs) into =
    let one = length-put (λ (i : Image). i.home) x into in
    let rest = length-put_all-le xs (put x into) in
    omega (arith, one.1)

pub commit_images-split : (n : ℕ) (commits : List Commit) → commit_images (take n commits) ++ commit_images (drop n commits) ≡ commit_images commits
commit_images-split n commits =
    sym (flat_map-append (λ (c : Commit). c.images) (take n commits) (drop n commits)) ∙ ap commit_images (take-append-drop n commits)

pub All-front : (P : Image → Type 0) (xs ys : List Image) → All P (xs ++ ys) → All P xs
All-front P xs ys all = All-same P xs (take (length xs) (xs ++ ys)) (sym (take_at xs ys (length xs) refl)) (All-take P (length xs) (xs ++ ys) all)

pub groups_taken : (anchor n : ℕ) (commits : List Commit) → All (IsGroupImage anchor) (commit_images commits) → All (IsGroupImage anchor) (commit_images (take n commits))
groups_taken anchor n commits all =
    All-front (IsGroupImage anchor) (commit_images (take n commits)) (commit_images (drop n commits))
    (subst (λ (l : List Image). All (IsGroupImage anchor) l) (sym (commit_images-split n commits)) all)

-- the images of a record are of the groups
pub groups_batch : (anchor n : ℕ) (commits : List Commit) (batch : List Image) → IsTaken commits n batch → All (IsGroupImage anchor) (commit_images commits) → All (IsGroupImage anchor) batch
groups_batch anchor n commits batch is all =
    subst (λ (l : List Image). All (IsGroupImage anchor) l) (sym (newest_is_put_all (commit_images (take n commits)) batch is.newest))
    (All-put_all (IsGroupImage anchor) (commit_images (take n commits)) [] (groups_taken anchor n commits all) (All-nil (IsGroupImage anchor)))

-- and no more than those of its commits
pub length_batch : (n : ℕ) (commits : List Commit) (batch : List Image) → IsTaken commits n batch → length batch ≤ length (commit_images (take n commits))
length_batch n commits batch is =
    omega (arith, ap length (newest_is_put_all (commit_images (take n commits)) batch is.newest), length-put_all-le (commit_images (take n commits)) [])

-- a record has a commit where there is one
pub some_taken : (n : ℕ) (commits : List Commit) (batch : List Image) → 0 < length commits → All IsCommit commits → IsBatch commits n batch → 0 < n
some_taken (suc n) commits batch some all is = omega arith
some_taken zero [] batch some all is = absurd (omega arith)
some_taken zero (c ∷ commits) batch some all is =
    let first : IsCommit c = All-head IsCommit c commits all in
    let one : commit_images (take (0 + 1) (c ∷ commits)) ≡ c.images = append-nil c.images in
    let more = put_all_is_newest (commit_images (take (0 + 1) (c ∷ commits))) in
    let long = is.longest (omega arith) (omega arith) (put_all (commit_images (take (0 + 1) (c ∷ commits))) []) more in
    absurd (omega (arith, long, first.few, length-put_all-le (commit_images (take (0 + 1) (c ∷ commits))) [], ap length one))

-- a record of at most 128 images has at most 135 sectors, and at least one
pub few_sectors : (m : ℕ) → m ≤ 128 → (sector_count m ≤ 135) × (0 < sector_count m)
few_sectors m few = (omega arith, omega arith)

-- it begins to be written
pub launch : (s : State) (cells : List Cell) → AtRest s cells → IsTaken s.list s.taken s.batch → FitsFields (item_of s) → All (IsGroupImage s.anchor) (commit_images s.list)
    → s.tail ≤ s.head → (s.head - s.tail) + sector_count (length s.batch) + 1 ≤ s.ring → s.head + sector_count (length s.batch) ≤ 2 ^ 63
    → s.durable + length s.list < 2 ^ 64 - 1 → Flies s cells
launch s cells rest batch fits groups order room end numbers = record {
  rest = rest;
  goes = record {
    form = record { few = batch.few; homes = batch.newest.ascending; tail = order; positions = omega arith };
    fits = fits;
    position = sym rest.end;
    first = sym rest.next;
    tail = sym rest.tail;
    room = omega (arith, rest.tail);
    homes = groups_batch s.anchor s.taken s.list s.batch batch groups;
    end = omega arith;
    next = omega (arith, batch.within);
  };
  batch = batch;
}

pub taken_of : (commits : List Commit) (n : ℕ) (batch : List Image) → IsBatch commits n batch → IsTaken commits n batch
taken_of commits n batch is = record { within = is.within; newest = is.newest; few = is.few }
