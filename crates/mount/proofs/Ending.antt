-- What is left of a store over calls of it.
use Rattle.std.proofs.Common.{◌≡◌, ◌<◌, ℕ, ◌+◌, Bool, List, [], length, take, get_or, sym, ap, ◌∙◌, subst, arith}
use Rattle.std.specs.Prelude.{IsTrue}
use Rattle.std.proofs.lemmas.List.{length-drop, take_all}
use Rattle.life_bytes.specs.declared.sector.Sector.{Sector}
use Rattle.disk_model.specs.Disk.{Cell}
use Rattle.geometry.specs.declared.shape.Geometry.{Geometry}
use Rattle.geometry.specs.Places.{anchor_of}
use Rattle.life_table.specs.declared.table.Table.{Table}
use Rattle.life_table.specs.History.{closed}
use Rattle.log_record.specs.declared.image.Commit.{Commit}
use Rattle.log_image.specs.Log.{IsLog, replayed}
use Rattle.log_store.specs.OnDisk.{Replays, ReplaysUpTo, base_of}
use Rattle.log_store.specs.State.{State}
use Rattle.log_store.specs.Steps.{Moves}
use Rattle.life_limits.specs.declared.TheConstants.{MAX_RECORD_SECTORS}
use Rattle.sound_image.specs.Encoding.{Layouts}
use Rattle.whole_image.specs.Represents.{Represents}
use Rattle.commit_history.specs.Carried.{CommitsCarry, IsEncoding}
use Rattle.log_batch.specs.Newest.{commit_images}
use Rattle.log_image.specs.Overlay.{overlaid}
use Rattle.life_bytes.specs.Sectors.{zero_sector}
use Rattle.mount.proofs.Firsts.{first_under, same_superblock, some_sectors}
use Rattle.mount.specs.Ending.{IsStoreOf}
use Rattle.mount.specs.Prefixes.{IsPrefixLeft}
use Rattle.mount.proofs.Going.{replays_earlier}
use Rattle.mount.proofs.Prefixes.{Carries, represented}

-- the log lies where the geometry says
abbrev placed : (g : Geometry) (t : Table) (layouts : Layouts) (head : ℕ) (s : State) (cells : List Cell) (image : List Sector) → IsStoreOf g t layouts s cells
    → ReplaysUpTo head s cells image → Replays (anchor_of g) g.ring (head + MAX_RECORD_SECTORS) (base_of s cells) s.list s.durable image
placed g t layouts head s cells image of is = record {
  log = is.log;
  count = is.count;
  within = is.within;
  says = subst (λ (n : ℕ). IsLog image n g.ring is.log) of.anchor (subst (λ (n : ℕ). IsLog image s.anchor n is.log) of.ring is.says);
  groups = ap (λ (n : ℕ). replayed n image is.log.records) (sym of.anchor) ∙ is.groups;
  next = is.next;
  end = is.end;
}

pub left_prefix : Carries → (g : Geometry) (t : Table) (layouts : Layouts) (head : ℕ) (s : State) (cells : List Cell) (image : List Sector) → IsStoreOf g t layouts s cells
    → ReplaysUpTo head s cells image → IsPrefixLeft g t layouts s.list (s.durable + 1) image
left_prefix laws g t layouts head s cells image of is =
    let left = placed g t layouts head s cells image of is in
    record {
      count = is.count;
      within = is.within;
      represents = λ u others carried. represented laws g t u layouts others (head + MAX_RECORD_SECTORS) s.durable (base_of s cells) image s.list of.encodes of.superblock left carried;
    }

pub left_earlier : Carries → (known : Bool) (g : Geometry) (t : Table) (layouts : Layouts) (head : ℕ) (s new : State) (cells after : List Cell) (image : List Sector) → IsTrue known
    → Moves known s new cells after → IsStoreOf g t layouts s cells → ReplaysUpTo head new after image → IsPrefixLeft g t layouts s.list (s.durable + 1) image
left_earlier laws known g t layouts head s new cells after image tells moves of is =
    left_prefix laws g t layouts head s cells image of (replays_earlier known head s new cells after image tells moves is)

-- where the list is empty then, all of it is there
pub left_all : Carries → (known : Bool) (g : Geometry) (t u : Table) (layouts others : Layouts) (head : ℕ) (s new : State) (cells after : List Cell) (image : List Sector) → IsTrue known
    → Moves known s new cells after → IsStoreOf g t layouts s cells → ReplaysUpTo head new after image → new.list ≡ [] → CommitsCarry g t layouts s.list u others
    → Represents image (closed u) (s.durable + 1 + length s.list)
left_all laws known g t u layouts others head s new cells after image tells moves of is none carried =
    let earlier = replays_earlier known head s new cells after image tells moves is in
    let left = placed g t layouts head s cells image of earlier in
    let size = length-drop moves.count s.list in
    let count : moves.count + is.count ≡ length s.list = omega (arith, moves.within, is.within, size, ap length moves.list, ap length none) in
    let whole : take (moves.count + is.count) s.list ≡ s.list = ap (λ (n : ℕ). take n s.list) count ∙ take_all (length s.list) s.list (omega arith) in
    let all : CommitsCarry g t layouts (take (moves.count + is.count) s.list) u others = subst (λ (l : List Commit). CommitsCarry g t layouts l u others) (sym whole) carried in
    subst (λ (n : ℕ). Represents image (closed u) (s.durable + 1 + n)) count
    (represented laws g t u layouts others (head + MAX_RECORD_SECTORS) s.durable (base_of s cells) image s.list of.encodes of.superblock left all)

-- and the base encodes the table to which they lead
pub base_then : Carries → (known : Bool) (g : Geometry) (t u : Table) (layouts others : Layouts) (s new : State) (cells after : List Cell) → IsTrue known
    → Moves known s new cells after → IsStoreOf g t layouts s cells → new.list ≡ [] → CommitsCarry g t layouts s.list u others → IsStoreOf g u others new after
base_then laws known g t u layouts others s new cells after tells moves of none carried =
    let size = length-drop moves.count s.list in
    let count : moves.count ≡ length s.list = omega (arith, moves.within, size, ap length moves.list, ap length none) in
    let whole : take moves.count s.list ≡ s.list = ap (λ (n : ℕ). take n s.list) count ∙ take_all (length s.list) s.list (omega arith) in
    let base : base_of new after ≡ overlaid (base_of s cells) (commit_images s.list) = moves.base tells ∙ ap (λ (l : List Commit). overlaid (base_of s cells) (commit_images l)) whole in
    let encoding : IsEncoding g u others (overlaid (base_of s cells) (commit_images s.list)) = laws.all g t u layouts others (base_of s cells) s.list of.encodes carried in
    let fit = laws.fits g t u layouts others (base_of s cells) s.list of.encodes.can carried in
    let some = some_sectors g of.superblock.shape in
    let long : 0 < length (base_of s cells) = omega (arith, some, of.encodes.can.size) in
    let first = first_under (anchor_of g) (base_of s cells) (commit_images s.list) zero_sector long fit.1 in
    record {
      anchor = moves.anchor ∙ of.anchor;
      ring = moves.ring ∙ of.ring;
      superblock = same_superblock g (base_of s cells) (base_of new after) (ap (λ (l : List Sector). get_or l 0 zero_sector) base ∙ first) of.superblock;
      encodes = subst (IsEncoding g u others) (sym base) encoding;
    }
