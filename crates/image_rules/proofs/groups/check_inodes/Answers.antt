use Rattle.std.proofs.Common.{◌≡◌, ◌≤◌, ℕ, List, All, None, get_or, sym, subst, ◌∙◌, arith, rules}
use Rattle.life_bytes.specs.declared.sector.Sector.{Sector}
use Rattle.inobt_leaf.specs.declared.chunk.ChunkRec.{ChunkRec}
use Rattle.inobt_leaf.specs.Chunks.{IsLeaf}
use Rattle.sound_image.specs.Places.{sector_in}
use Rattle.sound_image.specs.Reading.{inode_at}
use Rattle.sound_image.specs.Rules.{IsInData}
use Rattle.image_rules.specs.Faults.{IsCaused}
use Rattle.image_rules.specs.Gathered.{CoreFault, IsNextChunk}
use Rattle.image_rules.specs.Listing.{GroupIsFound}
use Rattle.image_rules.specs.Shown.{Shows}
use Rattle.image_rules.proofs.Tallies.{chunks_none, chunks_more, group_sum}
use Rattle.image_rules.proofs.Outcomes.{passed_up}
use Rattle.image_rules.proofs.Walking.{blank, bound_at, bound_none, bound_more, next_chunk, none_after}
use Rattle.image_rules.proofs.groups.check_inodes.Goals as goal

pub loop-chunk-init : goal.loop-chunk-init
loop-chunk-init g c =
    let a = c.args in
    record {
      read = g.met.V.View.no_read a.view.now;
      gathered = λ known same.
          subst (λ (n : ℕ). GroupIsFound a.g.now (g.V.View.image a.view.now) a.group n c.new-found.result) (sym (bound_none c.chunks-chunks.result.now))
          (c.new-found.ensures.found a.g.now (g.V.View.image a.view.now) a.group (search rules) (same ∙ sym c.chunks-chunks.ensures.all));
      counted = λ known same. c.new-found.ensures.none ∙ sym (chunks_none a.g.now (g.V.View.image a.view.now) a.group c.chunks-chunks.result.now);
    }

pub read_sectors-requires-clause-within : goal.read_sectors-requires-clause-within
read_sectors-requires-clause-within g c =
    let a = c.args in
    let chunks : List ChunkRec = c.chunks-chunks.result.now in
    let i : ℕ = c.loop-chunk.chunk-index in
    let all : All (IsInData a.g.now.blocks) chunks = subst (All (IsInData a.g.now.blocks)) (sym c.chunks-chunks.ensures.all) c.requires.in_data in
    let leaf : IsLeaf chunks = subst IsLeaf (sym c.chunks-chunks.ensures.all) c.chunks-chunks.ensures.leaf in
    let inside = all i blank c.loop-chunk-test.true in
    let aligned = leaf.each i blank c.loop-chunk-test.true in
    let room = c.sector_at-at.ensures.room 64 (omega (arith, inside.1, aligned.aligned)) in
    omega (arith, c.from.ensures, c.requires.size, room, g.met.V.View.sectors_stay a.view.now c.loop-chunk.view c.loop-chunk.invariant.read)

pub returns-in_err-add_chunk-clause-fault : goal.returns-in_err-add_chunk-clause-fault
returns-in_err-add_chunk-clause-fault g c known same =
    let a = c.args in
    let image : List Sector = g.V.View.image a.view.now in
    let chunks : List ChunkRec = c.chunks-chunks.result.now in
    let i : ℕ = c.loop-chunk.chunk-index in
    let leaf : IsLeaf chunks = subst IsLeaf (sym c.chunks-chunks.ensures.all) c.chunks-chunks.ensures.leaf in
    let next : IsNextChunk a.g.now image a.group (bound_at chunks i) (get_or chunks i blank) =
    next_chunk a.g.now image a.group chunks i (same ∙ sym c.chunks-chunks.ensures.all) leaf
    (λ k j chunk is at low. c.chunks_are_read.ensures.found a.g.now image a.group k j chunk is at low)
    (λ other inode e. c.chunks_are_read.ensures.only a.g.now image a.group other inode e) c.loop-chunk-test.true in
    let stays = g.met.V.View.image_stays a.view.now c.loop-chunk.view c.loop-chunk.invariant.read in
    let read : Shows image c.sector_at-at.result c.in_ok-sectors.sectors.items = subst (λ (l : List Sector). Shows l c.sector_at-at.result c.in_ok-sectors.sectors.items) stays (c.in_ok-sectors.ensures.shown known) in
    let shows : Shows image (sector_in a.g.now a.group (get_or chunks i blank).start) c.deref.result.now =
    subst (λ (s : ℕ). Shows image s c.deref.result.now) c.sector_at-at.ensures.place (subst (Shows image c.sector_at-at.result) (sym c.deref.ensures.value) read) in
    passed_up c.from_residual-in_err-add_chunk.result c.in_err-add_chunk.field-0.0 (CoreFault a.g.now image a.group) c.from_residual-in_err-add_chunk.ensures.1
    (c.in_err-add_chunk.ensures.wrong image (bound_at c.chunks-chunks.result.now c.loop-chunk.chunk-index) next shows (c.loop-chunk.invariant.gathered known same))

pub returns-in_err-add_chunk-clause-cause : goal.returns-in_err-add_chunk-clause-cause
returns-in_err-add_chunk-clause-cause g c =
    passed_up c.from_residual-in_err-add_chunk.result c.in_err-add_chunk.field-0.0
    (IsCaused (g.V.View.fault_count c.args.view.now) (g.V.View.fault_count c.read_sectors.new.view)) c.from_residual-in_err-add_chunk.ensures.1
    (c.in_err-add_chunk.ensures.no_read (g.V.View.fault_count c.args.view.now) (g.V.View.fault_count c.read_sectors.new.view))

pub loop-chunk-preserved : goal.loop-chunk-preserved
loop-chunk-preserved g c = record {
  read = g.met.V.View.both_read c.args.view.now c.loop-chunk.view c.read_sectors.new.view c.loop-chunk.invariant.read c.read_sectors.ensures.only_read;
  gathered = λ known same.
      let a = c.args in
      let image : List Sector = g.V.View.image a.view.now in
      let chunks : List ChunkRec = c.chunks-chunks.result.now in
      let i : ℕ = c.loop-chunk.chunk-index in
      let leaf : IsLeaf chunks = subst IsLeaf (sym c.chunks-chunks.ensures.all) c.chunks-chunks.ensures.leaf in
      let next : IsNextChunk a.g.now image a.group (bound_at chunks i) (get_or chunks i blank) =
      next_chunk a.g.now image a.group chunks i (same ∙ sym c.chunks-chunks.ensures.all) leaf
      (λ k j chunk is at low. c.chunks_are_read.ensures.found a.g.now image a.group k j chunk is at low)
      (λ other inode e. c.chunks_are_read.ensures.only a.g.now image a.group other inode e) c.loop-chunk-test.true in
      let stays = g.met.V.View.image_stays a.view.now c.loop-chunk.view c.loop-chunk.invariant.read in
      let read : Shows image c.sector_at-at.result c.in_ok-sectors.sectors.items = subst (λ (l : List Sector). Shows l c.sector_at-at.result c.in_ok-sectors.sectors.items) stays (c.in_ok-sectors.ensures.shown known) in
      let shows : Shows image (sector_in a.g.now a.group (get_or chunks i blank).start) c.deref.result.now =
      subst (λ (s : ℕ). Shows image s c.deref.result.now) c.sector_at-at.ensures.place (subst (Shows image c.sector_at-at.result) (sym c.deref.ensures.value) read) in
      subst (λ (n : ℕ). GroupIsFound a.g.now image a.group n c.add_chunk.new.self) (sym (bound_more chunks i))
      (c.in_ok-add_chunk.ensures.taken image (bound_at chunks i) next shows (c.loop-chunk.invariant.gathered known same));
  counted = λ known same.
      let a = c.args in
      let image : List Sector = g.V.View.image a.view.now in
      let chunks : List ChunkRec = c.chunks-chunks.result.now in
      let i : ℕ = c.loop-chunk.chunk-index in
      let leaf : IsLeaf chunks = subst IsLeaf (sym c.chunks-chunks.ensures.all) c.chunks-chunks.ensures.leaf in
      let next : IsNextChunk a.g.now image a.group (bound_at chunks i) (get_or chunks i blank) =
      next_chunk a.g.now image a.group chunks i (same ∙ sym c.chunks-chunks.ensures.all) leaf
      (λ k j chunk is at low. c.chunks_are_read.ensures.found a.g.now image a.group k j chunk is at low)
      (λ other inode e. c.chunks_are_read.ensures.only a.g.now image a.group other inode e) c.loop-chunk-test.true in
      let stays = g.met.V.View.image_stays a.view.now c.loop-chunk.view c.loop-chunk.invariant.read in
      let read : Shows image c.sector_at-at.result c.in_ok-sectors.sectors.items = subst (λ (l : List Sector). Shows l c.sector_at-at.result c.in_ok-sectors.sectors.items) stays (c.in_ok-sectors.ensures.shown known) in
      let shows : Shows image (sector_in a.g.now a.group (get_or chunks i blank).start) c.deref.result.now =
      subst (λ (s : ℕ). Shows image s c.deref.result.now) c.sector_at-at.ensures.place (subst (Shows image c.sector_at-at.result) (sym c.deref.ensures.value) read) in
      let here = c.in_ok-add_chunk.ensures.counted image (bound_at chunks i) next shows (c.loop-chunk.invariant.gathered known same) in
      omega (arith, here, c.loop-chunk.invariant.counted known same, chunks_more a.g.now image a.group chunks i blank c.loop-chunk-test.true);
}

pub returns-clause-right : goal.returns-clause-right
returns-clause-right g c known same =
    let a = c.args in
    let image : List Sector = g.V.View.image a.view.now in
    let chunks : List ChunkRec = c.chunks-chunks.result.now in
    let leaf : IsLeaf chunks = subst IsLeaf (sym c.chunks-chunks.ensures.all) c.chunks-chunks.ensures.leaf in
    let after : (agino : ℕ) → bound_at chunks c.loop-chunk.chunk-index ≤ agino → inode_at a.g.now image a.group agino ≡ None =
    λ agino from. none_after a.g.now image a.group chunks c.loop-chunk.chunk-index agino (same ∙ sym c.chunks-chunks.ensures.all) leaf
    (λ other inode e. c.chunks_are_read.ensures.only a.g.now image a.group other inode e) (omega arith) from in
    let found = c.loop-chunk.invariant.gathered known same in (
      record { bound = bound_at chunks c.loop-chunk.chunk-index; none = after; gathered = found.space },
      record { bound = bound_at chunks c.loop-chunk.chunk-index; none = after; noted = found.links },
    )

pub returns-clause-counted : goal.returns-clause-counted
returns-clause-counted g c known same =
    let a = c.args in
    c.loop-chunk.invariant.counted known same
    ∙ group_sum a.g.now (g.V.View.image a.view.now) a.group c.chunks-chunks.result.now c.loop-chunk.chunk-index (same ∙ sym c.chunks-chunks.ensures.all) (omega arith)
