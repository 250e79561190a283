-- An inode in use with another next pointer: its core and its sector.
use Rattle.std.proofs.Common.{◌≡◌, ◌≤◌, ℕ, true, List, Option, None, Some, refl, ap, sym, ◌∙◌}
use Rattle.std.proofs.lemmas.Bool.{false≢true}
use Rattle.std.proofs.lemmas.Option.{none-some, same_Some}
use Rattle.life_limits.specs.declared.TheConstants.{NO_INODE}
use Rattle.geometry.specs.declared.shape.Geometry.{Geometry}
use Rattle.geometry.specs.Places.{number_in}
use Rattle.inode_core.specs.declared.shape.Core.{Core}
use Rattle.inode_core.specs.Cores.{EncodesCore, IsCore, core_encoding, fork_of}
use Rattle.extent_fork.specs.Forks.{fork}
use Rattle.extent_fork.specs.Inodes.{inode_encoding}
use Rattle.extent_fork.specs.Runs.{runs}
use Rattle.inode_cache.specs.Inodes.{incore_encoding}
use Rattle.life_table.specs.declared.types.Row.{Row}
use Rattle.life_table.specs.declared.table.Inode.{Inode}
use Rattle.life_table.specs.Space.{row_blocks}
use Rattle.sound_image.specs.Encoding.{Layouts, core_for, inode_sector}
use Rattle.group_ops.specs.Relinks.{next_of}
use Rattle.group_ops.specs.Represents.{incore_for}
use Rattle.group_ops.specs.Telling.{core_told}

abbrev pub repointed : Core → ℕ → Core
repointed core next =
    record { live = core.live; links = core.links; size = core.size; blocks = core.blocks; extents = core.extents; generation = core.generation; next = next }

-- the core of an inode in use
pub core_used : (layouts : Layouts) (group agino : ℕ) (core : Core) (o : Option Inode) (inode : Inode) (row : Row) → Some core ≡ core_told layouts group agino o → o ≡ Some inode → inode.row ≡ Some row
    → core ≡ core_for inode.generation (Some row) (next_of layouts group agino)
core_used layouts group agino core None inode row told there used = absurd (none-some inode there)
core_used layouts group agino core (Some other) inode row told there used =
    let same : core ≡ core_for other.generation other.row (next_of layouts group agino) = cc in
    same
    ∙ ap (λ (i : Inode). core_for i.generation i.row (next_of layouts group agino)) (same_Some other inode there)
    ∙ ap (λ (r : Option Row). core_for inode.generation r (next_of layouts group agino)) used

pub live_used : (core : Core) (generation next : ℕ) (row : Row) → core ≡ core_for generation (Some row) next → core.live ≡ true
unfolding core_for
live_used core generation next row same = ap (λ (c : Core). c.live) same

pub none_used : (layouts : Layouts) (group agino : ℕ) (o : Option Inode) (inode : Inode) → None ≡ core_told layouts group agino o → o ≡ Some inode → ⊥
none_used layouts group agino None inode told there = none-some inode there
none_used layouts group agino (Some other) inode told there = cc

pub repointed_allowed : (core : Core) (next : ℕ) → IsCore core → core.live ≡ true → next ≤ NO_INODE → IsCore (repointed core next)
repointed_allowed core next is live fits =
    let old = is.live live in
    record {
      live = λ e. record { links = old.links; size = old.size; blocks = old.blocks; extents = old.extents; generation = old.generation; next = fits };
      free = λ dead. absurd (false≢true (sym dead ∙ live));
    }

repointed_used : (core : Core) (generation before next : ℕ) (row : Row) → core ≡ core_for generation (Some row) before → repointed core next ≡ core_for generation (Some row) next
unfolding core_for
repointed_used core generation before next row same = ap (λ (c : Core). repointed c next) same

pub repointed_core : (layouts others : Layouts) (group agino next : ℕ) (core : Core) (inode : Inode) (row : Row) → core ≡ core_for inode.generation (Some row) (next_of layouts group agino)
    → inode.row ≡ Some row → next ≡ next_of others group agino → repointed core next ≡ (incore_for others group agino inode).core
repointed_core layouts others group agino next core inode row same used points =
    repointed_used core inode.generation (next_of layouts group agino) next row same
    ∙ ap (λ (n : ℕ). core_for inode.generation (Some row) n) points
    ∙ ap (λ (r : Option Row). core_for inode.generation r (next_of others group agino)) (sym used)

pub sector_is : (g : Geometry) (layouts : Layouts) (group agino : ℕ) (inode : Inode) → inode_sector g layouts group agino inode ≡ incore_encoding group g.uuid agino (incore_for layouts group agino inode)
unfolding inode_sector
sector_is g layouts group agino inode = refl

pub repointed_sector : (others : Layouts) (group agino : ℕ) (uuid bytes : List ℕ) (core : Core) (inode : Inode) (row : Row) → EncodesCore bytes (number_in group agino) uuid core
    → fork_of bytes ≡ fork group (runs row.blocks) → inode.row ≡ Some row → core ≡ (incore_for others group agino inode).core
    → bytes ≡ incore_encoding group uuid agino (incore_for others group agino inode)
unfolding inode_encoding
repointed_sector others group agino uuid bytes core inode row encodes same used is =
    encodes.sector
    ∙ ap (λ (f : List ℕ). core_encoding core (number_in group agino) uuid f) same
    ∙ ap (λ (c : Core). core_encoding c (number_in group agino) uuid (fork group (runs row.blocks))) is
    ∙ ap (λ (r : Option Row). core_encoding (incore_for others group agino inode).core (number_in group agino) uuid (fork group (runs (row_blocks r)))) (sym used)
