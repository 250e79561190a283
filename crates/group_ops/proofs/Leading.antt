-- What a change that leads from one table to another says of its parts.
use Rattle.std.proofs.Common.{◌≡◌, ◌≢◌, ◌<◌, ℕ, List, Option, Some, None, refl, ap, sym, ◌∙◌, subst}
use Rattle.std.specs.Prelude.{IfSome}
use Rattle.std.specs.Ordering.{nat_cmp}
use Rattle.std.specs.FinMap as finmap
use Rattle.std.specs.FinMap.{FinMap}
use Rattle.geometry.specs.Shape.{IsGeometry}
use Rattle.inode_cache.specs.declared.inode.Kept.{Kept}
use Rattle.inode_cache.specs.Caches.{dirty}
use Rattle.inode_cache.specs.Inodes.{IsIncore}
use Rattle.life_table.specs.declared.table.Table.{Table}
use Rattle.life_table.specs.Table.{group_at}
use Rattle.sound_image.specs.Encoding.{Layouts}
use Rattle.group_space.specs.Space.{Space, changed_space}
use Rattle.group_ops.specs.declared.delta.Prior.{Prior}
use Rattle.group_ops.specs.declared.delta.Delta.{Delta}
use Rattle.group_ops.specs.Buffers.{Buffers, BuffersAscend}
use Rattle.group_ops.specs.Changes.{FitsPrior, changed_state, with_chunk, with_head, with_prior, with_prior_buffer, with_room}
use Rattle.group_ops.specs.Relinks.{IsPrior}
use Rattle.group_ops.specs.Represents.{IsGroupOf}
use Rattle.group_ops.specs.Staging.{ChangeValue, Leads}
use Rattle.group_ops.specs.Values.{StateValue, kept_at}
use Rattle.group_ops.proofs.Incores.{Laws, kept_right, kept_small}
use Rattle.group_ops.proofs.Kept.{put_other, put_same}
use Rattle.group_ops.proofs.RowLines.{groups_ascend}
use Rattle.group_ops.proofs.Setting.{ascend_with_chunks}

pub changed_group : (s : StateValue) (d : Delta) → (changed_state s d).group ≡ s.group
unfolding changed_state
changed_group s d = refl

pub changed_geometry : (s : StateValue) (d : Delta) → (changed_state s d).geometry ≡ s.geometry
unfolding changed_state
changed_geometry s d = refl

pub changed_buffers : (s : StateValue) (d : Delta) → (changed_state s d).buffers ≡ with_chunk (with_prior_buffer s.in_core s.buffers d.prior) d.chunk
unfolding changed_state
changed_buffers s d = refl

-- the changed inode is in core
pub own_kept : (s : StateValue) (d : Delta) → kept_at (changed_state s d) d.agino ≡ Some (dirty d.inode)
unfolding changed_state
own_kept s d = put_same (with_prior s.in_core d.prior) d.agino (dirty d.inode)

pub other_kept : (s : StateValue) (d : Delta) (agino : ℕ) → agino ≢ d.agino → kept_at (changed_state s d) agino ≡ finmap.get (with_prior s.in_core d.prior) agino
unfolding changed_state
other_kept s d agino apart = put_other (with_prior s.in_core d.prior) d.agino agino (dirty d.inode) apart

changed_shape : (s : StateValue) (d : Delta) → IsGeometry s.geometry → IsGeometry (changed_state s d).geometry
unfolding changed_state
changed_shape s d shape = shape

changed_inside : (s : StateValue) (d : Delta) → s.group < s.geometry.groups → (changed_state s d).group < (changed_state s d).geometry.groups
unfolding changed_state
changed_inside s d inside = inside

pub own_right : (laws : Laws) (s : StateValue) (d : Delta) (t : Table) (layouts : Layouts) (u : Table) (others : Layouts) → IsGeometry s.geometry → s.group < s.geometry.groups
    → Leads s d t layouts u others → IsIncore d.inode
own_right laws s d t layouts u others shape inside leads =
    kept_right laws (changed_state s d) u others d.agino (dirty d.inode) (changed_shape s d shape) (changed_inside s d inside) leads.after (own_kept s d)

pub own_small : (laws : Laws) (s : StateValue) (d : Delta) (t : Table) (layouts : Layouts) (u : Table) (others : Layouts) → IsGeometry s.geometry → s.group < s.geometry.groups
    → Leads s d t layouts u others → d.agino < 131072
own_small laws s d t layouts u others shape inside leads =
    kept_small laws (changed_state s d) u others d.agino (dirty d.inode) (changed_shape s d shape) (changed_inside s d inside) leads.after (own_kept s d)

-- the inode before it in its bucket
fits_of : (laws : Laws) (s : StateValue) (t : Table) (layouts others : Layouts) (u : Table) (after : StateValue) (agino : ℕ) (prior : Option Prior) → IsGeometry after.geometry
    → after.group < after.geometry.groups → IfSome prior (IsPrior s t layouts others agino) → IsGroupOf after u others
    → ((other : ℕ) → other ≢ agino → kept_at after other ≡ finmap.get (with_prior s.in_core prior) other) → FitsPrior s.in_core prior
fits_of laws s t layouts others u after agino None shape inside is group kept = tt
fits_of laws s t layouts others u after agino (Some prior) shape inside is group kept = by_case (finmap.get s.in_core prior.agino) refl
  where
    by_case : (o : Option Kept) → finmap.get s.in_core prior.agino ≡ o → IfSome o (λ k. IsIncore (record { core = prior.core; blocks = k.inode.blocks }))
    by_case None at = tt
    by_case (Some k) at =
        let new : Kept = dirty (record { core = prior.core; blocks = k.inode.blocks }) in
        let put : finmap.get (with_prior s.in_core (Some prior)) prior.agino ≡ Some new = rw at (put_same s.in_core prior.agino new) in
        kept_right laws after u others prior.agino new shape inside group (kept prior.agino is.other ∙ put)

pub prior_fits : (laws : Laws) (s : StateValue) (d : Delta) (t : Table) (layouts : Layouts) (u : Table) (others : Layouts) → IsGeometry s.geometry → s.group < s.geometry.groups
    → Leads s d t layouts u others → FitsPrior s.in_core d.prior
prior_fits laws s d t layouts u others shape inside leads =
    fits_of laws s t layouts others u (changed_state s d) d.agino d.prior (changed_shape s d shape) (changed_inside s d inside) leads.prior leads.after (other_kept s d)

-- the buffers after it ascend
pub changed_ascend : (s : StateValue) (d : Delta) (t : Table) (layouts : Layouts) (u : Table) (others : Layouts) → Leads s d t layouts u others
    → BuffersAscend (with_chunk (with_prior_buffer s.in_core s.buffers d.prior) d.chunk)
changed_ascend s d t layouts u others leads =
    let is = leads.after in
    let up = ascend_with_chunks (changed_state s d).buffers (group_at u (changed_state s d).group) is.starts (groups_ascend u.blocks u.groups (changed_state s d).group is.table.groups) in
    subst BuffersAscend (changed_buffers s d) up

-- the same change of equal values
pub lead_on : (s view : StateValue) (x seen : ChangeValue) (t : Table) (layouts : Layouts) (u : Table) (others : Layouts) → view ≡ s → seen ≡ x → Leads s x.delta t layouts u others
    → Leads view seen.delta t layouts u others
lead_on s view x seen t layouts u others same alike leads =
    subst (λ (v : StateValue). Leads v seen.delta t layouts u others) (sym same) (subst (λ (y : ChangeValue). Leads s y.delta t layouts u others) (sym alike) leads)

-- the state after it, part by part
pub changed_parts : (s : StateValue) (d : Delta) (heads : List ℕ) (space : Space) (buffers : List Buffers) (in_core : FinMap nat_cmp Kept) (room : ℕ) → heads ≡ with_head s.heads d.head
    → space ≡ changed_space s.space d.space → buffers ≡ with_chunk (with_prior_buffer s.in_core s.buffers d.prior) d.chunk
    → in_core ≡ finmap.insert (with_prior s.in_core d.prior) d.agino (dirty d.inode)
    → record { geometry = s.geometry; group = s.group; page = s.page; heads = heads; space = space; buffers = buffers; in_core = in_core; room = room } ≡ with_room (changed_state s d) room
unfolding changed_state
changed_parts s d heads space buffers in_core room headed spaced buffered kept =
    ap (λ (l : List ℕ). let v : StateValue = record { geometry = s.geometry; group = s.group; page = s.page; heads = l; space = space; buffers = buffers; in_core = in_core; room = room } in v) headed
    ∙ ap (λ (x : Space). let v : StateValue = record { geometry = s.geometry; group = s.group; page = s.page; heads = with_head s.heads d.head; space = x; buffers = buffers; in_core = in_core; room = room } in v) spaced
    ∙ ap (λ (l : List Buffers). let v : StateValue = record { geometry = s.geometry; group = s.group; page = s.page; heads = with_head s.heads d.head; space = changed_space s.space d.space; buffers = l; in_core = in_core; room = room } in v) buffered
    ∙ ap (λ (m : FinMap nat_cmp Kept). let v : StateValue = record { geometry = s.geometry; group = s.group; page = s.page; heads = with_head s.heads d.head; space = changed_space s.space d.space; buffers = with_chunk (with_prior_buffer s.in_core s.buffers d.prior) d.chunk; in_core = m; room = room } in v) kept
