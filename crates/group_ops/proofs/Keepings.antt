-- The group that a state is, as inodes come into core and go.
use Rattle.std.proofs.Common.{◌≡◌, ◌≢◌, ℕ, Bool, false, cond, Option, Some, None, Result, Ok, Err, OnOk, OnErr, refl, ap, sym, ◌∙◌, subst, inl, inr}
use Rattle.std.specs.Prelude.{IfSome, IsSomeAnd}
use Rattle.std.specs.Ordering.{nat_cmp}
use Rattle.std.specs.Cmp.{nat_cmp_total, unsigned_tied}
use Rattle.std.specs.FinMap as finmap
use Rattle.std.specs.FinMap.{FinMap, get-remove}
use Rattle.std.proofs.lemmas.Bool.{cases_eq, eq-eqb, ne_eqb}
use Rattle.std.proofs.lemmas.Option.{none-some, same_Some}
use Rattle.life_bytes.specs.declared.sector.Sector.{Sector}
use Rattle.inode_cache.specs.declared.inode.Incore.{Incore}
use Rattle.inode_cache.specs.declared.inode.Kept.{Kept}
use Rattle.inode_cache.specs.Caches.{Cache, clean, is_dirty, with_incore}
use Rattle.inode_cache.specs.Inodes.{incore_encoding}
use Rattle.life_table.specs.declared.table.Inode.{Inode}
use Rattle.life_table.specs.declared.table.Table.{Table}
use Rattle.life_table.specs.Table.{group_at, inode_in}
use Rattle.sound_image.specs.Encoding.{Layouts}
use Rattle.group_ops.specs.Buffers.{buffer_in}
use Rattle.group_ops.specs.Changes.{with_room}
use Rattle.group_ops.specs.Keeping.{StaysGroup, with_in_core}
use Rattle.group_ops.specs.Represents.{HasInode, IsGroupOf, incore_for}
use Rattle.group_ops.specs.Values.{StateValue, kept_at}
use Rattle.group_ops.specs.Telling.{HasInodeAt}
use Rattle.group_ops.proofs.Kept.{put_other, put_same}
use Rattle.group_ops.proofs.Places.{none_there}
use Rattle.group_ops.proofs.Standing.{not_gone}
use Rattle.group_ops.proofs.Told.{chunks_of}

-- a state with other inodes in core is a group where each number says the same of its inode
pub others_in_core : (s : StateValue) (in_core : FinMap nat_cmp Kept) (room : ℕ) (t : Table) (layouts : Layouts) → IsGroupOf s t layouts
    → ((agino : ℕ) (inode : Inode) → inode_in (group_at t s.group) agino ≡ Some inode → HasInode s agino (incore_for layouts s.group agino inode)
    → HasInode (with_in_core s in_core) agino (incore_for layouts s.group agino inode))
    → ((agino : ℕ) → inode_in (group_at t s.group) agino ≡ None → kept_at s agino ≡ None → finmap.get in_core agino ≡ None)
    → IsGroupOf (with_room (with_in_core s in_core) room) t layouts
others_in_core s in_core room t layouts is inodes only = record {
  table = is.table;
  layouts_of = is.layouts_of;
  groups = is.groups;
  blocks = is.blocks;
  page = is.page;
  heads = is.heads;
  space = is.space;
  starts = is.starts;
  inodes = λ agino inode there.
      let has = inodes agino inode there (is.inodes agino inode there) in
      record { in_core = has.in_core; buffer = has.buffer };
  only = λ agino none. only agino none (is.only agino none);
}

-- what a number says of its inode is told by what is in core of it
pub same_kept : (s : StateValue) (in_core : FinMap nat_cmp Kept) (agino : ℕ) (inode : Incore) → finmap.get in_core agino ≡ kept_at s agino → HasInode s agino inode → HasInode (with_in_core s in_core) agino inode
same_kept s in_core agino inode same has = record {
  in_core = subst (λ (k : Option Kept). IfSome k (λ kept. kept.inode ≡ inode)) (sym same) has.in_core;
  buffer = subst (λ (k : Option Kept). IsSomeAnd (buffer_in s.buffers agino) (λ sector. is_dirty k ≡ false → sector.bytes ≡ incore_encoding s.group s.geometry.uuid agino inode)) (sym same) has.buffer;
}

-- ---- an inode that is brought in

brought_clean : (s : StateValue) (agino : ℕ) (inode : Incore) → kept_at s agino ≡ None → HasInode s agino inode → HasInode (with_in_core s (finmap.insert s.in_core agino (clean inode))) agino inode
brought_clean s agino inode out has = record {
  in_core = subst (λ (k : Option Kept). IfSome k (λ kept. kept.inode ≡ inode)) (sym (put_same s.in_core agino (clean inode))) refl;
  buffer =
      subst (λ (k : Option Kept). IsSomeAnd (buffer_in s.buffers agino) (λ sector. is_dirty k ≡ false → sector.bytes ≡ incore_encoding s.group s.geometry.uuid agino inode))
      (sym (put_same s.in_core agino (clean inode)))
      (subst (λ (k : Option Kept). IsSomeAnd (buffer_in s.buffers agino) (λ sector. is_dirty k ≡ false → sector.bytes ≡ incore_encoding s.group s.geometry.uuid agino inode)) out has.buffer);
}

pub brings_in : (s : StateValue) (room : ℕ) (t : Table) (layouts : Layouts) (agino : ℕ) (inode : Inode) → IsGroupOf s t layouts → kept_at s agino ≡ None → inode_in (group_at t s.group) agino ≡ Some inode
    → IsGroupOf (with_room (with_in_core s (finmap.insert s.in_core agino (clean (incore_for layouts s.group agino inode)))) room) t layouts
brings_in s room t layouts agino inode is out there =
    let new : Kept = clean (incore_for layouts s.group agino inode) in
    others_in_core s (finmap.insert s.in_core agino new) room t layouts is
    (λ other x at has. elim (cases_eq other agino) [
      | inl same ↦
          let one : x ≡ inode = same_Some x inode (sym at ∙ ap (λ (n : ℕ). inode_in (group_at t s.group) n) same ∙ there) in
          subst (λ (n : ℕ). HasInode (with_in_core s (finmap.insert s.in_core agino new)) n (incore_for layouts s.group n x)) (sym same)
          (subst (λ (i : Inode). HasInode (with_in_core s (finmap.insert s.in_core agino new)) agino (incore_for layouts s.group agino i)) (sym one)
          (brought_clean s agino (incore_for layouts s.group agino inode) out (is.inodes agino inode there)))
      | inr apart ↦ same_kept s (finmap.insert s.in_core agino new) other (incore_for layouts s.group other x) (put_other s.in_core agino other new apart) has
    ])
    (λ other none gone. put_other s.in_core agino other new (λ same. none-some inode (sym none ∙ ap (λ (n : ℕ). inode_in (group_at t s.group) n) same ∙ there)) ∙ gone)

-- ---- an inode that is let go

pub remove_same : (m : FinMap nat_cmp Kept) (k : ℕ) → finmap.get (finmap.remove m k) k ≡ None
remove_same m k = get-remove nat_cmp_total m k k ∙ ap (λ (b : Bool). cond b None (finmap.get m k)) (unsigned_tied k k ∙ eq-eqb k k refl)

pub remove_other : (m : FinMap nat_cmp Kept) (k q : ℕ) → q ≢ k → finmap.get (finmap.remove m k) q ≡ finmap.get m q
remove_other m k q apart = get-remove nat_cmp_total m k q ∙ ap (λ (b : Bool). cond b None (finmap.get m q)) (unsigned_tied q k ∙ ne_eqb q k apart)

clean_of : (o : Option Kept) → IsSomeAnd o (λ kept. kept.dirty ≡ false) → is_dirty o ≡ false
clean_of None some = refl
clean_of (Some kept) some = some

let_clean : (s : StateValue) (agino : ℕ) (inode : Incore) → is_dirty (kept_at s agino) ≡ false → HasInode s agino inode → HasInode (with_in_core s (finmap.remove s.in_core agino)) agino inode
let_clean s agino inode kept has = record {
  in_core = subst (λ (k : Option Kept). IfSome k (λ x. x.inode ≡ inode)) (sym (remove_same s.in_core agino)) tt;
  buffer =
      subst (λ (k : Option Kept). IsSomeAnd (buffer_in s.buffers agino) (λ sector. is_dirty k ≡ false → sector.bytes ≡ incore_encoding s.group s.geometry.uuid agino inode))
      (sym (remove_same s.in_core agino))
      (weaker (buffer_in s.buffers agino) has.buffer);
}
  where
    weaker : (o : Option Sector) → IsSomeAnd o (λ sector. is_dirty (kept_at s agino) ≡ false → sector.bytes ≡ incore_encoding s.group s.geometry.uuid agino inode)
        → IsSomeAnd o (λ sector. false ≡ false → sector.bytes ≡ incore_encoding s.group s.geometry.uuid agino inode)
    weaker None some = some
    weaker (Some sector) some = λ _. some kept

pub lets_go : (s : StateValue) (room agino : ℕ) → IsSomeAnd (kept_at s agino) (λ kept. kept.dirty ≡ false) → StaysGroup s (with_room (with_in_core s (finmap.remove s.in_core agino)) room)
lets_go s room agino kept t layouts is =
    others_in_core s (finmap.remove s.in_core agino) room t layouts is
    (λ other x at has. elim (cases_eq other agino) [
      | inl same ↦
          subst (λ (n : ℕ). HasInode (with_in_core s (finmap.remove s.in_core agino)) n (incore_for layouts s.group n x)) (sym same)
          (let_clean s agino (incore_for layouts s.group agino x) (clean_of (kept_at s agino) kept)
          (subst (λ (n : ℕ). HasInode s n (incore_for layouts s.group n x)) same has))
      | inr apart ↦ same_kept s (finmap.remove s.in_core agino) other (incore_for layouts s.group other x) (remove_other s.in_core agino other apart) has
    ])
    (λ other none gone. elim (cases_eq other agino) [
      | inl same ↦ subst (λ (n : ℕ). finmap.get (finmap.remove s.in_core agino) n ≡ None) (sym same) (remove_same s.in_core agino)
      | inr apart ↦ remove_other s.in_core agino other apart ∙ gone
    ])

-- only the room differs
pub roomed : (s : StateValue) (room : ℕ) → StaysGroup s (with_room s room)
roomed s room t layouts is = others_in_core s s.in_core room t layouts is (λ agino inode at has. has) (λ agino none gone. gone)

-- the same, with what is then in core given by its equation
pub goes_now : (s : StateValue) (agino : ℕ) (in_core : FinMap nat_cmp Kept) (room : ℕ) → IsSomeAnd (kept_at s agino) (λ kept. kept.dirty ≡ false) → in_core ≡ finmap.remove s.in_core agino
    → StaysGroup s (with_room (with_in_core s in_core) room)
goes_now s agino in_core room kept same t layouts is =
    subst (λ (m : FinMap nat_cmp Kept). IsGroupOf (with_room (with_in_core s m) room) t layouts) (sym same) (lets_go s room agino kept t layouts is)

-- an inode that some table gives a number, each table gives it of which the state is a group
pub record HereIn (s : StateValue) (t : Table) (agino : ℕ) : Type 0 where
  pub inode : Inode
  pub there : inode_in (group_at t s.group) agino ≡ Some inode

here_of : (s : StateValue) (t : Table) (layouts : Layouts) (agino : ℕ) (o : Option Inode) → HasInodeAt s agino → IsGroupOf s t layouts → inode_in (group_at t s.group) agino ≡ o → HereIn s t agino
here_of s t layouts agino None has is there = absurd (not_gone s agino has (none_there (group_at t s.group) s.buffers agino (chunks_of t s.group is.table.groups) is.starts there))
here_of s t layouts agino (Some inode) has is there = record { inode = inode; there = there }

pub here_in : (s : StateValue) (t : Table) (layouts : Layouts) (agino : ℕ) → HasInodeAt s agino → IsGroupOf s t layouts → HereIn s t agino
here_in s t layouts agino has is = here_of s t layouts agino (inode_in (group_at t s.group) agino) has is refl

-- what an install leaves, whichever its answer
pub brings_now : {E : Type 0} (s : StateValue) (t : Table) (layouts : Layouts) (agino : ℕ) (x : Incore) (cache new : Cache) (room : ℕ) (r : Result (Unit {0}) E) → cache.inodes ≡ s.in_core → HasInodeAt s agino
    → kept_at s agino ≡ None → IsGroupOf s t layouts → ((inode : Inode) → inode_in (group_at t s.group) agino ≡ Some inode → x ≡ incore_for layouts s.group agino inode)
    → OnOk r (new ≡ with_incore agino (clean x) cache new.spare) → OnErr r (new ≡ record cache { spare = new.spare }) → IsGroupOf (with_room (with_in_core s new.inodes) room) t layouts
brings_now s t layouts agino x cache new room (Ok v) own has out is copy put stays =
    let here = here_in s t layouts agino has is in
    let made : new.inodes ≡ finmap.insert s.in_core agino (clean (incore_for layouts s.group agino here.inode)) =
    ap (λ (c : Cache). c.inodes) put ∙ ap (λ (m : FinMap nat_cmp Kept). finmap.insert m agino (clean x)) own
    ∙ ap (λ (i : Incore). finmap.insert s.in_core agino (clean i)) (copy here.inode here.there) in
    subst (λ (m : FinMap nat_cmp Kept). IsGroupOf (with_room (with_in_core s m) room) t layouts) (sym made) (brings_in s room t layouts agino here.inode is out here.there)
brings_now s t layouts agino x cache new room (Err e) own has out is copy put stays =
    let made : new.inodes ≡ s.in_core = ap (λ (c : Cache). c.inodes) stays ∙ own in
    subst (λ (m : FinMap nat_cmp Kept). IsGroupOf (with_room (with_in_core s m) room) t layouts) (sym made) (roomed s room t layouts is)
