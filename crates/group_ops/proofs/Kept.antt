-- Inodes in core as a map, and what they are where the state is a group of a table.
use Rattle.std.proofs.Common.{◌≡◌, ◌≢◌, ℕ, Bool, cond, Option, Some, None, refl, ap, sym, ◌∙◌, subst, inl, inr}
use Rattle.std.specs.Prelude.{IfSome}
use Rattle.std.specs.Ordering.{nat_cmp}
use Rattle.std.specs.Cmp.{nat_cmp_total, unsigned_tied}
use Rattle.std.specs.FinMap as finmap
use Rattle.std.specs.FinMap.{FinMap, get-insert, same_map, nat_cmp-IsAntisymmetric}
use Rattle.std.proofs.lemmas.Bool.{cases_eq, eq-eqb, ne_eqb}
use Rattle.inode_cache.specs.declared.inode.Kept.{Kept}
use Rattle.life_table.specs.declared.table.Inode.{Inode}
use Rattle.life_table.specs.declared.table.Table.{Table}
use Rattle.life_table.specs.Table.{group_at, inode_in}
use Rattle.sound_image.specs.Encoding.{Layouts}
use Rattle.group_ops.specs.Values.{StateValue, kept_at}
use Rattle.group_ops.specs.Represents.{IsGroupOf, incore_for}

pub put_same : (m : FinMap nat_cmp Kept) (k : ℕ) (v : Kept) → finmap.get (finmap.insert m k v) k ≡ Some v
put_same m k v =
    get-insert nat_cmp_total m k v k
    ∙ ap (λ (b : Bool). cond b (Some v) (finmap.get m k)) (unsigned_tied k k ∙ eq-eqb k k refl)

pub put_other : (m : FinMap nat_cmp Kept) (k q : ℕ) (v : Kept) → q ≢ k → finmap.get (finmap.insert m k v) q ≡ finmap.get m q
put_other m k q v apart =
    get-insert nat_cmp_total m k v q
    ∙ ap (λ (b : Bool). cond b (Some v) (finmap.get m q)) (unsigned_tied q k ∙ ne_eqb q k apart)

-- an inode that is put over one that was put is put
pub put_twice : (m : FinMap nat_cmp Kept) (k : ℕ) (v w : Kept) → finmap.insert (finmap.insert m k v) k w ≡ finmap.insert m k w
put_twice m k v w = same_map nat_cmp_total nat_cmp-IsAntisymmetric (finmap.insert (finmap.insert m k v) k w) (finmap.insert m k w) (λ q.
    elim (cases_eq q k) [
      | inl e ↦ subst (λ (n : ℕ). finmap.get (finmap.insert (finmap.insert m k v) k w) n ≡ finmap.get (finmap.insert m k w) n) (sym e)
          (put_same (finmap.insert m k v) k w ∙ sym (put_same m k w))
      | inr ne ↦ put_other (finmap.insert m k v) k q w ne ∙ put_other m k q v ne ∙ sym (put_other m k q w ne)
    ])

-- an inode in core is that of its number in the table
pub record IsKeptOf (s : StateValue) (t : Table) (layouts : Layouts) (agino : ℕ) (kept : Kept) : Type 0 where
  pub inode : Inode
  pub there : inode_in (group_at t s.group) agino ≡ Some inode
  pub same : kept.inode ≡ incore_for layouts s.group agino inode

kept_of : (s : StateValue) (t : Table) (layouts : Layouts) (agino : ℕ) (kept : Kept) (o : Option Inode) → IsGroupOf s t layouts → kept_at s agino ≡ Some kept
    → inode_in (group_at t s.group) agino ≡ o → IsKeptOf s t layouts agino kept
kept_of s t layouts agino kept None is at there = absurd (cc (at, is.only agino there))
kept_of s t layouts agino kept (Some inode) is at there = record {
  inode = inode;
  there = there;
  same = subst (λ (k : Option Kept). IfSome k (λ x. x.inode ≡ incore_for layouts s.group agino inode)) at (is.inodes agino inode there).in_core;
}

pub kept_is : (s : StateValue) (t : Table) (layouts : Layouts) (agino : ℕ) (kept : Kept) → IsGroupOf s t layouts → kept_at s agino ≡ Some kept → IsKeptOf s t layouts agino kept
kept_is s t layouts agino kept is at = kept_of s t layouts agino kept (inode_in (group_at t s.group) agino) is at refl
