-- The commit of a change carries a table on whoever holds its inodes.
use Rattle.std.proofs.Common.{◌≡◌, ◌<◌, ℕ, List, [], length, inl, inr, ap, sym, subst, ◌∙◌, arith}
use Rattle.std.proofs.Math.ListN.{get_or-map}
use Rattle.std.proofs.lemmas.List.{length-map}
use Rattle.std.proofs.lemmas.List.Elements.{All-weaker}
use Rattle.geometry.specs.declared.shape.Geometry.{Geometry}
use Rattle.log_record.specs.declared.image.Commit.{Commit}
use Rattle.log_record.specs.declared.image.Image.{Image}
use Rattle.life_table.specs.declared.table.Table.{Table}
use Rattle.life_table.specs.Table.{Group, group_at, map_group}
use Rattle.life_table.specs.WellFormed.{IsTable}
use Rattle.life_table.specs.History.{closed, closed_inode}
use Rattle.sound_image.specs.Encoding.{AreLayouts, Layouts, metadata}
use Rattle.encoded_changes.specs.Carry.{AreImagesOf, ChangesOnly, IsOfGroup, Stays}
use Rattle.commit_history.specs.Carried.{CommitCarries}
use Rattle.group_ops.specs.declared.delta.Delta.{Delta}
use Rattle.group_ops.specs.Changes.{changed_state}
use Rattle.group_ops.specs.Represents.{IsGroupOf}
use Rattle.group_ops.specs.Staging.{IsCommitOf, Leads}
use Rattle.group_ops.specs.Values.{StateValue}

-- what is used of the crates below: holds are passed over by what encodes a table
pub record Holdless : Type 0 where
  pub metadata : (g : Geometry) (layouts : Layouts) (group : ℕ) (chunks : Group) (place : ℕ)
      → metadata g layouts group (map_group closed_inode chunks) place ≡ metadata g layouts group chunks place
  pub layouts : (t : Table) (layouts : Layouts) → AreLayouts t layouts → AreLayouts (closed t) layouts
  pub tables : (t : Table) → IsTable t → IsTable (closed t)

pub group_closed : (t : Table) (group : ℕ) → group_at (closed t) group ≡ map_group closed_inode (group_at t group)
group_closed t group = get_or-map (map_group closed_inode) t.groups group []

says_closed : Holdless → (g : Geometry) (layouts : Layouts) (t : Table) (group place : ℕ) → metadata g layouts group (group_at (closed t) group) place ≡ metadata g layouts group (group_at t group) place
says_closed laws g layouts t group place =
    ap (λ (chunks : Group). metadata g layouts group chunks place) (group_closed t group) ∙ laws.metadata g layouts group (group_at t group) place

stays_closed : Holdless → (g : Geometry) (group : ℕ) (layouts others : Layouts) (t u : Table) (place : ℕ)
    → Stays g group layouts (group_at t group) others (group_at u group) place → Stays g group layouts (group_at (closed t) group) others (group_at (closed u) group) place
stays_closed laws g group layouts others t u place stays = says_closed laws g others u group place ∙ stays ∙ sym (says_closed laws g layouts t group place)

stays_open : Holdless → (g : Geometry) (group : ℕ) (layouts others : Layouts) (t u : Table) (place : ℕ)
    → Stays g group layouts (group_at (closed t) group) others (group_at (closed u) group) place → Stays g group layouts (group_at t group) others (group_at u group) place
stays_open laws g group layouts others t u place stays = sym (says_closed laws g others u group place) ∙ stays ∙ says_closed laws g layouts t group place

images_closed : Holdless → (g : Geometry) (group : ℕ) (layouts others : Layouts) (t u : Table) (images : List Image)
    → AreImagesOf g group layouts (group_at t group) others (group_at u group) images → AreImagesOf g group layouts (group_at (closed t) group) others (group_at (closed u) group) images
images_closed laws g group layouts others t u images of = record {
  carry = record {
    right = All-weaker (IsOfGroup g others group (group_at u group)) (IsOfGroup g others group (group_at (closed u) group)) (λ image is.
        record { place = is.place; within = is.within; home = is.home; bytes = says_closed laws g others u group is.place ∙ is.bytes }) images of.carry.right;
    whole = λ place within. elim (of.carry.whole place within) [
      | inl stays ↦ inl (stays_closed laws g group layouts others t u place stays)
      | inr has ↦ inr has
    ];
  };
  ascend = of.ascend;
  differ = λ place within has stays. of.differ place within has (stays_open laws g group layouts others t u place stays);
}

only_closed : (group : ℕ) (t u : Table) (layouts others : Layouts) → ChangesOnly group t layouts u others → ChangesOnly group (closed t) layouts (closed u) others
only_closed group t u layouts others only = record {
  chunks = λ other apart. group_closed u other ∙ ap (map_group closed_inode) (only.chunks other apart) ∙ sym (group_closed t other);
  layouts_of = only.layouts_of;
}

pub groups_length : (t : Table) → length (closed t).groups ≡ length t.groups
groups_length t = length-map t.groups (map_group closed_inode)

-- what is a group of tables before and after a change
record After (s : StateValue) (d : Delta) (u : Table) (others : Layouts) : Type 0 where
  pub table : IsTable u
  pub layouts_of : AreLayouts u others
  pub groups : length u.groups ≡ s.geometry.groups
  pub blocks : u.blocks ≡ s.geometry.blocks

after_is : (s : StateValue) (d : Delta) (u : Table) (others : Layouts) → IsGroupOf (changed_state s d) u others → After s d u others
unfolding changed_state
after_is s d u others is = record { table = is.table; layouts_of = is.layouts_of; groups = is.groups; blocks = is.blocks }

pub carries_closed : Holdless → (s : StateValue) (d : Delta) (t u : Table) (layouts others : Layouts) (commit : Commit) → s.group < s.geometry.groups
    → Leads s d t layouts u others → IsCommitOf s t layouts u others commit → CommitCarries s.geometry (closed t) layouts (closed u) others commit
carries_closed laws s d t u layouts others commit inside leads of =
    let g : Geometry = s.geometry in
    let after = after_is s d u others leads.after in
    record {
      group = omega (arith, inside, of.group);
      only = subst (λ (k : ℕ). ChangesOnly k (closed t) layouts (closed u) others) (sym of.group) (only_closed s.group t u layouts others leads.only);
      images = subst (λ (k : ℕ). AreImagesOf g k layouts (group_at (closed t) k) others (group_at (closed u) k) commit.images) (sym of.group)
          (images_closed laws g s.group layouts others t u commit.images of.images);
      few = of.few;
      next = λ sectors can. record {
        shape = can.shape;
        table = laws.tables u after.table;
        groups = groups_length u ∙ after.groups;
        blocks = after.blocks;
        layouts_of = laws.layouts u others after.layouts_of;
        size = can.size;
      };
    }
