-- Tables that agree at a group: one inode of it is changed, or the whole of it.
use Rattle.std.proofs.Common.{◌≡◌, ◌≢◌, ◌/◌, ◌%◌, ◌<◌, ℕ, List, [], length, refl, sym, ap, subst, ◌∙◌, length-set}
use Rattle.std.proofs.lemmas.List.{set-get_or, set-set, get_or-set_same, get_or-set_other}
use Rattle.life_limits.specs.declared.TheConstants.{GROUP_NUMBERS}
use Rattle.life_table.specs.declared.key.Key.{Key}
use Rattle.life_table.specs.declared.table.Inode.{Inode}
use Rattle.life_table.specs.declared.table.Table.{Table}
use Rattle.life_table.specs.Table.{Group, group_at, group_number, inode_in, inode_of, row_in_life, row_of, set_inode, with_group, with_inode}
use Rattle.group_frame.specs.Frames.{AgreesAt}

pub agrees_same : (g : ℕ) (t : Table) → AgreesAt g t t
agrees_same g t = record { blocks = refl; groups = refl; group = refl }

pub agrees_back : (g : ℕ) (t u : Table) → AgreesAt g t u → AgreesAt g u t
agrees_back g t u agrees = record { blocks = sym agrees.blocks; groups = sym agrees.groups; group = sym agrees.group }

pub agrees_along : (g : ℕ) (t u v : Table) → AgreesAt g t u → AgreesAt g u v → AgreesAt g t v
agrees_along g t u v first second =
    record { blocks = second.blocks ∙ first.blocks; groups = second.groups ∙ first.groups; group = second.group ∙ first.group }

-- the inode of a number of the group
inode_agrees : (g : ℕ) (t u : Table) (number : ℕ) → AgreesAt g t u → number / GROUP_NUMBERS ≡ g → inode_of u number ≡ inode_of t number
unfolding inode_of
inode_agrees g t u number agrees in_group =
    ap (λ h. inode_in (group_at u h) (number % GROUP_NUMBERS)) in_group
    ∙ ap (λ group. inode_in group (number % GROUP_NUMBERS)) agrees.group
    ∙ ap (λ h. inode_in (group_at t h) (number % GROUP_NUMBERS)) (sym in_group)

pub row_agrees : (g : ℕ) (t u : Table) (key : Key) → AgreesAt g t u → group_number key ≡ g → row_of u key ≡ row_of t key
row_agrees g t u key agrees in_group = ap (row_in_life key.generation) (inode_agrees g t u key.number agrees in_group)

-- the group replaced: it is that group, the others stay, and tables that agreed agree
pub group_replaced : (t : Table) (g : ℕ) (group : Group) → g < length t.groups → group_at (with_group t g group) g ≡ group
group_replaced t g group inside = get_or-set_same t.groups g group [] inside

pub others_stay : (t : Table) (g other : ℕ) (group : Group) → other ≢ g → group_at (with_group t g group) other ≡ group_at t other
others_stay t g other group apart = get_or-set_other t.groups g other group [] apart

pub itself : (t : Table) (g : ℕ) → with_group t g (group_at t g) ≡ t
itself t g = ap (λ (groups : List Group). record { version = t.version; blocks = t.blocks; groups = groups }) (set-get_or t.groups g [])

pub replaced_twice : (t : Table) (g : ℕ) (first second : Group) → with_group (with_group t g first) g second ≡ with_group t g second
replaced_twice t g first second = ap (λ (groups : List Group). record { version = t.version; blocks = t.blocks; groups = groups }) (set-set t.groups g first second)

pub agrees_replaced : (g : ℕ) (t u : Table) (group : Group) → g < length t.groups → AgreesAt g t u → AgreesAt g (with_group t g group) (with_group u g group)
agrees_replaced g t u group inside agrees = record {
  blocks = agrees.blocks;
  groups = length-set u.groups g group ∙ agrees.groups ∙ sym (length-set t.groups g group);
  group = group_replaced u g group (subst (λ n. g < n) (sym agrees.groups) inside) ∙ sym (group_replaced t g group inside);
}

-- an inode of the group changed
pub inode_replaced : (g : ℕ) (t : Table) (number : ℕ) (inode : Inode) → number / GROUP_NUMBERS ≡ g
    → with_inode t number inode ≡ with_group t g (set_inode (group_at t g) (number % GROUP_NUMBERS) inode)
unfolding with_inode
inode_replaced g t number inode in_group = ap (λ h. with_group t h (set_inode (group_at t h) (number % GROUP_NUMBERS) inode)) in_group
