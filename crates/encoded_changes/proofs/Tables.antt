-- Another inode at a number of the image.
use Rattle.std.proofs.Common.{◌≡◌, ◌<◌, ◌≤◌, ◌/◌, ◌%◌, ℕ, zero, suc, Bool, true, false, cond, List, [], ◌∷◌, Option, None, Some, length, get_or, set, eqb, inl, inr, refl, ap, sym, subst, ◌∙◌, arith}
use Rattle.std.specs.Prelude.{◌≢◌}
use Rattle.std.proofs.lemmas.Bool.{cases_lt, eqb-true}
use Rattle.std.proofs.lemmas.Option.{none-some}
use Rattle.std.proofs.lemmas.List.{length-set}
use Rattle.life_limits.specs.declared.TheConstants.{GROUP_NUMBERS}
use Rattle.life_bytes.specs.declared.sector.Sector.{Sector}
use Rattle.geometry.specs.declared.shape.Geometry.{Geometry}
use Rattle.log_image.specs.Overlay.{overlaid}
use Rattle.log_record.specs.declared.image.Image.{Image}
use Rattle.life_table.specs.declared.key.Key.{Key}
use Rattle.life_table.specs.declared.types.Row.{Row}
use Rattle.life_table.specs.declared.table.Inode.{Inode}
use Rattle.life_table.specs.declared.table.Table.{Table}
use Rattle.life_table.specs.Table.{Group, group_at, in_use, inode_in, inode_of, row_in_life, row_of, set_inode, with_group, with_inode}
use Rattle.life_table.specs.Space.{prepared}
use Rattle.life_table.specs.Legal.{prepare}
use Rattle.life_table.specs.WellFormed.{IsTable}
use Rattle.sound_image.specs.Encoding.{Layouts, AreLayouts, CanEncode, is_unlinked_row, layout_of, encoded}
use Rattle.encoded_changes.specs.Carry.{CarryGroup}
use Rattle.encoded_changes.specs.Changes.{FollowInode, Relists}
use Rattle.encoded_changes.proofs.Listed.{first_put, out_taken}
use Rattle.encoded_changes.proofs.Rows.{own_group}
use Rattle.encoded_changes.proofs.Prepared.{layouts_prepared}
use Rattle.encoded_changes.proofs.OneList.{carried_in_group}
use Rattle.encoded_changes.proofs.Follow.{layouts_same, layouts_put, layouts_taken}

-- the inode of a row
abbrev made : ℕ → Option Row → Inode
made generation row = record { generation = generation; row = row }

in_life : (generation : ℕ) (o : Option Inode) (row : Row) → row_in_life generation o ≡ Some row → o ≡ Some (record { generation = generation; row = Some row })
in_life generation None row e = absurd (none-some row e)
in_life generation (Some inode) row e =
    elim (eqb inode.generation generation) as (λ c. eqb inode.generation generation ≡ c → cond c inode.row None ≡ Some row → Some inode ≡ Some (record { generation = generation; row = Some row })) [
      | true ↦ λ is has. ap (λ (n : ℕ). Some (made n inode.row)) (eqb-true inode.generation generation is) ∙ ap (λ (r : Option Row). Some (made generation r)) has
      | false ↦ λ is has. absurd (none-some row has)
    ] refl e

pub row_inode : (t : Table) (key : Key) (row : Row) → row_of t key ≡ Some row → inode_of t key.number ≡ Some (in_use key row)
row_inode t key row e = in_life key.generation (inode_of t key.number) row e

-- a number with an inode is in a group of the table
past : {X : Type 0} (xs : List X) (i : ℕ) (d : X) → length xs ≤ i → get_or xs i d ≡ d
past [] i d high = refl
past (x ∷ xs) zero d high = absurd (omega arith)
past (x ∷ xs) (suc i) d high = past xs i d (omega arith)

no_inode : (agino : ℕ) (inode : Inode) → inode_in [] agino ≡ Some inode → ⊥
unfolding inode_in
no_inode agino inode e = none-some inode e

at_group : (t : Table) (number : ℕ) (inode : Inode) → inode_of t number ≡ Some inode → inode_in (group_at t (number / GROUP_NUMBERS)) (number % GROUP_NUMBERS) ≡ Some inode
unfolding inode_of
at_group t number inode e = e

has_group : (t : Table) (number : ℕ) (inode : Inode) → inode_of t number ≡ Some inode → number / GROUP_NUMBERS < length t.groups
has_group t number inode at =
    elim (cases_lt (number / GROUP_NUMBERS) (length t.groups)) [
      | inl low ↦ low
      | inr high ↦ absurd (no_inode (number % GROUP_NUMBERS) inode
          (ap (λ (cs : Group). inode_in cs (number % GROUP_NUMBERS)) (sym (past t.groups (number / GROUP_NUMBERS) [] high)) ∙ at_group t number inode at))
    ]

-- the lists as they follow
relisted : (t : Table) (layouts others : Layouts) (group agino : ℕ) (old new : Inode) (was is : Bool) → AreLayouts t layouts → group < length t.groups
    → inode_in (group_at t group) agino ≡ Some old → is_unlinked_row old.row ≡ was → is_unlinked_row new.row ≡ is → Relists layouts group agino was is others
    → AreLayouts (with_group t group (set_inode (group_at t group) agino new)) others
relisted t layouts others group agino old new false true are lt at e f follow = layouts_put t layouts others group agino old new are lt at e f (first_put layouts others group agino follow)
relisted t layouts others group agino old new true false are lt at e f follow = layouts_taken t layouts others group agino old new are lt at f (out_taken layouts others group agino follow)
relisted t layouts others group agino old new false false are lt at e f follow =
    subst (AreLayouts (with_group t group (set_inode (group_at t group) agino new))) (sym follow) (layouts_same t layouts group agino old new are lt at (f ∙ sym e))
relisted t layouts others group agino old new true true are lt at e f follow =
    subst (AreLayouts (with_group t group (set_inode (group_at t group) agino new))) (sym follow) (layouts_same t layouts group agino old new are lt at (f ∙ sym e))

other_layouts : (layouts others : Layouts) (group agino : ℕ) (was is : Bool) → Relists layouts group agino was is others
    → (other : ℕ) → other ≢ group → layout_of others other ≡ layout_of layouts other
other_layouts layouts others group agino false true follow other apart = (first_put layouts others group agino follow).groups other apart
other_layouts layouts others group agino true false follow other apart = (out_taken layouts others group agino follow).groups other apart
other_layouts layouts others group agino false false follow other apart = ap (λ (l : Layouts). layout_of l other) follow
other_layouts layouts others group agino true true follow other apart = ap (λ (l : Layouts). layout_of l other) follow

abbrev replaced : Table → ℕ → Inode → Table
replaced t number new = with_group t (number / GROUP_NUMBERS) (set_inode (group_at t (number / GROUP_NUMBERS)) (number % GROUP_NUMBERS) new)

with_is : (t : Table) (number : ℕ) (new : Inode) → with_inode t number new ≡ replaced t number new
unfolding with_inode
with_is t number new = refl

-- what can be encoded, from its parts
follows : (g : Geometry) (t u : Table) (layouts others : Layouts) (image : List Sector) (number : ℕ) (old new : Inode) → CanEncode g t layouts image
    → length u.groups ≡ length t.groups → u.blocks ≡ t.blocks → AreLayouts u layouts
    → inode_of u number ≡ Some old → IsTable (with_inode u number new) → FollowInode layouts number old new others
    → CanEncode g (with_inode u number new) others image
follows g t u layouts others image number old new can long blocks are at table follow =
    let group : ℕ = number / GROUP_NUMBERS in
    let agino : ℕ = number % GROUP_NUMBERS in
    let same = with_is u number new in
    let next : Table = replaced u number new in
    subst (λ (v : Table). CanEncode g v others image) (sym same)
    (record {
      shape = can.shape;
      table = subst IsTable same table;
      groups = length-set u.groups group (set_inode (group_at u group) agino new) ∙ long ∙ can.groups;
      blocks = blocks ∙ can.blocks;
      layouts_of = relisted u layouts others group agino old new (is_unlinked_row old.row) (is_unlinked_row new.row) are (has_group u number old at) (at_group u number old at) refl refl follow;
      size = can.size;
    })

pub inode_follows : (g : Geometry) (t : Table) (layouts others : Layouts) (image : List Sector) (number : ℕ) (old new : Inode) → CanEncode g t layouts image
    → inode_of t number ≡ Some old → IsTable (with_inode t number new) → FollowInode layouts number old new others
    → CanEncode g (with_inode t number new) others image
inode_follows g t layouts others image number old new can at table follow =
    follows g t t layouts others image number old new can refl refl can.layouts_of at table follow

pub inode_made : (g : Geometry) (t : Table) (layouts others : Layouts) (image : List Sector) (group number : ℕ) (old new : Inode) → CanEncode g t layouts image → group < g.groups
    → inode_of (prepare t group) number ≡ Some old → IsTable (with_inode (prepare t group) number new) → FollowInode layouts number old new others
    → CanEncode g (with_inode (prepare t group) number new) others image
inode_made g t layouts others image group number old new can lt at table follow =
    follows g t (prepare t group) layouts others image number old new can (length-set t.groups group (prepared t.blocks group (group_at t group))) refl
    (layouts_prepared t layouts group can.layouts_of (omega (arith, lt, can.groups))) at table follow

pub inode_carried : (g : Geometry) (t : Table) (layouts others : Layouts) (image : List Sector) (number : ℕ) (old new : Inode) (images : List Image) → CanEncode g t layouts image
    → inode_of t number ≡ Some old → FollowInode layouts number old new others
    → CarryGroup g (number / GROUP_NUMBERS) layouts (group_at t (number / GROUP_NUMBERS)) others (set_inode (group_at t (number / GROUP_NUMBERS)) (number % GROUP_NUMBERS) new) images
    → overlaid (encoded g t layouts image) images ≡ encoded g (with_inode t number new) others image
inode_carried g t layouts others image number old new images can at follow carry =
    let group : ℕ = number / GROUP_NUMBERS in
    let low : group < g.groups = omega (arith, has_group t number old at, can.groups) in
    carried_in_group g t layouts others image group (set_inode (group_at t group) (number % GROUP_NUMBERS) new) images can low
    (other_layouts layouts others group (number % GROUP_NUMBERS) (is_unlinked_row old.row) (is_unlinked_row new.row) follow) carry
    ∙ ap (λ (u : Table). encoded g u others image) (sym (with_is t number new))

-- a group that is replaced twice
set_twice : {X : Type 0} (xs : List X) (i : ℕ) (x y : X) → set (set xs i x) i y ≡ set xs i y
set_twice [] i x y = refl
set_twice (z ∷ zs) zero x y = refl
set_twice (z ∷ zs) (suc i) x y = ap (λ ys. z ∷ ys) (set_twice zs i x y)

table_made : Table → List Group → Table
table_made t groups = record { version = t.version; blocks = t.blocks; groups = groups }

twice : (t : Table) (group : ℕ) (chunks next : Group) → with_group (with_group t group chunks) group next ≡ with_group t group next
unfolding table_made
twice t group chunks next = ap (table_made t) (set_twice t.groups group chunks next)

made_is : (t : Table) (group number : ℕ) (new : Inode) → group < length t.groups → number / GROUP_NUMBERS ≡ group
    → with_inode (prepare t group) number new ≡ with_group t group (set_inode (prepared t.blocks group (group_at t group)) (number % GROUP_NUMBERS) new)
made_is t group number new lt in_it =
    let ready : Group = prepared t.blocks group (group_at t group) in
    let agino : ℕ = number % GROUP_NUMBERS in
    with_is (prepare t group) number new
    ∙ ap (λ (n : ℕ). with_group (prepare t group) n (set_inode (group_at (prepare t group) n) agino new)) in_it
    ∙ ap (λ (cs : Group). with_group (prepare t group) group (set_inode cs agino new)) (own_group t group ready lt)
    ∙ twice t group ready (set_inode ready agino new)

pub made_carried : (g : Geometry) (t : Table) (layouts others : Layouts) (image : List Sector) (group number : ℕ) (old new : Inode) (images : List Image) → CanEncode g t layouts image
    → group < g.groups → number / GROUP_NUMBERS ≡ group → FollowInode layouts number old new others
    → CarryGroup g group layouts (group_at t group) others (set_inode (prepared t.blocks group (group_at t group)) (number % GROUP_NUMBERS) new) images
    → overlaid (encoded g t layouts image) images ≡ encoded g (with_inode (prepare t group) number new) others image
made_carried g t layouts others image group number old new images can lt in_it follow carry =
    let next : Group = set_inode (prepared t.blocks group (group_at t group)) (number % GROUP_NUMBERS) new in
    let here : Relists layouts group (number % GROUP_NUMBERS) (is_unlinked_row old.row) (is_unlinked_row new.row) others =
    subst (λ (n : ℕ). Relists layouts n (number % GROUP_NUMBERS) (is_unlinked_row old.row) (is_unlinked_row new.row) others) in_it follow in
    carried_in_group g t layouts others image group next images can lt
    (other_layouts layouts others group (number % GROUP_NUMBERS) (is_unlinked_row old.row) (is_unlinked_row new.row) here) carry
    ∙ ap (λ (u : Table). encoded g u others image) (sym (made_is t group number new (omega (arith, lt, can.groups)) in_it))
