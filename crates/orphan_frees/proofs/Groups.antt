-- Frees in one of an image's groups after the other.
use Rattle.std.proofs.Common.{◌≡◌, ◌≢◌, ◌<◌, ◌≤◌, ◌+◌, ◌-◌, ◌++◌, ℕ, zero, suc, List, [], ◌∷◌, length, get_or, take, length-append, length-set, Some, inl, inr, refl, ap, sym, subst, ◌∙◌, arith}
use Rattle.std.specs.Prelude.{slice_get, slice_set}
use Rattle.std.specs.List.{flat_map, range_with_len}
use Rattle.std.proofs.lemmas.Bool.{cases_eq}
use Rattle.std.proofs.lemmas.List.{append-nil}
use Rattle.std.proofs.lemmas.Option.{none-some, same_Some}
use Rattle.life_limits.specs.declared.TheConstants.{MAX_NUMBERS}
use Rattle.life_bytes.specs.declared.sector.Sector.{Sector}
use Rattle.geometry.specs.declared.shape.Geometry.{Geometry}
use Rattle.log_record.specs.declared.image.Commit.{Commit}
use Rattle.life_table.specs.declared.key.Key.{Key}
use Rattle.life_table.specs.declared.types.Entry.{Entry}
use Rattle.life_table.specs.declared.table.Table.{Table}
use Rattle.life_table.specs.History.{closed}
use Rattle.sound_image.specs.Encoding.{CanEncode, Layouts}
use Rattle.group_ops.specs.Represents.{IsGroupOf}
use Rattle.group_ops.specs.Values.{StateValue}
use Rattle.orphan_frees.specs.Frees.{FreesFirst}
use Rattle.orphan_frees.specs.Loaded.{AreGroupsOf, IsGroupAt}
use Rattle.orphan_frees.specs.Order.{freed_all, keys_of_group, keys_to_free, unlisted_all}
use Rattle.commit_history.specs.Carried.{CommitsCarry}
use Rattle.orphan_frees.specs.Steps.{AreUnheld, FreesInGroup, FreesInGroups, FreesKeys, IsGroupIn}
use Rattle.orphan_frees.proofs.Due.{AllIn, NotOf, all_in, freed_both, groups_more, groups_stay, in_first, not_of, not_of_before, split_groups, unheld, unlisted_both}
use Rattle.orphan_frees.proofs.Elsewhere.{keys_stay, layouts_stay, stands}
use Rattle.orphan_frees.proofs.Joined.{AreOwn, BothCarry, NoneCarry, keys_both, length_take, no_keys, take_whole}

pub unheld_of : (g : Geometry) (t : Table) (layouts : Layouts) (sectors : List Sector) (states : List StateValue) → AreGroupsOf g t layouts states → CanEncode g t layouts sectors → closed t ≡ t
    → AreUnheld g t layouts sectors states
unheld_of g t layouts sectors states groups can shut = record { groups = groups; can = can; unheld = shut }

-- ---- one state set

set_other : (states : List StateValue) (i j : ℕ) (new : StateValue) → i ≢ j → slice_get (slice_set states i new) j ≡ slice_get states j
set_other [] i j new apart = refl
set_other (x ∷ xs) zero zero new apart = absurd (apart refl)
set_other (x ∷ xs) zero (suc j) new apart = refl
set_other (x ∷ xs) (suc i) zero new apart = refl
set_other (x ∷ xs) (suc i) (suc j) new apart = set_other xs i j new (λ e. apart (ap suc e))

set_same : (states : List StateValue) (i : ℕ) (new x : StateValue) → slice_get (slice_set states i new) i ≡ Some x → new ≡ x
set_same [] i new x at = absurd (none-some x at)
set_same (y ∷ ys) zero new x at = same_Some new x at
set_same (y ∷ ys) (suc i) new x at = set_same ys i new x at

-- a group that is not the one of the keys
other_group : (g : Geometry) (t : Table) (layouts : Layouts) (keys : List Key) (index k : ℕ) (left x : StateValue) → IsGroupOf left (freed_all t keys) (unlisted_all layouts keys)
    → left.geometry ≡ g → AllIn index keys → index ≢ k → IsGroupAt g t layouts k x → IsGroupAt g (freed_all t keys) (unlisted_all layouts keys) k x
other_group g t layouts keys index k left x after geometry own apart is =
    let away : NotOf x.group keys = not_of index x.group keys own (λ e. apart (sym e ∙ is.group_is)) in
    let same : left.geometry ≡ x.geometry = geometry ∙ sym is.geometry in
    record {
      geometry = is.geometry;
      group_is = is.group_is;
      represents = stands x t (freed_all t keys) layouts (unlisted_all layouts keys) is.represents after.table after.layouts_of
          (after.groups ∙ ap (λ (h : Geometry). h.groups) same ∙ sym is.represents.groups)
          (after.blocks ∙ ap (λ (h : Geometry). h.blocks) same ∙ sym is.represents.blocks)
          (groups_stay t x.group keys away) (layouts_stay layouts x.group keys away);
    }

-- the group at a place of a vector
pub group_in : (g : Geometry) (t : Table) (layouts : Layouts) (sectors : List Sector) (states : List StateValue) (index : ℕ) (s : StateValue) → AreUnheld g t layouts sectors states → index < length states
    → s ≡ get_or states index s → IsGroupAt g t layouts index s × IsGroupIn s t layouts sectors
group_in g t layouts sectors states index s are low at =
    let is : IsGroupAt g t layouts index s = are.groups.each index s (there states index s low ∙ ap (λ (x : StateValue). Some x) (sym at)) in
    let count = are.groups.count in
    let group = is.group_is in
    let groups : s.geometry.groups ≡ g.groups = ap (λ (h : Geometry). h.groups) is.geometry in (
      is,
      record {
        represents = is.represents;
        can = subst (λ (h : Geometry). CanEncode h t layouts sectors) (sym is.geometry) are.can;
        inside = omega (arith, low, count, group, groups);
      },
    )
  where
    there : (xs : List StateValue) (i : ℕ) (d : StateValue) → i < length xs → slice_get xs i ≡ Some (get_or xs i d)
    there [] i d low = absurd (omega (arith, low))
    there (x ∷ xs) zero d low = refl
    there (x ∷ xs) (suc i) d low = there xs i d (omega (arith, low))

-- the states with that of the keys' group as the frees leave it
pub one_group : (g : Geometry) (t : Table) (layouts : Layouts) (keys : List Key) (index : ℕ) (states : List StateValue) (s left : StateValue) (old new : List Commit) (before after : List Entry)
    → AreGroupsOf g t layouts states → IsGroupAt g t layouts index s → AllIn index keys → FreesInGroup s t layouts keys old new before after left
    → FreesInGroups g t layouts keys old new before after (slice_set states index left)
one_group g t layouts keys index states s left old new before after are is own frees =
    let geometry : left.geometry ≡ g = frees.geometry ∙ is.geometry in
    record {
      frees = subst (λ (h : Geometry). FreesKeys h t layouts keys old new before after) is.geometry frees.frees;
      groups = record {
        shape = are.shape;
        count = length-set states index left ∙ are.count;
        each = λ k x at.
            elim (cases_eq index k) [
              | inl same ↦
                  let here : IsGroupAt g (freed_all t keys) (unlisted_all layouts keys) k left =
                  record { geometry = geometry; group_is = frees.group ∙ is.group_is ∙ same; represents = frees.represents } in
                  let one : left ≡ x = set_same states index left x (subst (λ (n : ℕ). slice_get (slice_set states index left) n ≡ Some x) (sym same) at) in
                  subst (λ (y : StateValue). IsGroupAt g (freed_all t keys) (unlisted_all layouts keys) k y) one here
              | inr apart ↦ other_group g t layouts keys index k left x frees.represents geometry own apart (are.each k x (sym (set_other states index k left apart) ∙ at))
            ];
      };
    }

-- some first keys of a group are of it
pub first_own : AreOwn → (g : Geometry) (t : Table) (layouts : Layouts) (sectors : List Sector) (group n : ℕ) → CanEncode g t layouts sectors → closed t ≡ t → group < g.groups
    → AllIn group (take n (keys_of_group t layouts group))
first_own own g t layouts sectors group n can shut inside = in_first group n (keys_of_group t layouts group) (all_in group (keys_of_group t layouts group) (own g t layouts sectors group can shut inside))

-- the frees of one group, which stands at a place of the vector
pub at_place : AreOwn → (g : Geometry) (t : Table) (layouts : Layouts) (sectors : List Sector) (states : List StateValue) (index n : ℕ) (s left : StateValue) (old new : List Commit)
    (before after : List Entry) → AreUnheld g t layouts sectors states → index < length states → s ≡ get_or states index s
    → FreesInGroup s t layouts (take n (keys_of_group t layouts s.group)) old new before after left
    → FreesInGroups g t layouts (take n (keys_of_group t layouts index)) old new before after (slice_set states index left)
at_place own g t layouts sectors states index n s left old new before after are low at frees =
    let is = group_in g t layouts sectors states index s are low at in
    let count = are.groups.count in
    one_group g t layouts (take n (keys_of_group t layouts index)) index states s left old new before after are.groups is.0
    (first_own own g t layouts sectors index n are.can are.unheld (omega (arith, low, count)))
    (subst (λ (k : ℕ). FreesInGroup s t layouts (take n (keys_of_group t layouts k)) old new before after left) is.0.group_is frees)

-- ---- frees in groups, one list of keys after the other

pub none_in_groups : NoneCarry → (g : Geometry) (t : Table) (layouts : Layouts) (list : List Commit) (entries : List Entry) (states : List StateValue) → AreGroupsOf g t layouts states
    → FreesInGroups g t layouts [] list list entries entries states
unfolding freed_all unlisted_all
none_in_groups carry g t layouts list entries states are = record { frees = no_keys carry g t layouts list list entries entries refl refl; groups = are }

pub in_groups_both : BothCarry → (g : Geometry) (t : Table) (layouts : Layouts) (xs ys : List Key) (old list new : List Commit) (before between after : List Entry) (mid states : List StateValue)
    → FreesInGroups g t layouts xs old list before between mid → FreesInGroups g (freed_all t xs) (unlisted_all layouts xs) ys list new between after states
    → FreesInGroups g t layouts (xs ++ ys) old new before after states
in_groups_both joined g t layouts xs ys old list new before between after mid states a b =
    record {
      frees = keys_both joined g t layouts xs ys old list new before between after a.frees b.frees;
      groups = subst (λ (u : Table). AreGroupsOf g u (unlisted_all layouts (xs ++ ys)) states) (sym (freed_both t xs ys))
          (subst (λ (o : Layouts). AreGroupsOf g (freed_all (freed_all t xs) ys) o states) (sym (unlisted_both layouts xs ys)) b.groups);
    }

-- ---- the keys of the groups up to one

abbrev pub keys_before : Table → Layouts → ℕ → List Key
keys_before t layouts n = flat_map (keys_of_group t layouts) (range_with_len 0 n)

take_front : (xs ys : List Key) (n : ℕ) → take (length xs + n) (xs ++ ys) ≡ xs ++ take n ys
take_front [] ys n = let e : 0 + n ≡ n = omega arith in ap (λ (m : ℕ). take m ys) e
take_front (x ∷ xs) ys n =
    let e : suc (length xs) + n ≡ suc (length xs + n) = omega arith in
    ap (λ (m : ℕ). take m (x ∷ (xs ++ ys))) e ∙ ap (λ (l : List Key). x ∷ l) (take_front xs ys n)

take_part : (xs ys : List Key) (n : ℕ) → n ≤ length xs → take n (xs ++ ys) ≡ take n xs
take_part xs ys zero low = refl
take_part [] ys (suc n) low = absurd (omega (arith, low))
take_part (x ∷ xs) ys (suc n) low = ap (λ (l : List Key). x ∷ l) (take_part xs ys n (omega (arith, low)))

-- those of the groups before one, and some first of that one, are some first of all
pub first_keys : (t : Table) (layouts : Layouts) (i n : ℕ) → i < length t.groups → n ≤ length (keys_of_group t layouts i)
    → (keys_before t layouts i ++ take n (keys_of_group t layouts i) ≡ take (length (keys_before t layouts i) + n) (keys_to_free t layouts))
    × (length (keys_before t layouts i) + length (keys_of_group t layouts i) ≤ length (keys_to_free t layouts))
unfolding keys_to_free
first_keys t layouts i n low few =
    let f : ℕ → List Key = keys_of_group t layouts in
    let xs : List Key = keys_before t layouts i in
    let rest : List Key = flat_map f (range_with_len (0 + i + 1) (length t.groups - i - 1)) in
    let here : 0 + i ≡ i = omega arith in
    let split : keys_before t layouts (length t.groups) ≡ xs ++ (f i ++ rest) =
    split_groups f i (length t.groups) 0 low ∙ ap (λ (n : ℕ). xs ++ (f n ++ rest)) here in
    let long = ap (λ (l : List Key). length l) split in (
      sym (ap (λ (l : List Key). take (length xs + n) l) split ∙ take_front xs (f i ++ rest) n ∙ ap (λ (l : List Key). xs ++ l) (take_part (f i) rest n few)),
      omega (arith, long, length-append xs (f i ++ rest), length-append (f i) rest),
    )

take_within : (n count : ℕ) (keys : List Key) → n ≤ count → take n (take count keys) ≡ take n keys
take_within zero count keys low = refl
take_within (suc n) zero keys low = absurd (omega (arith, low))
take_within (suc n) (suc count) [] low = refl
take_within (suc n) (suc count) (key ∷ keys) low = ap (λ (l : List Key). key ∷ l) (take_within n count keys (omega (arith, low)))

-- what the promise says, of frees of some first keys
pub first_of : (g : Geometry) (t : Table) (layouts : Layouts) (keys : List Key) (count : ℕ) (old new : List Commit) (before after : List Entry) (states : List StateValue)
    → keys ≡ take count (keys_to_free t layouts) → count ≤ length (keys_to_free t layouts) → FreesInGroups g t layouts keys old new before after states
    → FreesFirst g t layouts count old new before after states
first_of g t layouts keys count old new before after states is within frees =
    let all = subst (λ (l : List Key). FreesInGroups g t layouts l old new before after states) is frees in
    record {
      within = within;
      commits = all.frees.commits;
      list = all.frees.list;
      one_each = all.frees.one_each ∙ length_take (keys_to_free t layouts) count within;
      carry = all.frees.carry;
      each = λ n low.
          subst (λ (l : List Key). CommitsCarry g t layouts (take n all.frees.commits) (freed_all t l) (unlisted_all layouts l)) (take_within n count (keys_to_free t layouts) low)
          (all.frees.each n (omega (arith, low, length_take (keys_to_free t layouts) count within)));
      entries = all.frees.entries;
      groups = all.groups;
    }

-- ---- the group that comes next

-- what the law says of some first keys of all
abbrev pub FirstEncode : Type 0
FirstEncode = (g : Geometry) (t : Table) (layouts : Layouts) (sectors : List Sector) (count : ℕ) → CanEncode g t layouts sectors → closed t ≡ t
    → CanEncode g (freed_all t (take count (keys_to_free t layouts))) (unlisted_all layouts (take count (keys_to_free t layouts))) sectors

-- those of the groups before one are some first of all
all_before : (t : Table) (layouts : Layouts) (i : ℕ) → i < length t.groups → keys_before t layouts i ≡ take (length (keys_before t layouts i)) (keys_to_free t layouts)
all_before t layouts i low =
    let xs : List Key = keys_before t layouts i in
    let none : length xs + 0 ≡ length xs = omega arith in
    sym (append-nil xs) ∙ (first_keys t layouts i 0 low (omega arith)).0 ∙ ap (λ (n : ℕ). take n (keys_to_free t layouts)) none

pub next_unheld : FirstEncode → (g : Geometry) (t : Table) (layouts : Layouts) (sectors : List Sector) (i : ℕ) (states mid : List StateValue) (old new : List Commit) (before after : List Entry)
    → AreUnheld g t layouts sectors states → i < length states → FreesInGroups g t layouts (keys_before t layouts i) old new before after mid
    → AreUnheld g (freed_all t (keys_before t layouts i)) (unlisted_all layouts (keys_before t layouts i)) sectors mid
next_unheld encode g t layouts sectors i states mid old new before after are low frees =
    let count = are.groups.count in
    let groups = are.can.groups in
    record {
      groups = frees.groups;
      can = subst (λ (xs : List Key). CanEncode g (freed_all t xs) (unlisted_all layouts xs) sectors) (sym (all_before t layouts i (omega (arith, low, count, groups))))
          (encode g t layouts sectors (length (keys_before t layouts i)) are.can are.unheld);
      unheld = unheld t (keys_before t layouts i) are.unheld;
    }

pub next_keys : AreOwn → (g : Geometry) (t : Table) (layouts : Layouts) (sectors : List Sector) (i : ℕ) (states : List StateValue) → AreUnheld g t layouts sectors states → i < length states
    → keys_of_group (freed_all t (keys_before t layouts i)) (unlisted_all layouts (keys_before t layouts i)) i ≡ keys_of_group t layouts i
next_keys own g t layouts sectors i states are low =
    let count = are.groups.count in
    keys_stay t layouts i (keys_before t layouts i)
    (not_of_before (keys_of_group t layouts) i 0 i (λ b less. all_in b (keys_of_group t layouts b) (own g t layouts sectors b are.can are.unheld (omega (arith, less, low, count)))) (omega arith))

-- what the law says of how many keys there are
abbrev pub FewKeys : Type 0
FewKeys = (g : Geometry) (t : Table) (layouts : Layouts) (sectors : List Sector) → CanEncode g t layouts sectors → closed t ≡ t → length (keys_to_free t layouts) ≤ MAX_NUMBERS

-- the numbers of its commits
pub next_number : AreOwn → FewKeys → (g : Geometry) (t : Table) (layouts : Layouts) (sectors : List Sector) (i : ℕ) (states mid : List StateValue) (old new : List Commit) (before after : List Entry)
    → AreUnheld g t layouts sectors states → i < length states → FreesInGroups g t layouts (keys_before t layouts i) old new before after mid
    → length new + length (keys_of_group (freed_all t (keys_before t layouts i)) (unlisted_all layouts (keys_before t layouts i)) i) ≤ length old + MAX_NUMBERS
next_number own few g t layouts sectors i states mid old new before after are low frees =
    let count = are.groups.count in
    let groups = are.can.groups in
    let many = frees.frees.one_each in
    let long : length new ≡ length (old ++ frees.frees.commits) = ap (λ (l : List Commit). length l) frees.frees.list in
    let keys = ap (λ (l : List Key). length l) (next_keys own g t layouts sectors i states are low) in
    let within = (first_keys t layouts i 0 (omega (arith, low, count, groups)) (omega arith)).1 in
    let most = few g t layouts sectors are.can are.unheld in
    omega (arith, many, long, keys, within, most, length-append old frees.frees.commits)

-- that group's frees behind those of the groups before it: some first of them, and all
pub some_more : BothCarry → AreOwn → (g : Geometry) (t : Table) (layouts : Layouts) (sectors : List Sector) (i n : ℕ) (states mid left : List StateValue) (old list new : List Commit)
    (before between after : List Entry) → AreUnheld g t layouts sectors states → i < length states → FreesInGroups g t layouts (keys_before t layouts i) old list before between mid
    → n ≤ length (keys_of_group (freed_all t (keys_before t layouts i)) (unlisted_all layouts (keys_before t layouts i)) i)
    → FreesInGroups g (freed_all t (keys_before t layouts i)) (unlisted_all layouts (keys_before t layouts i))
    (take n (keys_of_group (freed_all t (keys_before t layouts i)) (unlisted_all layouts (keys_before t layouts i)) i)) list new between after left
    → FreesFirst g t layouts (length (keys_before t layouts i) + n) old new before after left
some_more joined own g t layouts sectors i n states mid left old list new before between after are low a few b =
    let xs : List Key = keys_before t layouts i in
    let count = are.groups.count in
    let groups = are.can.groups in
    let same = next_keys own g t layouts sectors i states are low in
    let less : n ≤ length (keys_of_group t layouts i) = omega (arith, few, ap (λ (l : List Key). length l) same) in
    let first = first_keys t layouts i n (omega (arith, low, count, groups)) less in
    let within = first.1 in
    first_of g t layouts (xs ++ take n (keys_of_group t layouts i)) (length xs + n) old new before after left first.0 (omega (arith, within, less))
    (in_groups_both joined g t layouts xs (take n (keys_of_group t layouts i)) old list new before between after mid left a
    (subst (λ (l : List Key). FreesInGroups g (freed_all t xs) (unlisted_all layouts xs) (take n l) list new between after left) same b))

pub all_more : BothCarry → AreOwn → (g : Geometry) (t : Table) (layouts : Layouts) (sectors : List Sector) (i : ℕ) (states mid left : List StateValue) (old list new : List Commit)
    (before between after : List Entry) → AreUnheld g t layouts sectors states → i < length states → FreesInGroups g t layouts (keys_before t layouts i) old list before between mid
    → FreesInGroups g (freed_all t (keys_before t layouts i)) (unlisted_all layouts (keys_before t layouts i))
    (keys_of_group (freed_all t (keys_before t layouts i)) (unlisted_all layouts (keys_before t layouts i)) i) list new between after left
    → FreesInGroups g t layouts (keys_before t layouts (i + 1)) old new before after left
all_more joined own g t layouts sectors i states mid left old list new before between after are low a b =
    let xs : List Key = keys_before t layouts i in
    let same = next_keys own g t layouts sectors i states are low in
    let here : 0 + i ≡ i = omega arith in
    let more : keys_before t layouts (i + 1) ≡ xs ++ keys_of_group t layouts i =
    groups_more (keys_of_group t layouts) i 0 ∙ ap (λ (n : ℕ). xs ++ keys_of_group t layouts n) here in
    subst (λ (l : List Key). FreesInGroups g t layouts l old new before after left) (sym more)
    (in_groups_both joined g t layouts xs (keys_of_group t layouts i) old list new before between after mid left a
    (subst (λ (l : List Key). FreesInGroups g (freed_all t xs) (unlisted_all layouts xs) l list new between after left) same b))

-- ---- the end

pub all_of : (g : Geometry) (t : Table) (layouts : Layouts) (sectors : List Sector) (i : ℕ) (states left : List StateValue) (old new : List Commit) (before after : List Entry)
    → AreUnheld g t layouts sectors states → i ≡ length states → FreesInGroups g t layouts (keys_before t layouts i) old new before after left
    → FreesFirst g t layouts (length (keys_to_free t layouts)) old new before after left
unfolding keys_to_free
all_of g t layouts sectors i states left old new before after are end frees =
    let count = are.groups.count in
    let groups = are.can.groups in
    let last : i ≡ length t.groups = omega (arith, end, count, groups) in
    let keys : keys_before t layouts i ≡ keys_to_free t layouts = ap (λ (n : ℕ). keys_before t layouts n) last in
    first_of g t layouts (keys_before t layouts i) (length (keys_to_free t layouts)) old new before after left
    (keys ∙ sym (take_whole (keys_to_free t layouts) (length (keys_to_free t layouts)) (omega arith))) (omega arith) frees
