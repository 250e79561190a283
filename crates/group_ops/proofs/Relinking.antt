-- How pointers are set where an inode is put into its bucket or taken out of it, and the lists as they then are.
use Rattle.std.proofs.Common.{◌≡◌, ◌≢◌, ◌<◌, ◌≤◌, ◌%◌, ℕ, true, false, eqb, List, [], ◌∷◌, length, Contains, Option, None, Some, inl, inr, refl, ap, sym, subst, ◌∙◌, arith, zero-add, get_or-set_same, get_or-set_other}
use Rattle.std.specs.Prelude.{map, slice_index, slice_set}
use Rattle.std.specs.List.{range_with_len}
use Rattle.std.proofs.lemmas.Bool.{cases_eq, cond-true, cond-false, eq-eqb, ne_eqb}
use Rattle.std.proofs.lemmas.Grind.{same_number_lists}
use Rattle.std.proofs.lemmas.List.FromFn.{length-map-range_with_len, get_or-map-range_with_len}
use Rattle.life_limits.specs.declared.TheConstants.{BUCKETS, FIRST_PAGE_BLOCK, GROUP_NUMBERS, NO_INODE}
use Rattle.inode_cache.specs.Inodes.{incore_encoding}
use Rattle.agi_buckets.specs.Buckets.{AreBuckets, IsBefore, IsLedToBy, Pointers, Puts, Removes, list_at, own_list, put_first, take_out, without}
use Rattle.life_table.specs.declared.types.Row.{Row}
use Rattle.life_table.specs.declared.table.Inode.{Inode}
use Rattle.life_table.specs.declared.table.Table.{Table}
use Rattle.life_table.specs.Space.{times}
use Rattle.life_table.specs.Table.{group_at, inode_in}
use Rattle.sound_image.specs.Encoding.{Layout, Layouts, bucket_list, head_of, is_unlinked, is_unlinked_row, layout_of, next_in, page_of}
use Rattle.encoded_changes.specs.Changes.{put_in, taken_from, with_buckets}
use Rattle.group_ops.specs.declared.delta.Prior.{Prior}
use Rattle.group_ops.specs.Pointers.{PointingValue, ShowsLists, next_at, pointers_of, pointers_set}
use Rattle.group_ops.specs.Relinks.{Relinks, next_of}
use Rattle.group_ops.specs.Represents.{IsGroupOf, incore_for}
use Rattle.group_ops.specs.Values.{StateValue}
use Rattle.group_ops.proofs.BucketLists.{chain_head, chain_next, member_without, next-here, next-later, next_of_none, times_gone, times_of_member}
use Rattle.group_ops.proofs.Shown.{absent_own, list_is, listed_own, member_is, once_in, unlinked_some}

-- ---- layouts with another list of one bucket

own_buckets : (layouts : Layouts) (group : ℕ) (buckets : List (List ℕ)) (bucket : ℕ) → group < length layouts
    → bucket_list (with_buckets layouts group buckets) group bucket ≡ list_at buckets bucket
unfolding bucket_list layout_of
own_buckets layouts group buckets bucket inside =
    ap (λ (l : Layout). list_at l.buckets bucket)
    (get_or-set_same layouts group (record { page = page_of layouts group; buckets = buckets }) (record { page = FIRST_PAGE_BLOCK; buckets = [] }) inside)

-- the layouts with this list in place of that of a bucket
abbrev with_list : Layouts → ℕ → ℕ → List ℕ → Layouts
with_list layouts group bucket members = with_buckets layouts group (slice_set (layout_of layouts group).buckets bucket members)

list_here : (layouts : Layouts) (group bucket : ℕ) (members : List ℕ) → group < length layouts → bucket < length (layout_of layouts group).buckets
    → bucket_list (with_list layouts group bucket members) group bucket ≡ members
list_here layouts group bucket members inside small =
    own_buckets layouts group (slice_set (layout_of layouts group).buckets bucket members) bucket inside
    ∙ get_or-set_same (layout_of layouts group).buckets bucket members [] small

list_elsewhere : (layouts : Layouts) (group bucket other : ℕ) (members : List ℕ) → group < length layouts → other ≢ bucket
    → bucket_list (with_list layouts group bucket members) group other ≡ bucket_list layouts group other
list_elsewhere layouts group bucket other members inside ne =
    own_buckets layouts group (slice_set (layout_of layouts group).buckets bucket members) other inside
    ∙ get_or-set_other (layout_of layouts group).buckets bucket other members [] ne
    ∙ sym (list_is layouts group other)

-- the next pointer of another number, where its own list gives it the same one
next_apart : (layouts : Layouts) (group bucket other : ℕ) (members : List ℕ) → group < length layouts → bucket < length (layout_of layouts group).buckets
    → next_in members other ≡ next_in (bucket_list layouts group bucket) other
    → next_of (with_list layouts group bucket members) group other ≡ next_of layouts group other
next_apart layouts group bucket other members inside small same =
    let after : Layouts = with_list layouts group bucket members in
    elim (cases_eq (other % BUCKETS) bucket) [
      | inl here ↦
          ap (λ (b : ℕ). next_in (bucket_list after group b) other) here
          ∙ ap (λ (l : List ℕ). next_in l other) (list_here layouts group bucket members inside small)
          ∙ same
          ∙ ap (λ (b : ℕ). next_in (bucket_list layouts group b) other) (sym here)
      | inr away ↦ ap (λ (l : List ℕ). next_in l other) (list_elsewhere layouts group bucket (other % BUCKETS) members inside away)
    ]

-- ---- pointers that give lists

-- the heads are those of the lists
heads_are : (q : Pointers) (lists : List (List ℕ)) (others : Layouts) (group : ℕ) → AreBuckets q lists → ((bucket : ℕ) → bucket_list others group bucket ≡ list_at lists bucket)
    → q.heads ≡ map (λ bucket. head_of (bucket_list others group bucket)) (range_with_len 0 BUCKETS)
heads_are q lists others group are same =
    let f : ℕ → ℕ = λ b. head_of (bucket_list others group b) in
    same_number_lists q.heads (map f (range_with_len 0 BUCKETS)) (are.heads ∙ sym (length-map-range_with_len f 0 BUCKETS))
    (λ k low.
    let small : k < BUCKETS = omega (arith, low, are.heads) in
    chain_head q.next (slice_index q.heads k) (list_at lists k) (are.each k small).chain
    ∙ ap head_of (sym (same k))
    ∙ sym (get_or-map-range_with_len f 0 BUCKETS k k 0 small (zero-add k)))

-- the head of the bucket of a number, in the state
head_is : (s : StateValue) (t : Table) (layouts : Layouts) (bucket : ℕ) → ShowsLists s t layouts → bucket < BUCKETS → slice_index s.heads bucket ≡ head_of (bucket_list layouts s.group bucket)
head_is s t layouts bucket shows small =
    chain_head (next_at s) (slice_index s.heads bucket) (list_at (layout_of layouts s.group).buckets bucket) (shows.buckets.each bucket small).chain
    ∙ ap head_of (sym (list_is layouts s.group bucket))

-- what holds of a number of a bucket
abbrev own_of : Layouts → ℕ → ℕ → List ℕ
own_of layouts group agino = bucket_list layouts group (agino % BUCKETS)

layout_inside : (s : StateValue) (t : Table) (layouts : Layouts) → ShowsLists s t layouts → IsGroupOf s t layouts → s.group < length layouts
layout_inside s t layouts shows is = omega (arith, shows.inside, is.layouts_of.groups)

bucket_inside : (s : StateValue) (t : Table) (layouts : Layouts) (agino : ℕ) → ShowsLists s t layouts → IsGroupOf s t layouts → agino % BUCKETS < length (layout_of layouts s.group).buckets
bucket_inside s t layouts agino shows is = let small : agino % BUCKETS < BUCKETS = omega arith in omega (arith, is.layouts_of.lists s.group shows.inside, small)

-- ---- an inode is put first

pub absent_in : (s : StateValue) (t : Table) (layouts : Layouts) (agino : ℕ) → ShowsLists s t layouts → IsGroupOf s t layouts → is_unlinked (inode_in (group_at t s.group) agino) ≡ false
    → Contains (own_list (layout_of layouts s.group).buckets agino) agino → ⊥
absent_in s t layouts agino shows is linked listed =
    let some = times_of_member (own_of layouts s.group agino) agino (subst (λ (l : List ℕ). Contains l agino) (sym (list_is layouts s.group (agino % BUCKETS))) listed) in
    omega (arith, some, absent_own s t layouts is shows.inside agino linked)

pub relinks_put : (s : StateValue) (t : Table) (layouts : Layouts) (agino head : ℕ) (q : Pointers) → ShowsLists s t layouts → IsGroupOf s t layouts
    → Puts (pointers_of s) q agino (layout_of layouts s.group).buckets → head ≡ slice_index q.heads (agino % BUCKETS)
    → Relinks s t layouts (put_in layouts s.group agino) agino (Some (record { bucket = agino % BUCKETS; agino = head })) None
relinks_put s t layouts agino head q shows is puts at =
    let b : ℕ = agino % BUCKETS in
    let lists : List (List ℕ) = (layout_of layouts s.group).buckets in
    let small : b < length s.heads = let low : agino % BUCKETS < BUCKETS = omega arith in omega (arith, low, shows.buckets.heads) in
    let inside = layout_inside s t layouts shows is in
    let own : head ≡ agino = at ∙ ap (λ (hs : List ℕ). slice_index hs b) puts.heads ∙ get_or-set_same s.heads b agino 0 small in
    record {
      heads = ap (λ (n : ℕ). slice_set s.heads b n) own ∙ sym puts.heads
          ∙ heads_are q (put_first lists agino) (put_in layouts s.group agino) s.group puts.lists_after (λ bucket. own_buckets layouts s.group (put_first lists agino) bucket inside);
      apart = λ other ne before. next_apart layouts s.group b other (agino ∷ own_list lists agino) inside (bucket_inside s t layouts agino shows is)
          (next-later agino (own_list lists agino) other (λ e. ne (sym e)) ∙ ap (λ (l : List ℕ). next_in l other) (sym (list_is layouts s.group b)));
      before = tt;
    }

pub next_put : (s : StateValue) (t : Table) (layouts : Layouts) (agino : ℕ) (q : Pointers) → ShowsLists s t layouts → IsGroupOf s t layouts
    → Puts (pointers_of s) q agino (layout_of layouts s.group).buckets → q.next agino ≡ next_of (put_in layouts s.group agino) s.group agino
next_put s t layouts agino q shows is puts =
    let b : ℕ = agino % BUCKETS in
    let lists : List (List ℕ) = (layout_of layouts s.group).buckets in
    let small : b < BUCKETS = omega arith in
    puts.own ∙ head_is s t layouts b shows small
    ∙ ap head_of (list_is layouts s.group b)
    ∙ sym (next-here agino (own_list lists agino) agino refl)
    ∙ ap (λ (l : List ℕ). next_in l agino) (sym (list_here layouts s.group b (agino ∷ own_list lists agino) (layout_inside s t layouts shows is) (bucket_inside s t layouts agino shows is)))

-- ---- an inode is taken out

pub present_in : (s : StateValue) (t : Table) (layouts : Layouts) (agino : ℕ) → ShowsLists s t layouts → IsGroupOf s t layouts → is_unlinked (inode_in (group_at t s.group) agino) ≡ true
    → Contains (own_list (layout_of layouts s.group).buckets agino) agino
present_in s t layouts agino shows is unlinked =
    subst (λ (l : List ℕ). Contains l agino) (list_is layouts s.group (agino % BUCKETS)) (listed_own s t layouts is shows.inside agino unlinked)

-- what the laws on lists say of what stands before an inode and behind it
pub record ListLaws : Type 0 where
  pub one_before : (members : List ℕ) (agino first second : ℕ) → times agino members ≤ 1 → agino ≢ NO_INODE → next_in members first ≡ agino → next_in members second ≡ agino → first ≡ second
  pub none_before : (members : List ℕ) (agino other : ℕ) → times agino members ≤ 1 → agino ≢ NO_INODE → head_of members ≡ agino → next_in members other ≢ agino
  pub not_itself : (members : List ℕ) (agino : ℕ) → times agino members ≤ 1 → agino ≢ NO_INODE → next_in members agino ≢ agino
  pub others_stay : (members : List ℕ) (agino other : ℕ) → other ≢ agino → next_in members other ≢ agino → next_in (without members agino) other ≡ next_in members other

no_mark : (s : StateValue) (t : Table) (layouts : Layouts) (agino : ℕ) → ShowsLists s t layouts → is_unlinked (inode_in (group_at t s.group) agino) ≡ true → agino ≢ NO_INODE
no_mark s t layouts agino shows unlinked e = let low = shows.low agino (unlinked_some (inode_in (group_at t s.group) agino) unlinked) in omega (arith, low, e)

once_own : (s : StateValue) (t : Table) (layouts : Layouts) (agino : ℕ) → ShowsLists s t layouts → IsGroupOf s t layouts → times agino (own_of layouts s.group agino) ≤ 1
once_own s t layouts agino shows is = let small : agino % BUCKETS < BUCKETS = omega arith in once_in s t layouts is shows.inside (agino % BUCKETS) small agino

pub next_taken : (s : StateValue) (t : Table) (layouts : Layouts) (agino : ℕ) (q : Pointers) → ShowsLists s t layouts → IsGroupOf s t layouts
    → Removes (pointers_of s) q agino (layout_of layouts s.group).buckets → q.next agino ≡ next_of (taken_from layouts s.group agino) s.group agino
next_taken s t layouts agino q shows is removes =
    let b : ℕ = agino % BUCKETS in
    let own : List ℕ = own_list (layout_of layouts s.group).buckets agino in
    removes.own ∙ sym (next_of_none (without own agino) agino (times_gone own agino))
    ∙ ap (λ (l : List ℕ). next_in l agino) (sym (list_here layouts s.group b (without own agino) (layout_inside s t layouts shows is) (bucket_inside s t layouts agino shows is)))

-- another number keeps its next pointer, unless it points at the inode
taken_apart : ListLaws → (s : StateValue) (t : Table) (layouts : Layouts) (agino other : ℕ) → ShowsLists s t layouts → IsGroupOf s t layouts → other ≢ agino
    → next_in (own_of layouts s.group agino) other ≢ agino → next_of (taken_from layouts s.group agino) s.group other ≡ next_of layouts s.group other
taken_apart l s t layouts agino other shows is ne differs =
    let b : ℕ = agino % BUCKETS in
    let own : List ℕ = own_list (layout_of layouts s.group).buckets agino in
    let same : next_in own other ≡ next_in (own_of layouts s.group agino) other = ap (λ (l : List ℕ). next_in l other) (sym (list_is layouts s.group b)) in
    next_apart layouts s.group b other (without own agino) (layout_inside s t layouts shows is) (bucket_inside s t layouts agino shows is)
    (l.others_stay own agino other ne (λ e. differs (sym same ∙ e)) ∙ same)

heads_taken : (s : StateValue) (t : Table) (layouts : Layouts) (agino : ℕ) (q : Pointers) → ShowsLists s t layouts → IsGroupOf s t layouts
    → Removes (pointers_of s) q agino (layout_of layouts s.group).buckets
    → q.heads ≡ map (λ bucket. head_of (bucket_list (taken_from layouts s.group agino) s.group bucket)) (range_with_len 0 BUCKETS)
heads_taken s t layouts agino q shows is removes =
    let lists : List (List ℕ) = (layout_of layouts s.group).buckets in
    heads_are q (take_out lists agino) (taken_from layouts s.group agino) s.group removes.lists_after
    (λ bucket. own_buckets layouts s.group (take_out lists agino) bucket (layout_inside s t layouts shows is))

-- it was the head
pub is_first : (s : StateValue) (t : Table) (layouts : Layouts) (agino : ℕ) → ShowsLists s t layouts → slice_index s.heads (agino % BUCKETS) ≡ agino → head_of (own_of layouts s.group agino) ≡ agino
is_first s t layouts agino shows first = let small : agino % BUCKETS < BUCKETS = omega arith in sym (head_is s t layouts (agino % BUCKETS) shows small) ∙ first

pub relinks_first : ListLaws → (s : StateValue) (t : Table) (layouts : Layouts) (agino head : ℕ) (q : Pointers) → ShowsLists s t layouts → IsGroupOf s t layouts
    → is_unlinked (inode_in (group_at t s.group) agino) ≡ true → Removes (pointers_of s) q agino (layout_of layouts s.group).buckets
    → slice_index s.heads (agino % BUCKETS) ≡ agino → head ≡ slice_index q.heads (agino % BUCKETS)
    → Relinks s t layouts (taken_from layouts s.group agino) agino (Some (record { bucket = agino % BUCKETS; agino = head })) None
relinks_first l s t layouts agino head q shows is unlinked removes first at =
    let b : ℕ = agino % BUCKETS in
    let small : b < length s.heads = let low : agino % BUCKETS < BUCKETS = omega arith in omega (arith, low, shows.buckets.heads) in
    let heads : q.heads ≡ slice_set s.heads b (next_at s agino) =
    removes.heads ∙ cond-true (eqb (slice_index s.heads b) agino) (slice_set s.heads b (next_at s agino)) s.heads (eq-eqb (slice_index s.heads b) agino first) in
    let own : head ≡ next_at s agino = at ∙ ap (λ (hs : List ℕ). slice_index hs b) heads ∙ get_or-set_same s.heads b (next_at s agino) 0 small in
    record {
      heads = ap (λ (n : ℕ). slice_set s.heads b n) own ∙ sym heads ∙ heads_taken s t layouts agino q shows is removes;
      apart = λ other ne before. taken_apart l s t layouts agino other shows is ne
          (l.none_before (own_of layouts s.group agino) agino other (once_own s t layouts agino shows is) (no_mark s t layouts agino shows unlinked) (is_first s t layouts agino shows first));
      before = tt;
    }

-- it stands behind another one
pub record StandsBehind (s : StateValue) (t : Table) (layouts : Layouts) (agino before : ℕ) : Type 0 where
  pub low : before < GROUP_NUMBERS
  pub own : before % BUCKETS ≡ agino % BUCKETS
  pub listed : Contains (own_list (layout_of layouts s.group).buckets agino) before
  pub points : next_in (own_of layouts s.group agino) before ≡ agino
  pub inode : Inode
  pub row : Row
  pub found : inode_in (group_at t s.group) before ≡ Some inode
  pub used : inode.row ≡ Some row

record IsUsed (o : Option Inode) : Type 0 where
  inode : Inode
  row : Row
  found : o ≡ Some inode
  used : inode.row ≡ Some row

used_row : (inode : Inode) (r : Option Row) → inode.row ≡ r → is_unlinked_row r ≡ true → IsUsed (Some inode)
used_row inode None e unlinked = cc
used_row inode (Some row) e unlinked = record { inode = inode; row = row; found = refl; used = e }

used_by : (o : Option Inode) → is_unlinked o ≡ true → IsUsed o
used_by None unlinked = cc
used_by (Some inode) unlinked = used_row inode inode.row refl unlinked

stands_behind : (s : StateValue) (t : Table) (layouts : Layouts) (agino before : ℕ) → ShowsLists s t layouts → IsGroupOf s t layouts
    → IsBefore (pointers_of s) (layout_of layouts s.group).buckets agino before → StandsBehind s t layouts agino before
stands_behind s t layouts agino before shows is led =
    let small : agino % BUCKETS < BUCKETS = omega arith in
    let member = member_is s t layouts is shows.inside (agino % BUCKETS) before small (subst (λ (l : List ℕ). Contains l before) (sym (list_is layouts s.group (agino % BUCKETS))) led.listed) in
    let row = used_by (inode_in (group_at t s.group) before) member.unlinked in
    record {
      low = shows.low before (unlinked_some (inode_in (group_at t s.group) before) member.unlinked);
      own = member.own;
      listed = led.listed;
      points = ap (λ (b : ℕ). next_in (bucket_list layouts s.group b) before) (sym member.own) ∙ sym (shows.nexts before) ∙ led.points;
      inode = row.inode;
      row = row.row;
      found = row.found;
      used = row.used;
    }

-- an inode that stands before another one is another one
before_apart : ListLaws → (s : StateValue) (t : Table) (layouts : Layouts) (agino before : ℕ) → ShowsLists s t layouts → IsGroupOf s t layouts
    → is_unlinked (inode_in (group_at t s.group) agino) ≡ true → StandsBehind s t layouts agino before → before ≢ agino
before_apart l s t layouts agino before shows is unlinked behind e =
    l.not_itself (own_of layouts s.group agino) agino (once_own s t layouts agino shows is) (no_mark s t layouts agino shows unlinked)
    (ap (λ (n : ℕ). next_in (own_of layouts s.group agino) n) (sym e) ∙ behind.points)

pub next_before : ListLaws → (s : StateValue) (t : Table) (layouts : Layouts) (agino before : ℕ) (q : Pointers) → ShowsLists s t layouts → IsGroupOf s t layouts
    → is_unlinked (inode_in (group_at t s.group) agino) ≡ true → Removes (pointers_of s) q agino (layout_of layouts s.group).buckets → StandsBehind s t layouts agino before
    → q.next before ≡ next_of (taken_from layouts s.group agino) s.group before
next_before l s t layouts agino before q shows is unlinked removes behind =
    let b : ℕ = agino % BUCKETS in
    let lists : List (List ℕ) = (layout_of layouts s.group).buckets in
    let own : List ℕ = own_list lists agino in
    let small : agino % BUCKETS < BUCKETS = omega arith in
    let apart = before_apart l s t layouts agino before shows is unlinked behind in
    let there : list_at (take_out lists agino) b ≡ without own agino = get_or-set_same lists b (without own agino) [] (bucket_inside s t layouts agino shows is) in
    let listed : Contains (list_at (take_out lists agino) b) before = subst (λ (l : List ℕ). Contains l before) (sym there) (member_without own agino before apart behind.listed) in
    chain_next q.next (slice_index q.heads b) (list_at (take_out lists agino) b) before (removes.lists_after.each b small).chain listed
    ∙ ap (λ (l : List ℕ). next_in l before) (sym (own_buckets layouts s.group (take_out lists agino) b (layout_inside s t layouts shows is)))
    ∙ ap (λ (n : ℕ). next_in (bucket_list (taken_from layouts s.group agino) s.group n) before) (sym behind.own)

pub relinks_behind : ListLaws → (s : StateValue) (t : Table) (layouts : Layouts) (agino before : ℕ) (prior : Prior) (q : Pointers) → ShowsLists s t layouts → IsGroupOf s t layouts
    → is_unlinked (inode_in (group_at t s.group) agino) ≡ true → Removes (pointers_of s) q agino (layout_of layouts s.group).buckets
    → (behind : StandsBehind s t layouts agino before) → prior.agino ≡ before
    → prior.core ≡ (incore_for (taken_from layouts s.group agino) s.group before behind.inode).core
    → prior.sector.bytes ≡ incore_encoding s.group s.geometry.uuid before (incore_for (taken_from layouts s.group agino) s.group before behind.inode)
    → Relinks s t layouts (taken_from layouts s.group agino) agino None (Some prior)
relinks_behind l s t layouts agino before prior q shows is unlinked removes behind own_is core sector =
    let b : ℕ = agino % BUCKETS in
    let others : Layouts = taken_from layouts s.group agino in
    let own : List ℕ = own_of layouts s.group agino in
    let once = once_own s t layouts agino shows is in
    let some = no_mark s t layouts agino shows unlinked in
    let later : slice_index s.heads b ≢ agino = λ first. l.none_before own agino before once some (is_first s t layouts agino shows first) behind.points in
    let heads : q.heads ≡ s.heads =
    removes.heads ∙ cond-false (eqb (slice_index s.heads b) agino) (slice_set s.heads b (next_at s agino)) s.heads (ne_eqb (slice_index s.heads b) agino later) in
    let apart = before_apart l s t layouts agino before shows is unlinked behind in
    record {
      heads = sym heads ∙ heads_taken s t layouts agino q shows is removes;
      apart = λ other ne away. taken_apart l s t layouts agino other shows is ne (λ e. away (l.one_before own agino other before once some e behind.points ∙ sym own_is));
      before = record {
        other = λ e. apart (sym own_is ∙ e);
        points = ap (λ (n : ℕ). next_of layouts s.group n) own_is ∙ ap (λ (n : ℕ). next_in (bucket_list layouts s.group n) before) behind.own ∙ behind.points;
        inode = behind.inode;
        found = ap (λ (n : ℕ). inode_in (group_at t s.group) n) own_is ∙ behind.found;
        core = core ∙ ap (λ (n : ℕ). (incore_for others s.group n behind.inode).core) (sym own_is);
        sector = sector ∙ ap (λ (n : ℕ). incore_encoding s.group s.geometry.uuid n (incore_for others s.group n behind.inode)) (sym own_is);
      };
    }

-- ---- the pointers of a state before any is set

abbrev pub pointing_at : StateValue → PointingValue
pointing_at s = record { state = s; heads = s.heads; first = None; second = None }

pub buckets_at : (s : StateValue) (t : Table) (layouts : Layouts) (p : PointingValue) → ShowsLists s t layouts → p ≡ pointing_at s → AreBuckets (pointers_set p) (layout_of layouts s.group).buckets
buckets_at s t layouts p shows same = subst (λ (v : PointingValue). AreBuckets (pointers_set v) (layout_of layouts s.group).buckets) (sym same) shows.buckets

pub puts_at : (s : StateValue) (p : PointingValue) (q : Pointers) (agino : ℕ) (lists : List (List ℕ)) → p ≡ pointing_at s → Puts (pointers_set p) q agino lists → Puts (pointers_of s) q agino lists
puts_at s p q agino lists same puts = subst (λ (v : PointingValue). Puts (pointers_set v) q agino lists) same puts

pub removes_at : (s : StateValue) (p : PointingValue) (q : Pointers) (agino : ℕ) (lists : List (List ℕ)) → p ≡ pointing_at s → Removes (pointers_set p) q agino lists
    → Removes (pointers_of s) q agino lists
removes_at s p q agino lists same removes = subst (λ (v : PointingValue). Removes (pointers_set v) q agino lists) same removes

pub behind_at : (s : StateValue) (t : Table) (layouts : Layouts) (p : PointingValue) (agino before : ℕ) → ShowsLists s t layouts → IsGroupOf s t layouts → p ≡ pointing_at s
    → IsLedToBy (pointers_set p) (layout_of layouts s.group).buckets agino (Some before) → StandsBehind s t layouts agino before
behind_at s t layouts p agino before shows is same led =
    stands_behind s t layouts agino before shows is (subst (λ (v : PointingValue). IsLedToBy (pointers_set v) (layout_of layouts s.group).buckets agino (Some before)) same led)
