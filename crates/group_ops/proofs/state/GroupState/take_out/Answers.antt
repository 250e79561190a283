use Rattle.std.proofs.Common.{◌∙◌, ℕ, List, None, subst}
use Rattle.life_limits.specs.declared.TheConstants.{GROUP_NUMBERS}
use Rattle.agi_buckets.specs.Buckets.{IsLedToBy}
use Rattle.encoded_changes.specs.Changes.{taken_from}
use Rattle.life_table.specs.Table.{group_at, inode_in}
use Rattle.sound_image.specs.Encoding.{layout_of}
use Rattle.group_ops.specs.Pointers.{PointingValue, pointers_set}
use Rattle.group_ops.specs.Telling.{HasRowAt}
use Rattle.group_ops.proofs.Relinking.{ListLaws, behind_at, buckets_at, is_first, next_before, next_taken, present_in, relinks_behind, relinks_first, removes_at}
use Rattle.group_ops.proofs.Shown.{numbers_have, unlinked_some}
use Rattle.group_ops.proofs.state.GroupState.take_out.Goals as goal

pub remove-before-requires-clause-present : goal.remove-before-requires-clause-present
remove-before-requires-clause-present c =
    let s = c.args.self.now in
    let w = c.requires.unlinked in
    let shows = c.pointers_show_lists.ensures w.0 w.1 w.2 in
    ((layout_of w.1 s.group).buckets, buckets_at s w.0 w.1 c.pointing-pointing.result shows c.pointing-pointing.ensures, present_in s w.0 w.1 c.args.agino shows w.2 w.3)

pub next-next-requires : goal.next-next-requires
next-next-requires c =
    let s = c.args.self.now in
    let w = c.requires.unlinked in
    numbers_have GROUP_NUMBERS c.args.agino ((c.pointers_show_lists.ensures w.0 w.1 w.2).low c.args.agino (unlinked_some (inode_in (group_at w.0 s.group) c.args.agino) w.3))

-- ---- it was the head

pub returns-in-None-clause-pointers : goal.returns-in-None-clause-pointers
returns-in-None-clause-pointers c t layouts is unlinked =
    let s = c.args.self.now in
    let p = c.pointing-pointing in
    let q = pointers_set c.remove-before.new.n in
    let shows = c.pointers_show_lists.ensures t layouts is in
    let lists : List (List ℕ) = (layout_of layouts s.group).buckets in
    let buckets = buckets_at s t layouts p.result shows p.ensures in
    let removes = removes_at s p.result q c.args.agino lists p.ensures (c.remove-before.ensures.removed lists buckets) in
    let first = subst (λ (v : PointingValue). IsLedToBy (pointers_set v) lists c.args.agino None) p.ensures (c.in-None.ensures.before lists buckets) in
    let laws = c.buckets_touch_pointers.ensures in
    relinks_first (record { one_before = laws.one_before; none_before = laws.none_before; not_itself = laws.not_itself; others_stay = laws.others_stay })
    s t layouts c.args.agino c.head.result q shows is unlinked removes first c.head.ensures

pub returns-in-None-clause-next : goal.returns-in-None-clause-next
returns-in-None-clause-next c t layouts is unlinked =
    let s = c.args.self.now in
    let p = c.pointing-pointing in
    let q = pointers_set c.remove-before.new.n in
    let shows = c.pointers_show_lists.ensures t layouts is in
    let lists : List (List ℕ) = (layout_of layouts s.group).buckets in
    let removes = removes_at s p.result q c.args.agino lists p.ensures (c.remove-before.ensures.removed lists (buckets_at s t layouts p.result shows p.ensures)) in
    c.next-next.ensures ∙ next_taken s t layouts c.args.agino q shows is removes

pub returns-in-None-clause-place : goal.returns-in-None-clause-place
returns-in-None-clause-place c t layouts is unlinked =
    let s = c.args.self.now in
    let p = c.pointing-pointing in
    let shows = c.pointers_show_lists.ensures t layouts is in
    let lists : List (List ℕ) = (layout_of layouts s.group).buckets in
    let first = subst (λ (v : PointingValue). IsLedToBy (pointers_set v) lists c.args.agino None) p.ensures (c.in-None.ensures.before lists (buckets_at s t layouts p.result shows p.ensures)) in
    is_first s t layouts c.args.agino shows first

-- ---- it stood behind another one

pub next-requires : goal.next-requires
next-requires c =
    let s = c.args.self.now in
    let w = c.requires.unlinked in
    let p = c.pointing-pointing in
    let shows = c.pointers_show_lists.ensures w.0 w.1 w.2 in
    let led = c.in-Some.ensures.before (layout_of w.1 s.group).buckets (buckets_at s w.0 w.1 p.result shows p.ensures) in
    numbers_have GROUP_NUMBERS c.in-Some.before (behind_at s w.0 w.1 p.result c.args.agino c.in-Some.before shows w.2 p.ensures led).low

pub with_next-requires : goal.with_next-requires
with_next-requires c =
    let s = c.args.self.now in
    let w = c.requires.unlinked in
    let p = c.pointing-pointing in
    let shows = c.pointers_show_lists.ensures w.0 w.1 w.2 in
    let led = c.in-Some.ensures.before (layout_of w.1 s.group).buckets (buckets_at s w.0 w.1 p.result shows p.ensures) in
    let behind = behind_at s w.0 w.1 p.result c.args.agino c.in-Some.before shows w.2 p.ensures led in
    record {
      low = behind.low;
      used = (w.0, w.1, behind.inode, behind.row, record { group = w.2; inode_there = behind.found; used = behind.used });
    }

pub returns-in-Some-clause-pointers : goal.returns-in-Some-clause-pointers
returns-in-Some-clause-pointers c t layouts is unlinked =
    let s = c.args.self.now in
    let p = c.pointing-pointing in
    let q = pointers_set c.remove-before.new.n in
    let b : ℕ = c.in-Some.before in
    let shows = c.pointers_show_lists.ensures t layouts is in
    let lists : List (List ℕ) = (layout_of layouts s.group).buckets in
    let buckets = buckets_at s t layouts p.result shows p.ensures in
    let removes = removes_at s p.result q c.args.agino lists p.ensures (c.remove-before.ensures.removed lists buckets) in
    let behind = behind_at s t layouts p.result c.args.agino b shows is p.ensures (c.in-Some.ensures.before lists buckets) in
    let given = c.buckets_touch_pointers.ensures in
    let laws : ListLaws = record { one_before = given.one_before; none_before = given.none_before; not_itself = given.not_itself; others_stay = given.others_stay } in
    let has : HasRowAt s b t layouts behind.inode behind.row = record { group = is; inode_there = behind.found; used = behind.used } in
    let points = c.next.ensures ∙ next_before laws s t layouts c.args.agino b q shows is unlinked removes behind in
    let core = c.with_next.ensures.core t layouts (taken_from layouts s.group c.args.agino) behind.inode behind.row has points in
    let sector = c.with_next.ensures.sector t layouts (taken_from layouts s.group c.args.agino) behind.inode behind.row has points in
    relinks_behind laws s t layouts c.args.agino b c.with_next.result q shows is unlinked removes behind c.with_next.ensures.agino core sector

pub returns-in-Some-clause-next : goal.returns-in-Some-clause-next
returns-in-Some-clause-next c t layouts is unlinked =
    let s = c.args.self.now in
    let p = c.pointing-pointing in
    let q = pointers_set c.remove-before.new.n in
    let shows = c.pointers_show_lists.ensures t layouts is in
    let lists : List (List ℕ) = (layout_of layouts s.group).buckets in
    let removes = removes_at s p.result q c.args.agino lists p.ensures (c.remove-before.ensures.removed lists (buckets_at s t layouts p.result shows p.ensures)) in
    c.next-next.ensures ∙ next_taken s t layouts c.args.agino q shows is removes
