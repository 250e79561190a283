use Rattle.std.proofs.Common.{◌∙◌, ℕ, List}
use Rattle.life_limits.specs.declared.TheConstants.{GROUP_NUMBERS}
use Rattle.sound_image.specs.Encoding.{layout_of}
use Rattle.group_ops.specs.Pointers.{pointers_set}
use Rattle.group_ops.proofs.Relinking.{absent_in, buckets_at, next_put, puts_at, relinks_put}
use Rattle.group_ops.proofs.Shown.{numbers_have}
use Rattle.group_ops.proofs.state.GroupState.put_first.Goals as goal

pub put-requires-clause-placed : goal.put-requires-clause-placed
put-requires-clause-placed c = numbers_have GROUP_NUMBERS c.args.agino c.requires.low

pub put-requires-clause-absent : goal.put-requires-clause-absent
put-requires-clause-absent c =
    let s = c.args.self.now in
    let w = c.requires.elsewhere in
    let shows = c.pointers_show_lists.ensures w.0 w.1 w.2 in
    ((layout_of w.1 s.group).buckets, buckets_at s w.0 w.1 c.pointing-pointing.result shows c.pointing-pointing.ensures, absent_in s w.0 w.1 c.args.agino shows w.2 w.3)

pub next-requires : goal.next-requires
next-requires c = numbers_have GROUP_NUMBERS c.args.agino c.requires.low

pub returns-clause-pointers : goal.returns-clause-pointers
returns-clause-pointers c t layouts is linked =
    let s = c.args.self.now in
    let p = c.pointing-pointing in
    let q = pointers_set c.put.new.n in
    let shows = c.pointers_show_lists.ensures t layouts is in
    let lists : List (List ℕ) = (layout_of layouts s.group).buckets in
    let puts = puts_at s p.result q c.args.agino lists p.ensures (c.put.ensures.put lists (buckets_at s t layouts p.result shows p.ensures)) in
    relinks_put s t layouts c.args.agino c.head.result q shows is puts c.head.ensures

pub returns-clause-next : goal.returns-clause-next
returns-clause-next c t layouts is linked =
    let s = c.args.self.now in
    let p = c.pointing-pointing in
    let q = pointers_set c.put.new.n in
    let shows = c.pointers_show_lists.ensures t layouts is in
    let lists : List (List ℕ) = (layout_of layouts s.group).buckets in
    let puts = puts_at s p.result q c.args.agino lists p.ensures (c.put.ensures.put lists (buckets_at s t layouts p.result shows p.ensures)) in
    c.next.ensures ∙ next_put s t layouts c.args.agino q shows is puts
