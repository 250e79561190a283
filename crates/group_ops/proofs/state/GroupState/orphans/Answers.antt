use Rattle.std.proofs.Common.{◌≡◌, ◌++◌, ◌∙◌, ℕ, List, ap, arith, subst, sym}
use Rattle.life_limits.specs.declared.TheConstants.{BUCKETS}
use Rattle.life_table.specs.declared.key.Key.{Key}
use Rattle.life_table.specs.Table.{group_at}
use Rattle.group_ops.specs.Orphans.{AreOrphansOf, bucket_keys}
use Rattle.group_ops.proofs.OrphanKeys.{buckets_more, orphans_are, orphans_are_all}
use Rattle.group_ops.proofs.state.GroupState.orphans.Goals as goal

pub loop-bucket-preserved : goal.loop-bucket-preserved
loop-bucket-preserved c t layouts is =
    let s = c.args.self.now in
    let f : ℕ → List Key = bucket_keys layouts s.group (group_at t s.group) in
    c.in_ok-add_orphans.ensures t layouts is
    ∙ ap (λ (l : List Key). l ++ f c.loop-bucket.bucket) (c.loop-bucket.invariant t layouts is)
    ∙ sym (buckets_more f c.loop-bucket.bucket)

pub returns-clause-listed : goal.returns-clause-listed
returns-clause-listed c t layouts is =
    let s = c.args.self.now in
    let all : c.loop-bucket.bucket ≡ BUCKETS = omega arith in
    c.loop-bucket.invariant t layouts is ∙ orphans_are_all layouts s.group c.loop-bucket.bucket (group_at t s.group) all

pub returns-clause-rows : goal.returns-clause-rows
returns-clause-rows c t layouts is =
    let s = c.args.self.now in
    let all : c.loop-bucket.bucket ≡ BUCKETS = omega arith in
    let listed = c.loop-bucket.invariant t layouts is ∙ orphans_are_all layouts s.group c.loop-bucket.bucket (group_at t s.group) all in
    subst (AreOrphansOf t s.group) (sym listed) (orphans_are s t layouts (c.pointers_show_lists.ensures t layouts is) is)
