use Rattle.std.proofs.Common.{◌≡◌, ◌++◌, ◌≤◌, ◌∷◌, ◌∙◌, [], ℕ, List, length, get_or, refl, ap, sym}
use Rattle.std.specs.Prelude.{map}
use Rattle.std.proofs.lemmas.List.{append-nil, take_all}
use Rattle.life_table.specs.declared.key.Key.{Key}
use Rattle.life_table.specs.Table.{group_at, inode_in}
use Rattle.sound_image.specs.Encoding.{bucket_list, layout_of}
use Rattle.group_ops.specs.Orphans.{key_in}
use Rattle.group_ops.proofs.OrphanKeys.{keys_more, listed_at}
use Rattle.group_ops.proofs.Relinking.{buckets_at}
use Rattle.group_ops.proofs.Shown.{list_is, member_is, unlinked_some}
use Rattle.group_ops.proofs.state.GroupState.add_orphans.Goals as goal

pub list-requires-clause-lists : goal.list-requires-clause-lists
list-requires-clause-lists c =
    let s = c.args.self.now in
    let w = c.requires.group in
    ((layout_of w.1 s.group).buckets, buckets_at s w.0 w.1 c.pointing.result (c.pointers_show_lists.ensures w.0 w.1 w.2) c.pointing.ensures)

pub orphan_key-requires : goal.orphan_key-requires
orphan_key-requires c =
    let s = c.args.self.now in
    let w = c.requires.group in
    let shows = c.pointers_show_lists.ensures w.0 w.1 w.2 in
    let xs : List ℕ = c.deref-agino-items.result.now in
    let x : ℕ = get_or xs c.loop-agino.agino-index 0 in
    let members : List ℕ = bucket_list w.1 s.group c.args.bucket in
    let items : xs ≡ members =
    c.deref-agino-items.ensures.value ∙ c.in_ok-members.ensures (layout_of w.1 s.group).buckets (buckets_at s w.0 w.1 c.pointing.result shows c.pointing.ensures)
    ∙ sym (list_is w.1 s.group c.args.bucket) in
    let member = member_is s w.0 w.1 w.2 shows.inside c.args.bucket x c.requires.bucket (listed_at xs members c.loop-agino.agino-index c.loop-agino-test.true items) in
    record {
      low = shows.low x (unlinked_some (inode_in (group_at w.0 s.group) x) member.unlinked);
      unlinked = (w.0, w.1, w.2, member.unlinked);
    }

pub loop-agino-init : goal.loop-agino-init
loop-agino-init c t layouts is = sym (append-nil c.args.keys.now.items)

pub loop-agino-preserved : goal.loop-agino-preserved
loop-agino-preserved c t layouts is =
    let s = c.args.self.now in
    let f : ℕ → Key = key_in s.group (group_at t s.group) in
    let xs : List ℕ = c.deref-agino-items.result.now in
    let i : ℕ = c.loop-agino.agino-index in
    c.in_ok-push.ensures.items
    ∙ ap (λ (k : Key). c.loop-agino.keys.items ++ k ∷ []) (c.orphan_key.ensures t layouts is)
    ∙ ap (λ (l : List Key). l ++ f (get_or xs i 0) ∷ []) (c.loop-agino.invariant t layouts is)
    ∙ keys_more f xs i (get_or xs i 0) c.args.keys.now.items c.loop-agino-test.true refl

pub returns : goal.returns
returns c t layouts is =
    let s = c.args.self.now in
    let f : ℕ → Key = key_in s.group (group_at t s.group) in
    let xs : List ℕ = c.deref-agino-items.result.now in
    let shows = c.pointers_show_lists.ensures t layouts is in
    let items : xs ≡ bucket_list layouts s.group c.args.bucket =
    c.deref-agino-items.ensures.value ∙ c.in_ok-members.ensures (layout_of layouts s.group).buckets (buckets_at s t layouts c.pointing.result shows c.pointing.ensures)
    ∙ sym (list_is layouts s.group c.args.bucket) in
    let past : length xs ≤ c.loop-agino.agino-index = c.loop-agino-test.false in
    c.loop-agino.invariant t layouts is ∙ ap (λ (l : List ℕ). c.args.keys.now.items ++ map f l) (take_all c.loop-agino.agino-index xs past ∙ items)
