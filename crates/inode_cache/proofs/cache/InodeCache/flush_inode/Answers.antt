use Rattle.std.proofs.Common.{◌≡◌, ℕ, Some, ap, refl, ◌∙◌}
use Rattle.std.specs.Prelude.{is_some, nat_eq}
use Rattle.std.specs.HashMap.{spare}
use Rattle.std.specs.Map.{lookup}
use Rattle.inode_cache.specs.declared.inode.Kept.{Kept}
use Rattle.inode_cache.specs.Caches.{clean, is_dirty}
use Rattle.inode_cache.proofs.Maps.{seen, lent_none, lent_value, some_from, inodes_same, inodes_put}
use Rattle.inode_cache.proofs.Told.{told_kept, told_put, told_same}
use Rattle.inode_cache.proofs.Flushes.{none_flushed, kept_flushed, clean_again, none_buffer, clean_buffer, dirty_buffer}
use Rattle.inode_cache.proofs.cache.InodeCache.flush_inode.Goals as goal

pub invariant_of-self : goal.invariant_of-self
invariant_of-self c =
    let same : (q : ℕ) → lookup (nat_eq q) c.get_mut.follows.lender-at-none.entries ≡ lookup (nat_eq q) c.self.inside.inodes.entries = λ q. ap (λ m. lookup (nat_eq q) m.entries) c.get_mut.follows.holds-at-none in (
      inodes_same c.self.inside.inodes.entries c.get_mut.follows.lender-at-none.entries same c.self.invariant.0,
      c.self.invariant.1,
      told_same is_some c.self.inside.inodes.entries c.get_mut.follows.lender-at-none.entries c.self.inside.in_core same c.self.invariant.2,
      told_same is_dirty c.self.inside.inodes.entries c.get_mut.follows.lender-at-none.entries c.self.inside.dirty same c.self.invariant.3,
    )

pub returns-in_default-clause-buffer : goal.returns-in_default-clause-buffer
returns-in_default-clause-buffer c =
    none_buffer c.args.self.now c.args.agino c.args.into.now.bytes (seen c.args.self.now c.self.inside.group c.self.inside.uuid c.self.inside.inodes.entries _ c.self.view_is c.args.agino ∙ lent_none c.get_mut.result _ c.in_default.is c.get_mut.ensures.value)

pub returns-in_default-clause-inode : goal.returns-in_default-clause-inode
returns-in_default-clause-inode c =
    none_flushed c.args.self.now c.self.inside.group c.self.inside.uuid c.self.inside.inodes.entries c.get_mut.follows.lender-at-none.entries _ _ c.args.agino c.self.view_is
    (ap (λ m. m.entries) c.get_mut.follows.holds-at-none) (ap (λ m. spare m) c.get_mut.follows.holds-at-none) (lent_none c.get_mut.result _ c.in_default.is c.get_mut.ensures.value)

pub invariant_of-self-then-not-kept : goal.invariant_of-self-then-not-kept
invariant_of-self-then-not-kept c =
    let there = lent_value c.get_mut.result c.in-Some.kept _ c.in-Some.is c.get_mut.ensures.value in
    let is = c.self.invariant.0 c.args.agino c.in-Some.kept.now there in
    let es = c.self.inside.inodes.entries in
    let fs = (c.get_mut.follows.lender c.in-Some.kept.now).entries in
    let same = ((c.get_mut.follows.holds c.in-Some.kept.now).3 (some_from _ c.in-Some.kept.now there)).0 in (
      inodes_put es fs c.args.agino c.in-Some.kept.now same is.0 is.1 c.self.invariant.0,
      c.self.invariant.1,
      told_kept is_some es fs c.self.inside.in_core c.args.agino (Some c.in-Some.kept.now) c.self.invariant.2 same (ap is_some there),
      told_kept is_dirty es fs c.self.inside.dirty c.args.agino (Some c.in-Some.kept.now) c.self.invariant.3 same (ap is_dirty there),
    )

pub returns-then-not-kept-clause-buffer : goal.returns-then-not-kept-clause-buffer
returns-then-not-kept-clause-buffer c =
    clean_buffer c.args.self.now c.args.agino c.args.into.now.bytes c.in-Some.kept.now (seen c.args.self.now c.self.inside.group c.self.inside.uuid c.self.inside.inodes.entries _ c.self.view_is c.args.agino ∙ lent_value c.get_mut.result c.in-Some.kept _ c.in-Some.is c.get_mut.ensures.value) c.if-not-kept.true

pub returns-then-not-kept-clause-inode : goal.returns-then-not-kept-clause-inode
returns-then-not-kept-clause-inode c =
    let there = lent_value c.get_mut.result c.in-Some.kept _ c.in-Some.is c.get_mut.ensures.value in
    let holds = c.get_mut.follows.holds c.in-Some.kept.now in
    kept_flushed c.args.self.now c.self.inside.group c.self.inside.uuid c.self.inside.inodes.entries (c.get_mut.follows.lender c.in-Some.kept.now).entries _ _ c.args.agino c.in-Some.kept.now c.in-Some.kept.now c.self.view_is
    (holds.3 (some_from _ c.in-Some.kept.now there)).0 holds.6 there (clean_again c.in-Some.kept.now c.if-not-kept.true)

pub write_inode-requires-clause-inode : goal.write_inode-requires-clause-inode
write_inode-requires-clause-inode c = (c.self.invariant.0 c.args.agino c.in-Some.kept.now (lent_value c.get_mut.result c.in-Some.kept _ c.in-Some.is c.get_mut.ensures.value)).0

pub write_inode-requires-clause-agino_small : goal.write_inode-requires-clause-agino_small
write_inode-requires-clause-agino_small c = (c.self.invariant.0 c.args.agino c.in-Some.kept.now (lent_value c.get_mut.result c.in-Some.kept _ c.in-Some.is c.get_mut.ensures.value)).1

pub remove-requires : goal.remove-requires
remove-requires c = (c.self.invariant.0 c.args.agino c.in-Some.kept.now (lent_value c.get_mut.result c.in-Some.kept _ c.in-Some.is c.get_mut.ensures.value)).1

pub invariant_of-self-2 : goal.invariant_of-self-2
invariant_of-self-2 c =
    let there = lent_value c.get_mut.result c.in-Some.kept _ c.in-Some.is c.get_mut.ensures.value in
    let is = c.self.invariant.0 c.args.agino c.in-Some.kept.now there in
    let new : Kept = clean c.in-Some.kept.now.inode in
    let es = c.self.inside.inodes.entries in
    let fs = (c.get_mut.follows.lender new).entries in
    let same = ((c.get_mut.follows.holds new).3 (some_from _ c.in-Some.kept.now there)).0 in (
      inodes_put es fs c.args.agino new same is.0 is.1 c.self.invariant.0,
      c.self.invariant.1,
      told_kept is_some es fs c.self.inside.in_core c.args.agino (Some new) c.self.invariant.2 same (ap is_some there),
      told_put is_dirty es fs c.self.inside.dirty _ c.args.agino (Some new) c.self.invariant.3 same c.remove.ensures.here c.remove.ensures.others,
    )

pub returns-clause-buffer : goal.returns-clause-buffer
returns-clause-buffer c =
    dirty_buffer c.args.self.now c.self.inside.group c.self.inside.uuid c.self.inside.inodes.entries _ c.args.agino c.args.into.now.bytes c.write_inode.new.into.bytes c.in-Some.kept.now c.self.view_is
    (seen c.args.self.now c.self.inside.group c.self.inside.uuid c.self.inside.inodes.entries _ c.self.view_is c.args.agino ∙ lent_value c.get_mut.result c.in-Some.kept _ c.in-Some.is c.get_mut.ensures.value) c.if-not-kept.false c.write_inode.ensures

pub returns-clause-inode : goal.returns-clause-inode
returns-clause-inode c =
    let there = lent_value c.get_mut.result c.in-Some.kept _ c.in-Some.is c.get_mut.ensures.value in
    let new : Kept = clean c.in-Some.kept.now.inode in
    let holds = c.get_mut.follows.holds new in
    kept_flushed c.args.self.now c.self.inside.group c.self.inside.uuid c.self.inside.inodes.entries (c.get_mut.follows.lender new).entries _ _ c.args.agino c.in-Some.kept.now new c.self.view_is
    (holds.3 (some_from _ c.in-Some.kept.now there)).0 holds.6 there refl
