use Rattle.std.proofs.Common.{◌≡◌, Some, ap, subst, ◌∙◌}
use Rattle.std.specs.Prelude.{IsSome, is_some, nat_eq}
use Rattle.std.specs.Map.{lookup}
use Rattle.inode_cache.specs.declared.inode.Kept.{Kept}
use Rattle.inode_cache.specs.Caches.{dirty, incore_at, is_dirty}
use Rattle.inode_cache.specs.Inodes.{IsIncore}
use Rattle.inode_cache.proofs.Maps.{and_holds, changed_cache, inodes_put, lent_some, lent_value, seen, small_number, some_from}
use Rattle.inode_cache.proofs.Told.{some_and_holds, some_and_some, told_kept, told_put}
use Rattle.inode_cache.proofs.cache.InodeCache.change_core.Goals as goal

pub unwrap-kept-requires : goal.unwrap-kept-requires
unwrap-kept-requires c =
    lent_some c.get_mut.result _ c.get_mut.ensures.value
    (subst IsSome (seen c.args.self.now c.self.inside.group c.self.inside.uuid c.self.inside.inodes.entries _ c.self.view_is c.args.agino) (some_and_some (incore_at c.args.self.now c.args.agino) (λ kept. IsIncore (record { core = c.args.core; blocks = kept.inode.blocks })) c.requires.inode))

pub insert-requires : goal.insert-requires
insert-requires c =
    small_number c.self.inside.inodes.entries c.args.agino
    (subst IsSome (seen c.args.self.now c.self.inside.group c.self.inside.uuid c.self.inside.inodes.entries _ c.self.view_is c.args.agino) (some_and_some (incore_at c.args.self.now c.args.agino) (λ kept. IsIncore (record { core = c.args.core; blocks = kept.inode.blocks })) c.requires.inode)) c.self.invariant.0

pub invariant_of-self : goal.invariant_of-self
invariant_of-self c =
    let es = c.self.inside.inodes.entries in
    let kept : Kept = c.unwrap-kept.result.now in
    let new : Kept = dirty (record { core = c.args.core; blocks = kept.inode.blocks }) in
    let fs = (c.get_mut.follows.lender new).entries in
    let at : lookup (nat_eq c.args.agino) es ≡ Some kept = lent_value c.get_mut.result c.unwrap-kept.result _ c.unwrap-kept.ensures c.get_mut.ensures.value in
    let there = some_from _ kept at in
    let same = ((c.get_mut.follows.holds new).3 there).0 in (
      inodes_put es fs c.args.agino new same
          (some_and_holds (incore_at c.args.self.now c.args.agino) kept (λ k. IsIncore (record { core = c.args.core; blocks = k.inode.blocks })) (seen c.args.self.now c.self.inside.group c.self.inside.uuid c.self.inside.inodes.entries _ c.self.view_is c.args.agino ∙ at) c.requires.inode)
          (small_number es c.args.agino there c.self.invariant.0) c.self.invariant.0,
      c.self.invariant.1,
      told_kept is_some es fs c.self.inside.in_core c.args.agino (Some new) c.self.invariant.2 same (ap is_some at),
      told_put is_dirty es fs c.self.inside.dirty _ c.args.agino (Some new) c.self.invariant.3 same c.insert.ensures.here c.insert.ensures.others,
    )

pub returns : goal.returns
returns c =
    let kept : Kept = c.unwrap-kept.result.now in
    let new : Kept = dirty (record { core = c.args.core; blocks = kept.inode.blocks }) in
    let at : lookup (nat_eq c.args.agino) c.self.inside.inodes.entries ≡ Some kept = lent_value c.get_mut.result c.unwrap-kept.result _ c.unwrap-kept.ensures c.get_mut.ensures.value in
    let holds = c.get_mut.follows.holds new in
    and_holds (incore_at c.args.self.now c.args.agino) kept _ (seen c.args.self.now c.self.inside.group c.self.inside.uuid c.self.inside.inodes.entries _ c.self.view_is c.args.agino ∙ at)
    (changed_cache c.args.self.now c.self.inside.group c.self.inside.uuid c.self.inside.inodes.entries (c.get_mut.follows.lender new).entries _ _ c.args.agino new c.self.view_is
    holds.6 (holds.3 (some_from _ kept at)).0)
