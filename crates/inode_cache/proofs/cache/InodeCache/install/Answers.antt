use Rattle.std.proofs.Common.{◌≡◌, ℕ, List, None, Some, ap, sym, subst, ◌∙◌}
use Rattle.std.specs.Prelude.{is_some, nat_eq}
use Rattle.std.specs.Map.{lookup}
use Rattle.inode_cache.specs.declared.inode.Kept.{Kept}
use Rattle.inode_cache.specs.Caches.{AreInodes, HasNumbers, clean, is_dirty}
use Rattle.inode_cache.proofs.Maps.{inodes_put, put_cache, seen}
use Rattle.inode_cache.proofs.Told.{told_kept, told_put}
use Rattle.inode_cache.proofs.cache.InodeCache.install.Goals as goal

pub invariant_of-self : goal.invariant_of-self
invariant_of-self c = (
  subst AreInodes (sym c.in_err-insert.ensures.err) c.self.invariant.0,
  c.self.invariant.1,
  subst (λ (es : List (ℕ × Kept)). HasNumbers is_some es c.self.inside.in_core) (sym c.in_err-insert.ensures.err) c.self.invariant.2,
  subst (λ (es : List (ℕ × Kept)). HasNumbers is_dirty es c.self.inside.dirty) (sym c.in_err-insert.ensures.err) c.self.invariant.3,
)

pub invariant_of-self-2 : goal.invariant_of-self-2
invariant_of-self-2 c =
    let new : Kept = clean (record { core = c.args.core; blocks = c.args.blocks }) in
    let es = c.self.inside.inodes.entries in
    let fs = c.insert.new.self.entries in
    let absent : lookup (nat_eq c.args.agino) es ≡ None = sym (seen c.args.self.now c.self.inside.group c.self.inside.uuid c.self.inside.inodes.entries _ c.self.view_is c.args.agino) ∙ c.requires.absent in (
      inodes_put es fs c.args.agino new c.in_ok-insert.ensures.updates.0 c.requires.inode c.requires.agino_small c.self.invariant.0,
      c.self.invariant.1,
      told_put is_some es fs c.self.inside.in_core _ c.args.agino (Some new) c.self.invariant.2 c.in_ok-insert.ensures.updates.0 c.insert-2.ensures.here c.insert-2.ensures.others,
      told_kept is_dirty es fs c.self.inside.dirty c.args.agino (Some new) c.self.invariant.3 c.in_ok-insert.ensures.updates.0 (ap is_dirty absent),
    )

pub returns-clause-installed : goal.returns-clause-installed
returns-clause-installed c =
    put_cache c.args.self.now c.self.inside.group c.self.inside.uuid c.self.inside.inodes.entries c.insert.new.self.entries _ _ c.args.agino (clean (record { core = c.args.core; blocks = c.args.blocks })) c.self.view_is c.in_ok-insert.ensures.updates.0
