use Rattle.std.proofs.Common.{◌≡◌, ℕ, Option, sym, ◌∙◌, ap, subst, arith}
use Rattle.std.specs.Prelude.{IsSomeAnd}
use Rattle.inode_cache.specs.declared.inode.Kept.{Kept}
use Rattle.inode_cache.specs.Caches.{Cache, clean, dirty, with_incore}
use Rattle.inode_cache.specs.Inodes.{IsIncore}
use Rattle.group_ops.proofs.Applying.{dirty_put, dirty_spare, installed_kept, was_ok}
use Rattle.group_ops.proofs.in_core.put_dirty.Goals as goal

pub change_core-requires : goal.change_core-requires
change_core-requires c =
    let is : c.install.new.self ≡ with_incore c.args.agino (clean c.args.inode) c.args.cache.now c.install.new.self.spare =
    was_ok _ c.install.result (c.install.ensures.succeeds c.requires.room) c.install.ensures.installed in
    let at = installed_kept c.args.cache.now c.install.new.self c.args.agino c.install.new.self.spare c.args.inode is in
    record {
      inode = subst (λ (o : Option Kept). IsSomeAnd o (λ kept. IsIncore (record { core = c.args.inode.core; blocks = kept.inode.blocks }))) (sym at) c.requires.inode;
    }

pub returns-then-has-clause-put : goal.returns-then-has-clause-put
returns-then-has-clause-put c =
    let spare = ap (λ (v : Cache). v.spare) c.change.ensures in
    c.change.ensures ∙ ap (λ (n : ℕ). with_incore c.args.agino (dirty c.args.inode) c.args.cache.now n) (sym spare)

pub returns-clause-put : goal.returns-clause-put
returns-clause-put c =
    let is : c.install.new.self ≡ with_incore c.args.agino (clean c.args.inode) c.args.cache.now c.install.new.self.spare =
    was_ok _ c.install.result (c.install.ensures.succeeds c.requires.room) c.install.ensures.installed in
    dirty_put c.args.cache.now c.install.new.self c.change_core.new.self c.args.agino c.args.inode.core c.args.inode.blocks is c.change_core.ensures

pub returns-clause-spare : goal.returns-clause-spare
returns-clause-spare c =
    let is : c.install.new.self ≡ with_incore c.args.agino (clean c.args.inode) c.args.cache.now c.install.new.self.spare =
    was_ok _ c.install.result (c.install.ensures.succeeds c.requires.room) c.install.ensures.installed in
    let same = dirty_spare c.args.cache.now c.install.new.self c.change_core.new.self c.args.agino c.args.inode.core c.args.inode.blocks is c.change_core.ensures in
    omega (arith, same, c.install.ensures.spare)
