use Rattle.std.proofs.Common.{◌≡◌, ◌∙◌, ℕ, ap, arith, subst, sym}
use Rattle.std.proofs.lemmas.Bool.{false≢true}
use Rattle.geometry.specs.declared.shape.Geometry.{Geometry}
use Rattle.geometry.specs.Places.{number_in}
use Rattle.inode_core.specs.Cores.{EncodesCore}
use Rattle.life_table.specs.Table.{group_at, inode_in}
use Rattle.group_ops.proofs.Repointed.{core_used, live_used, none_used, repointed, repointed_allowed, repointed_core, repointed_sector, sector_is}
use Rattle.group_ops.proofs.Seen.{has_fork}
use Rattle.group_ops.specs.Relinks.{next_of}
use Rattle.group_ops.proofs.state.GroupState.with_next.Goals as goal

pub unreachable-requires : goal.unreachable-requires
unreachable-requires c =
    let s = c.args.self.now in
    let w = c.requires.used in
    none_used w.1 s.group c.args.agino (inode_in (group_at w.0 s.group) c.args.agino) w.2 (c.in_default.ensures.told w.0 w.1 w.4.group) w.4.inode_there

pub write_core-requires-clause-allowed : goal.write_core-requires-clause-allowed
write_core-requires-clause-allowed c =
    let s = c.args.self.now in
    let w = c.requires.used in
    let core = c.in-Some.core in
    let used = core_used w.1 s.group c.args.agino core (inode_in (group_at w.0 s.group) c.args.agino) w.2 w.3 (c.in-Some.ensures.told w.0 w.1 w.4.group) w.4.inode_there w.4.used in
    repointed_allowed core c.args.next c.in-Some.ensures.allowed (live_used core w.2.generation (next_of w.1 s.group c.args.agino) w.3 used) (omega arith)

pub write_core-requires-clause-fork : goal.write_core-requires-clause-fork
write_core-requires-clause-fork c dead =
    let s = c.args.self.now in
    let w = c.requires.used in
    let core = c.in-Some.core in
    let used = core_used w.1 s.group c.args.agino core (inode_in (group_at w.0 s.group) c.args.agino) w.2 w.3 (c.in-Some.ensures.told w.0 w.1 w.4.group) w.4.inode_there w.4.used in
    absurd (false≢true (sym dead ∙ live_used core w.2.generation (next_of w.1 s.group c.args.agino) w.3 used))

pub returns-clause-core : goal.returns-clause-core
returns-clause-core c t layouts others inode row has points =
    let s = c.args.self.now in
    let core = c.in-Some.core in
    let used = core_used layouts s.group c.args.agino core (inode_in (group_at t s.group) c.args.agino) inode row (c.in-Some.ensures.told t layouts has.group) has.inode_there has.used in
    repointed_core layouts others s.group c.args.agino c.args.next core inode row used has.used points

pub returns-clause-sector : goal.returns-clause-sector
returns-clause-sector c t layouts others inode row has points =
    let s = c.args.self.now in
    let core = c.in-Some.core in
    let laws = c.encoded_places.ensures in
    let own = c.geometry.ensures in
    let used = core_used layouts s.group c.args.agino core (inode_in (group_at t s.group) c.args.agino) inode row (c.in-Some.ensures.told t layouts has.group) has.inode_there has.used in
    let old : c.sector_at-sector.result.bytes ≡ _ = c.sector_at-sector.ensures t layouts inode has.group has.inode_there ∙ sector_is s.geometry layouts s.group c.args.agino inode in
    let forked = has_fork laws.inode laws.fork s t layouts c.args.agino inode row c.sector_at-sector.result.bytes c.hold.ensures.shape c.hold.ensures.inside has old in
    let numbered : c.number.result ≡ number_in s.group c.args.agino = c.number.ensures ∙ ap (λ (g : ℕ). number_in g c.args.agino) c.group.ensures.own in
    let encoded : EncodesCore c.write_core.new.into.bytes (number_in s.group c.args.agino) s.geometry.uuid (repointed core c.args.next) =
    subst (λ (n : ℕ). EncodesCore c.write_core.new.into.bytes n s.geometry.uuid (repointed core c.args.next)) numbered
    (subst (λ (g : Geometry). EncodesCore c.write_core.new.into.bytes c.number.result g.uuid (repointed core c.args.next)) own c.write_core.ensures.encoded) in
    repointed_sector others s.group c.args.agino s.geometry.uuid c.write_core.new.into.bytes (repointed core c.args.next) inode row encoded
    (c.write_core.ensures.same_fork ∙ forked.encoded) has.used (repointed_core layouts others s.group c.args.agino c.args.next core inode row used has.used points)
