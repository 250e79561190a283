use Rattle.std.proofs.Common.{◌+◌, None, sym, subst, ◌∙◌}
use Rattle.life_limits.specs.declared.TheConstants.{VERSION}
use Rattle.life_table.specs.Table.{empty_table}
use Rattle.actor_world.specs.Invariant.{Invariant}
use Rattle.actor_world.specs.World.{World}
use Rattle.plain_world.specs.Beginning.{first_world}
use Rattle.plain_world.specs.Telling.{any_telling}
use Rattle.plain_world.proofs.Firsts.{first_is_mounted}
use Rattle.plain_world.proofs.world.begin_world.Goals as goal

pub returns-clause-right : goal.returns-clause-right
returns-clause-right g c =
    let table = c.tables_stay_well_formed.ensures.empty c.args.groups c.args.blocks c.requires.some c.requires.many c.requires.least c.requires.most in
    subst (λ (w : World g.row.D.Denot). Invariant any_telling (empty_table VERSION c.args.groups c.args.blocks) w)
    (sym (λ i. record {
      first_commit = c.durable.ensures i + 1;
      history = record { table = c.in_ok-new.ensures i; entries = c.new-2.ensures.items i; froms = c.new-3.ensures.items i };
      memory = record {
        actors = (c.from_vec.ensures ∙ c.in_ok-idle_actors.ensures) i;
        groups = (c.from_vec-2.ensures ∙ c.in_ok-first_caches.ensures) i;
      };
      queue = c.new-4.ensures.items i;
      holder = None;
      store = c.args.store;
    }))
    (c.mounted_worlds_are_right.ensures (empty_table VERSION c.args.groups c.args.blocks) (first_world c.args.groups c.args.blocks c.args.store)
    (first_is_mounted c.args.groups c.args.blocks c.args.store table c.requires.list c.requires.job c.requires.rest))
