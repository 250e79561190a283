use Rattle.std.proofs.Common.{◌≡◌, Some, length, refl, ◌∙◌, arith}
use Rattle.actor_world.specs.Caches.{actor_at, with_actor}
use Rattle.actor_world.specs.World.{IsBegun}
use Rattle.plain_world.specs.Worlds.{world_of}
use Rattle.plain_world.proofs.world.PlainWorld.begin.Goals as goal

pub returns-clause-kept : goal.returns-clause-kept
returns-clause-kept g c = λ start right.
    let count : c.len.result ≡ length c.args.self.now.entries.items = omega (arith, c.len.ensures) in
    let begun : IsBegun c.args.a c.args.call (world_of c.args.self.now) _ = record {
      actor = c.in_default.ensures.none.actor;
      idle = c.in_default.ensures.none.idle;
      held = c.in_default.ensures.none.held;
      group = c.in_default.ensures.none.group;
      memory = c.with_doing.ensures
          ∙ (λ i. with_actor c.args.a (record {
            doing = Some (record { call = c.args.call; place = c.first_place.ensures i; «from» = count i });
            queue = (actor_at (c.replace-memory.ensures.value i) c.args.a).queue;
          }) (c.replace-memory.ensures.value i));
      history = refl;
      queue = refl;
      holder = refl;
      store = refl;
      first_commit = refl;
    } in
    c.calls_begin_in_right_worlds.ensures start c.args.a c.args.call (world_of c.args.self.now) _ right begun
