use Rattle.std.proofs.Common.{◌≤◌, ◌∷◌, [], List, length, drop, refl, sym, ap, ◌∙◌, subst, arith}
use Rattle.std.specs.List.{All}
use Rattle.std.proofs.lemmas.List.Elements.{All-drop}
use Rattle.disk_model.specs.Disk.{Cell, written}
use Rattle.log_record.specs.declared.image.Image.{Image}
use Rattle.log_image.specs.Log.{IsGroupImage}
use Rattle.log_batch.specs.Put.{KeysRise}
use Rattle.log_store.specs.Landed.{written_home}
use Rattle.log_store.specs.OnDisk.{AtRest, ReplaysTo, base_of}
use Rattle.log_store.specs.State.{State, state_of}
use Rattle.log_store.proofs.Going.{first_is, leaves, moves_none}
use Rattle.log_store.proofs.Sound.{first_group, held_of, job_free, rest_of, rises_rest, some_first, stage_free}
use Rattle.log_store.proofs.store.Store.write_home.Goals as goal

pub unreachable-requires : goal.unreachable-requires
unreachable-requires g c = some_first c.args.self.now.dirty.images c.requires.some (sym c.first.ensures ∙ c.in_default.is)

pub returns-in-Ok-clause-goes : goal.returns-in-Ok-clause-goes
returns-in-Ok-clause-goes g c =
    let old = c.args.self.now in
    let sound = c.requires.store.sound in
    let s : State = state_of old in
    let image = c.in-Some.image in
    let rest = drop 1 old.dirty.images in
    let is = first_is old.dirty.images image (sym c.in-Some.ensures) in
    let below = (first_group old.anchor old.dirty.images image rest is sound.homes).1 in
    let cells = g.D.Disk.cells old.disk in
    let after = written image.home (image.sector ∷ []) cells in
    let images = c.remove_first.ensures.images in
    record {
      store = record {
        sound = record {
          place = omega (arith, sound.place, c.in-Ok.ensures.sectors);
          last = sound.last;
          ring = sound.ring;
          commits = sound.commits;
          groups = sound.groups;
          numbers = sound.numbers;
          rises = subst (λ (l : List Image). KeysRise (λ (i : Image). i.home) 0 l) (sym images) (rises_rest old.dirty.images image rest is sound.rises);
          homes = subst (λ (l : List Image). All (IsGroupImage old.anchor) l) (sym images) (All-drop (IsGroupImage old.anchor) 1 old.dirty.images sound.homes);
          room = record { counted = sound.room.counted; within = omega (arith, sound.room.within, c.remove_first.ensures.room); countable = sound.room.countable };
          buffer = sound.buffer;
          stage = stage_free old.stage _ old.sectors.items old.count c.requires.stage;
          job = sound.job;
          asks = sound.asks;
        };
        holds = λ tells.
            let within : old.anchor ≤ length cells = omega (arith, sound.place, g.met.D.Disk.cells_fit tells old.disk) in
            let at_rest = rest_of old.stage s cells c.requires.stage (c.requires.store.holds tells) in
            let done = c.homes.ensures.done s cells image rest at_rest is sound.rises below within in
            held_of old.stage _ _ c.requires.stage
            (subst (λ (l : List Image). AtRest (written_home s l) (g.D.Disk.cells c.write.new.self)) (sym images)
            (subst (λ (cs : List Cell). AtRest (written_home s rest) cs) (sym (c.in-Ok.ensures.written tells)) done));
      };
      moves = moves_none g.D.Disk.known s _ cells _ refl refl refl refl (omega arith) (λ tells.
          let within : old.anchor ≤ length cells = omega (arith, sound.place, g.met.D.Disk.cells_fit tells old.disk) in
          let at_rest = rest_of old.stage s cells c.requires.stage (c.requires.store.holds tells) in
          ap (λ (l : List Image). base_of (written_home s l) (g.D.Disk.cells c.write.new.self)) images
          ∙ ap (λ (cs : List Cell). base_of (written_home s rest) cs) (c.in-Ok.ensures.written tells)
          ∙ c.homes.ensures.base s cells image rest at_rest is sound.rises below within);
      moments = λ tells.
          let within : old.anchor ≤ length cells = omega (arith, sound.place, g.met.D.Disk.cells_fit tells old.disk) in
          let at_rest = rest_of old.stage s cells c.requires.stage (c.requires.store.holds tells) in
          leaves _ _ _ _ after (ReplaysTo s cells) (c.in-Ok.ensures.time tells) (λ left left_is. c.homes.ensures.images s cells image rest left at_rest is sound.rises below within left_is);
    }

pub returns-in-Err-clause-goes : goal.returns-in-Err-clause-goes
returns-in-Err-clause-goes g c =
    let old = c.args.self.now in
    let sound = c.requires.store.sound in
    let s : State = state_of old in
    let image = c.in-Some.image in
    let rest = drop 1 old.dirty.images in
    let is = first_is old.dirty.images image (sym c.in-Some.ensures) in
    let below = (first_group old.anchor old.dirty.images image rest is sound.homes).1 in
    let cells = g.D.Disk.cells old.disk in
    let after = written image.home (image.sector ∷ []) cells in
    record {
      store = record {
        sound = record {
          place = omega (arith, sound.place, c.in-Err.ensures.sectors);
          last = sound.last;
          ring = sound.ring;
          commits = sound.commits;
          groups = sound.groups;
          numbers = sound.numbers;
          rises = sound.rises;
          homes = sound.homes;
          room = sound.room;
          buffer = sound.buffer;
          stage = stage_free old.stage _ old.sectors.items old.count c.requires.stage;
          job = job_free old.stage _ c.requires.stage;
          asks = tt;
        };
        holds = λ tells.
            let within : old.anchor ≤ length cells = omega (arith, sound.place, g.met.D.Disk.cells_fit tells old.disk) in
            let at_rest = rest_of old.stage s cells c.requires.stage (c.requires.store.holds tells) in
            held_of old.stage _ _ c.requires.stage
            (c.homes.ensures.failed s cells _ image rest at_rest is sound.rises below within (c.in-Err.ensures.failed tells));
      };
      moves = moves_none g.D.Disk.known s _ cells _ refl refl refl refl (omega arith) (λ tells.
          let within : old.anchor ≤ length cells = omega (arith, sound.place, g.met.D.Disk.cells_fit tells old.disk) in
          let at_rest = rest_of old.stage s cells c.requires.stage (c.requires.store.holds tells) in
          c.homes.ensures.failed_base s cells _ image rest at_rest is sound.rises below within (c.in-Err.ensures.failed tells));
      moments = λ tells.
          let within : old.anchor ≤ length cells = omega (arith, sound.place, g.met.D.Disk.cells_fit tells old.disk) in
          let at_rest = rest_of old.stage s cells c.requires.stage (c.requires.store.holds tells) in
          leaves _ _ _ _ after (ReplaysTo s cells) (c.in-Err.ensures.time tells) (λ left left_is. c.homes.ensures.images s cells image rest left at_rest is sound.rises below within left_is);
    }
