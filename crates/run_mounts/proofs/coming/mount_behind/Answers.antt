use Rattle.std.proofs.Common.{◌≡◌, ℕ, Option, None, Some, ap, sym, subst, ◌∙◌, length, take}
use Rattle.std.specs.Option.{IfSome}
use Rattle.life_limits.specs.declared.TheConstants.{MAX_ACTORS}
use Rattle.disk_model.specs.Disk.{as_read}
use Rattle.disk_model.specs.DiskLaws.{IsImage-as_read}
use Rattle.life_table.specs.declared.table.Table.{Table}
use Rattle.life_table.specs.declared.types.MountRecord.{MountRecord}
use Rattle.life_table.specs.History.{closed, recovered}
use Rattle.orphan_frees.specs.Order.{freed_all, keys_to_free}
use Rattle.whole_image.specs.Damage.{groups_of}
use Rattle.mount.specs.Mounts.{IsLeftDown}
use Rattle.mounted_calls.specs.Running.{IsRunning}
use Rattle.run_mounts.specs.Safe.{IsFreshWith, kept_behind, with_kept}
use Rattle.run_mounts.proofs.Arrivals.{by-begun, came-up, fresh-begun, fresh-up, kept-is, kept-running, keeping, stayed-down, stayed-unbegun, told-or-not}
use Rattle.run_mounts.proofs.coming.mount_behind.Goals as goal

pub returns-in-Ok-clause-up : goal.returns-in-Ok-clause-up
returns-in-Ok-clause-up g c = λ known first number past safe same.
    let d = g.D.Disk in
    let m = c.in-Ok.mounted in
    let cells = d.cells c.args.disk in
    let image = as_read cells in
    let of = c.sound_images_are_of_tables.ensures image (c.in-Ok.ensures.sound known).0 in
    let geometry = of.0 in
    let t = of.1 in
    let layouts = of.2 in
    let next = of.3 in
    let is = of.4 in
    let begins = c.mounts_begin_where_runs_stand.ensures.begins first t number next past cells image safe.crash_safe (IsImage-as_read cells) is.represents in
    let kept = begins.0 in
    let mounted = c.in-Ok.ensures.mounted known geometry t layouts next is in
    let run = c.mounts_that_came_up_run.ensures.known geometry t layouts next image m is mounted c.in-Ok.ensures.up in
    let keeps = kept-is first number next kept m.story.base past t c.args.behind begins.1 same mounted.story.base in
    came-up c.mounts_begin_where_runs_stand.ensures.follows d.known d.cells d.sector_count first number past m c.keeping.result t next kept (length (keys_to_free t layouts)) (keys_to_free t layouts) cells
    safe begins.1 mounted.story (c.sound_images_represent_a_table.ensures.no_opens image t next is.represents) run
    (c.mounts_leave_prefixes.ensures.recovers geometry t layouts next kept (length (keys_to_free t layouts)) image m.story is mounted.story)
    (λ after at. c.mounts_leave_prefixes.ensures.safe geometry t layouts next kept image after m is mounted at)
    (c.keeping.ensures ∙ ap (λ (k : ℕ). keeping k m.story) keeps)

pub returns-in-Ok-clause-running : goal.returns-in-Ok-clause-running
returns-in-Ok-clause-running g c =
    let d = g.D.Disk in
    let m = c.in-Ok.mounted in
    let image = as_read (d.cells c.args.disk) in
    let kept = kept_behind m.story.base c.args.behind in
    let up = c.in-Ok.ensures.up in
    let running : (start : Table) × (closed start ≡ start) × IsRunning d.known d.cells d.sector_count start (recovered start) m =
    told-or-not d.known
    (λ known.
    let of = c.sound_images_are_of_tables.ensures image (c.in-Ok.ensures.sound known).0 in
    (of.1, c.sound_images_represent_a_table.ensures.no_opens image of.1 of.3 of.4.represents, c.mounts_that_came_up_run.ensures.known of.0 of.1 of.2 of.3 image m of.4 (c.in-Ok.ensures.mounted known of.0 of.1 of.2 of.3 of.4) up))
    (λ untold. (up.start, up.unheld, c.mounts_that_came_up_run.ensures.unknown m untold up)) in (
      running.0,
      running.1,
      subst (λ (s : MountRecord). IsRunning d.known d.cells d.sector_count running.0 (recovered running.0) (record m { story = s })) (sym c.keeping.ensures)
          (kept-running d.known d.cells d.sector_count running.0 (recovered running.0) m kept running.2),
    )

pub returns-in-Ok-clause-fresh : goal.returns-in-Ok-clause-fresh
returns-in-Ok-clause-fresh g c =
    let m = c.in-Ok.mounted in
    let up = c.in-Ok.ensures.up in
    subst (λ (s : MountRecord). IsFreshWith s.freed s) (sym c.keeping.ensures)
    (fresh-up m.story.base (kept_behind m.story.base c.args.behind) (keys_to_free up.start up.lists) m.story up.story)

pub returns-in-Err-clause-down : goal.returns-in-Err-clause-down
returns-in-Err-clause-down g c = λ known first number past safe same.
    let d = g.D.Disk in
    let down = c.in-Err.down in
    let old = d.cells c.args.disk in
    let new = d.cells down.disk in
    let image = as_read old in
    let behind = c.args.behind in
    by-begun first number past new behind down.begun c.keeping_begun.result c.keeping_begun.ensures
    (λ none.
    let back : IsLeftDown None down.fault old new = subst (λ (o : Option MountRecord). IsLeftDown o down.fault old new) none (c.in-Err.ensures.down known) in
    stayed-unbegun first number past old new safe (c.unbegun_mounts_leave_runs.ensures first number past down.fault old new safe.crash_safe back))
    (λ story is_story.
    let was : IsLeftDown (Some story) down.fault old new = subst (λ (o : Option MountRecord). IsLeftDown o down.fault old new) is_story (c.in-Err.ensures.down known) in
    let of = c.sound_images_are_of_tables.ensures image was.0 in
    let geometry = of.0 in
    let t = of.1 in
    let layouts = of.2 in
    let next = of.3 in
    let is = of.4 in
    let over = was.1 geometry t layouts next is in
    let begins = c.mounts_begin_where_runs_stand.ensures.begins first t number next past old image safe.crash_safe (IsImage-as_read old) is.represents in
    let kept = begins.0 in
    let keys = take over.count (keys_to_free t layouts) in
    let keeps = kept-is first number next kept story.base past t behind begins.1 same over.story_is.base in
    stayed-down c.mounts_begin_where_runs_stand.ensures.follows first number past story (with_kept behind story) t (freed_all t keys) next kept keys old new safe begins.1 over.story_is
    (c.recovery_frees_in_order.ensures.legal geometry t layouts (groups_of geometry image is.log) MAX_ACTORS over.count is.encodes.can
    (c.sound_images_represent_a_table.ensures.no_opens image t next is.represents))
    (c.refused_mounts_leave_prefixes.ensures.recovers geometry t layouts next kept image story new is over)
    (λ after at. c.refused_mounts_leave_prefixes.ensures.safe geometry t layouts next kept image after story new is over at)
    (ap (λ (k : ℕ). keeping k story) keeps))

pub returns-in-Err-clause-begun : goal.returns-in-Err-clause-begun
returns-in-Err-clause-begun g c = subst (λ (o : Option MountRecord). IfSome o (IsFreshWith 0)) (sym c.keeping_begun.ensures) (fresh-begun c.args.behind c.in-Err.down.begun c.in-Err.ensures.begun)
