use Rattle.std.proofs.Common.{◌≡◌, ◌+◌, ◌-◌, ◌<◌, ℕ, List, [], length, sym, ap, ◌∙◌, subst, arith, rules}
use Rattle.log_store.specs.declared.store.Store.{Store}
use Rattle.log_record.specs.declared.image.Image.{Image}
use Rattle.log_record.specs.declared.image.Commit.{Commit}
use Rattle.log_store.specs.declared.store.Job.{Job}
use Rattle.log_store.specs.declared.store.Job.TheVariants.{Clear, Force, Idle}
use Rattle.log_store.specs.Steps.{IsStore, JobAsks}
use Rattle.log_store.proofs.Sound.{job_free}
use Rattle.log_store.proofs.Ways.{goes_gathered, goes_job}
use Rattle.log_store.proofs.Launch.{some_taken}
use Rattle.std.proofs.Common.{◌≤◌}
use Rattle.log_store.proofs.Done.{no_room_step, room_step}
use Rattle.log_store.proofs.store.Store.force_step.Goals as goal

force_asks : (job : Job) (list : List Commit) (batch : List Image) (ring head tail : ℕ) → job ≡ Force → JobAsks job list batch ring head tail
force_asks job list batch ring head tail is = subst (λ (j : Job). JobAsks j list batch ring head tail) (sym is) tt

pub returns-then-is_empty-clause-goes : goal.returns-then-is_empty-clause-goes
returns-then-is_empty-clause-goes g c = goes_job g.D.Disk.known g.D.Disk.cells g.D.Disk.sector_count g.D.Disk.moment g.D.Disk.left_since c.args.self.now Idle c.requires.store (job_free c.args.self.now.stage Idle c.requires.stage) tt

pub write_record-requires-clause-store : goal.write_record-requires-clause-store
write_record-requires-clause-store g c =
    subst (λ (x : Store g.row.D.Denot). IsStore g.D.Disk.known g.D.Disk.cells g.D.Disk.sector_count x) (sym c.gather.ensures.rest)
    (goes_gathered g.D.Disk.known g.D.Disk.cells g.D.Disk.sector_count g.D.Disk.moment g.D.Disk.left_since c.args.self.now c.gather.new.self.batch c.gather.new.self.taken c.gather.new.self.count c.requires.store c.requires.stage (force_asks c.args.self.now.job _ _ _ _ _ c.requires.job)).store

pub write_record-requires-clause-some : goal.write_record-requires-clause-some
write_record-requires-clause-some g c =
    let some : 0 < length c.args.self.now.queue.items = search rules in
    some_taken c.gather.new.self.taken c.args.self.now.queue.items c.gather.new.self.batch some c.requires.store.sound.commits c.gather.ensures.batch

pub clear_step-requires-clause-store : goal.clear_step-requires-clause-store
clear_step-requires-clause-store g c =
    let gathered = subst (λ (x : Store g.row.D.Denot). IsStore g.D.Disk.known g.D.Disk.cells g.D.Disk.sector_count x) (sym c.gather.ensures.rest)
    (goes_gathered g.D.Disk.known g.D.Disk.cells g.D.Disk.sector_count g.D.Disk.moment g.D.Disk.left_since c.args.self.now c.gather.new.self.batch c.gather.new.self.taken c.gather.new.self.count c.requires.store c.requires.stage (force_asks c.args.self.now.job _ _ _ _ _ c.requires.job)).store in
    let some_left : c.args.self.now.queue.items ≡ [] → ⊥ = search rules in
    let no_room : c.gather.new.self.ring < (c.gather.new.self.positions.head - c.gather.new.self.positions.tail) + c.gather.new.self.count + 1 = search rules in
    (goes_job g.D.Disk.known g.D.Disk.cells g.D.Disk.sector_count g.D.Disk.moment g.D.Disk.left_since c.gather.new.self Clear gathered (job_free c.gather.new.self.stage Clear (ap (λ (x : Store g.row.D.Denot). x.stage) c.gather.ensures.rest ∙ c.requires.stage)) (record { some = λ none. some_left (ap (λ (x : Store g.row.D.Denot). x.queue.items) (sym c.gather.ensures.rest) ∙ none); few = c.gather.ensures.batch.few; short = omega (arith, no_room, c.gather.ensures.size) })).store

-- ---- what was done

pub returns-then-fits-clause-step : goal.returns-then-fits-clause-step
returns-then-fits-clause-step g c =
    let gathered = c.gather.new.self in
    let some : c.args.self.now.queue.items ≡ [] → ⊥ = search rules in
    let room : (gathered.positions.head - gathered.positions.tail) + gathered.count + 1 ≤ gathered.ring = search rules in
    room_step g.D.Disk.known g.D.Disk.cells g.D.Disk.sector_count g.D.Disk.arming g.D.Disk.fault_count _ c.args.self.now gathered _ gathered.count c.requires.stage c.requires.job some c.gather.ensures.rest c.gather.ensures.batch
    (omega (arith, room, c.gather.ensures.size)) c.write_record.ensures.done

pub returns-clause-step : goal.returns-clause-step
returns-clause-step g c =
    let gathered = c.gather.new.self in
    let some : c.args.self.now.queue.items ≡ [] → ⊥ = search rules in
    let short : gathered.ring < (gathered.positions.head - gathered.positions.tail) + gathered.count + 1 = search rules in
    no_room_step g.D.Disk.known g.D.Disk.cells g.D.Disk.sector_count g.D.Disk.arming g.D.Disk.fault_count _ c.args.self.now gathered _ gathered.count c.requires.stage c.requires.job some c.gather.ensures.rest c.gather.ensures.batch
    (omega (arith, short, c.gather.ensures.size)) c.clear_step.ensures.done
