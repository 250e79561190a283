use Rattle.std.proofs.Common.{List, ◌+◌, arith, rules}
use Rattle.geometry.specs.Places.{anchor_of}
use Rattle.life_bytes.specs.declared.sector.Sector.{Sector}
use Rattle.disk_model.specs.Disk.{as_read}
use Rattle.disk_model.specs.DiskLaws.{Elapses-more, Elapses-none, IsImage-as_read}
use Rattle.recovery.specs.Put.{IsPartlyPut}
use Rattle.recovery.specs.Replay.{IsEither, IsOfReplay}
use Rattle.recovery.proofs.Puts.{both_writes, put_first}
use Rattle.recovery.proofs.Recovering.{Laws, Home, begins_anew, of_replay_either, of_replay_partly, reads_home}
use Rattle.recovery.proofs.replaying.replay.Goals as goal

pub returns-in_default-clause-left : goal.returns-in_default-clause-left
returns-in_default-clause-left g c known image is =
    let laws : Laws = record { log = c.home_writes.ensures.log; replays = c.home_writes.ensures.replayed; bounds = c.logs.ensures.bounds; empty = c.logs.ensures.empty } in
    let cells = g.D.Disk.cells c.args.disk.now in
    of_replay_partly laws (as_read cells) (anchor_of c.args.g.now) c.args.g.now.ring c.args.found.now (c.requires.found known) c.requires.homes image
    (put_first c.args.found.now.images cells (c.requires.one known) image is)

pub returns-in_err-settle_home-clause-left : goal.returns-in_err-settle_home-clause-left
returns-in_err-settle_home-clause-left g c known image is =
    let laws : Laws = record { log = c.home_writes.ensures.log; replays = c.home_writes.ensures.replayed; bounds = c.logs.ensures.bounds; empty = c.logs.ensures.empty } in
    of_replay_partly laws (as_read (g.D.Disk.cells c.args.disk.now)) (anchor_of c.args.g.now) c.args.g.now.ring c.args.found.now (c.requires.found known)
    c.requires.homes image (c.settle_home.ensures.left known (c.requires.one known) image is)

pub returns-in_err-settle_home-clause-time : goal.returns-in_err-settle_home-clause-time
returns-in_err-settle_home-clause-time g c known =
    let d = g.D.Disk in
    let old = c.args.disk.now in
    let laws : Laws = record { log = c.home_writes.ensures.log; replays = c.home_writes.ensures.replayed; bounds = c.logs.ensures.bounds; empty = c.logs.ensures.empty } in
    let P : List Sector → Type 0 = IsOfReplay (anchor_of c.args.g.now) c.args.g.now.ring c.args.found.now (as_read (d.cells old)) in
    Elapses-more (d.moment old) (d.moment old) (d.moment c.settle_home.new.disk) (d.left_since old) (d.left_since old) (d.left_since c.settle_home.new.disk)
    P (IsPartlyPut c.args.found.now.images (as_read (d.cells old))) (Elapses-none (d.moment old) (d.left_since old) P)
    (c.settle_home.ensures.time known (c.requires.one known))
    (of_replay_partly laws (as_read (d.cells old)) (anchor_of c.args.g.now) c.args.g.now.ring c.args.found.now (c.requires.found known) c.requires.homes)

pub returns-in_err-settle_sector-clause-left : goal.returns-in_err-settle_sector-clause-left
returns-in_err-settle_sector-clause-left g c known image is =
    let d = g.D.Disk in
    let old = c.args.disk.now in
    let cells = d.cells c.settle_home.new.disk in
    let laws : Laws = record { log = c.home_writes.ensures.log; replays = c.home_writes.ensures.replayed; bounds = c.logs.ensures.bounds; empty = c.logs.ensures.empty } in
    let home : Home (as_read (d.cells old)) (anchor_of c.args.g.now) c.args.g.now.ring c.args.found.now (as_read cells) = record {
      is = c.requires.found known;
      homes = c.requires.homes;
      partly = c.settle_home.ensures.left known (c.requires.one known) (as_read cells) (IsImage-as_read cells);
      reads = c.in_ok-settle_home.ensures.reads known;
    } in
    of_replay_either laws (as_read (d.cells old)) (anchor_of c.args.g.now) c.args.g.now.ring c.args.found.now (as_read cells) c.in-Some.start
    c.anchor_of-anchor.result c.anchor_at.result home c.in-Some.ensures.0 c.in-Some.ensures.1 c.anchor_of-anchor.ensures.at c.anchor_at.ensures image
    (c.settle_sector.ensures.left known (c.in_ok-settle_home.ensures.one known) image is)

pub returns-in_err-settle_sector-clause-time : goal.returns-in_err-settle_sector-clause-time
returns-in_err-settle_sector-clause-time g c known =
    let d = g.D.Disk in
    let old = c.args.disk.now in
    let cells = d.cells c.settle_home.new.disk in
    let laws : Laws = record { log = c.home_writes.ensures.log; replays = c.home_writes.ensures.replayed; bounds = c.logs.ensures.bounds; empty = c.logs.ensures.empty } in
    let home : Home (as_read (d.cells old)) (anchor_of c.args.g.now) c.args.g.now.ring c.args.found.now (as_read cells) = record {
      is = c.requires.found known;
      homes = c.requires.homes;
      partly = c.settle_home.ensures.left known (c.requires.one known) (as_read cells) (IsImage-as_read cells);
      reads = c.in_ok-settle_home.ensures.reads known;
    } in
    let P : List Sector → Type 0 = IsOfReplay (anchor_of c.args.g.now) c.args.g.now.ring c.args.found.now (as_read (d.cells old)) in
    let first = Elapses-more (d.moment old) (d.moment old) (d.moment c.settle_home.new.disk) (d.left_since old) (d.left_since old) (d.left_since c.settle_home.new.disk)
    P (IsPartlyPut c.args.found.now.images (as_read (d.cells old))) (Elapses-none (d.moment old) (d.left_since old) P)
    (c.settle_home.ensures.time known (c.requires.one known))
    (of_replay_partly laws (as_read (d.cells old)) (anchor_of c.args.g.now) c.args.g.now.ring c.args.found.now (c.requires.found known) c.requires.homes) in
    Elapses-more (d.moment old) (d.moment c.settle_home.new.disk) (d.moment c.settle_sector.new.disk)
    (d.left_since old) (d.left_since c.settle_home.new.disk) (d.left_since c.settle_sector.new.disk)
    P (IsEither (as_read cells) c.anchor_of-anchor.result c.anchor_at.result) first (c.settle_sector.ensures.time known (c.in_ok-settle_home.ensures.one known))
    (of_replay_either laws (as_read (d.cells old)) (anchor_of c.args.g.now) c.args.g.now.ring c.args.found.now (as_read cells) c.in-Some.start
    c.anchor_of-anchor.result c.anchor_at.result home c.in-Some.ensures.0 c.in-Some.ensures.1 c.anchor_of-anchor.ensures.at c.anchor_at.ensures)

pub returns-in_err-settle_sector-clause-writes : goal.returns-in_err-settle_sector-clause-writes
returns-in_err-settle_sector-clause-writes g c =
    let d = g.D.Disk in
    let home = c.settle_home.ensures.writes in
    let sector = c.settle_sector.ensures.writes in
    record {
      made = home.made + sector.made;
      few = omega (arith, home.few, sector.few);
      leaves = both_writes home.made sector.made (d.arming c.args.disk.now) (d.arming c.settle_home.new.disk) (d.arming c.settle_sector.new.disk) home.leaves sector.leaves;
      all = search rules;
    }

pub returns-clause-anew : goal.returns-clause-anew
returns-clause-anew g c known =
    let d = g.D.Disk in
    let old = c.args.disk.now in
    let cells = d.cells c.settle_home.new.disk in
    let laws : Laws = record { log = c.home_writes.ensures.log; replays = c.home_writes.ensures.replayed; bounds = c.logs.ensures.bounds; empty = c.logs.ensures.empty } in
    let home : Home (as_read (d.cells old)) (anchor_of c.args.g.now) c.args.g.now.ring c.args.found.now (as_read cells) = record {
      is = c.requires.found known;
      homes = c.requires.homes;
      partly = c.settle_home.ensures.left known (c.requires.one known) (as_read cells) (IsImage-as_read cells);
      reads = c.in_ok-settle_home.ensures.reads known;
    } in
    begins_anew laws (as_read (d.cells old)) (anchor_of c.args.g.now) c.args.g.now.ring c.args.found.now (as_read cells) c.in-Some.start
    c.anchor_of-anchor.result c.anchor_at.result (d.cells c.settle_sector.new.disk) home c.in-Some.ensures.0 c.in-Some.ensures.1
    c.anchor_of-anchor.ensures.at c.anchor_at.ensures (c.in_ok-settle_sector.ensures.one known) (c.in_ok-settle_sector.ensures.reads known)

pub returns-clause-left : goal.returns-clause-left
returns-clause-left g c known image is =
    let d = g.D.Disk in
    let old = c.args.disk.now in
    let cells = d.cells c.settle_home.new.disk in
    let laws : Laws = record { log = c.home_writes.ensures.log; replays = c.home_writes.ensures.replayed; bounds = c.logs.ensures.bounds; empty = c.logs.ensures.empty } in
    let home : Home (as_read (d.cells old)) (anchor_of c.args.g.now) c.args.g.now.ring c.args.found.now (as_read cells) = record {
      is = c.requires.found known;
      homes = c.requires.homes;
      partly = c.settle_home.ensures.left known (c.requires.one known) (as_read cells) (IsImage-as_read cells);
      reads = c.in_ok-settle_home.ensures.reads known;
    } in
    of_replay_either laws (as_read (d.cells old)) (anchor_of c.args.g.now) c.args.g.now.ring c.args.found.now (as_read cells) c.in-Some.start
    c.anchor_of-anchor.result c.anchor_at.result home c.in-Some.ensures.0 c.in-Some.ensures.1 c.anchor_of-anchor.ensures.at c.anchor_at.ensures image
    (c.settle_sector.ensures.left known (c.in_ok-settle_home.ensures.one known) image is)

pub returns-clause-time : goal.returns-clause-time
returns-clause-time g c known =
    let d = g.D.Disk in
    let old = c.args.disk.now in
    let cells = d.cells c.settle_home.new.disk in
    let laws : Laws = record { log = c.home_writes.ensures.log; replays = c.home_writes.ensures.replayed; bounds = c.logs.ensures.bounds; empty = c.logs.ensures.empty } in
    let home : Home (as_read (d.cells old)) (anchor_of c.args.g.now) c.args.g.now.ring c.args.found.now (as_read cells) = record {
      is = c.requires.found known;
      homes = c.requires.homes;
      partly = c.settle_home.ensures.left known (c.requires.one known) (as_read cells) (IsImage-as_read cells);
      reads = c.in_ok-settle_home.ensures.reads known;
    } in
    let P : List Sector → Type 0 = IsOfReplay (anchor_of c.args.g.now) c.args.g.now.ring c.args.found.now (as_read (d.cells old)) in
    let first = Elapses-more (d.moment old) (d.moment old) (d.moment c.settle_home.new.disk) (d.left_since old) (d.left_since old) (d.left_since c.settle_home.new.disk)
    P (IsPartlyPut c.args.found.now.images (as_read (d.cells old))) (Elapses-none (d.moment old) (d.left_since old) P)
    (c.settle_home.ensures.time known (c.requires.one known))
    (of_replay_partly laws (as_read (d.cells old)) (anchor_of c.args.g.now) c.args.g.now.ring c.args.found.now (c.requires.found known) c.requires.homes) in
    Elapses-more (d.moment old) (d.moment c.settle_home.new.disk) (d.moment c.settle_sector.new.disk)
    (d.left_since old) (d.left_since c.settle_home.new.disk) (d.left_since c.settle_sector.new.disk)
    P (IsEither (as_read cells) c.anchor_of-anchor.result c.anchor_at.result) first (c.settle_sector.ensures.time known (c.in_ok-settle_home.ensures.one known))
    (of_replay_either laws (as_read (d.cells old)) (anchor_of c.args.g.now) c.args.g.now.ring c.args.found.now (as_read cells) c.in-Some.start
    c.anchor_of-anchor.result c.anchor_at.result home c.in-Some.ensures.0 c.in-Some.ensures.1 c.anchor_of-anchor.ensures.at c.anchor_at.ensures)

pub returns-clause-writes : goal.returns-clause-writes
returns-clause-writes g c =
    let d = g.D.Disk in
    let home = c.in_ok-settle_home.ensures.writes in
    let sector = c.in_ok-settle_sector.ensures.writes in
    record {
      made = home.made + sector.made;
      few = omega (arith, home.few, sector.few);
      leaves = both_writes home.made sector.made (d.arming c.args.disk.now) (d.arming c.settle_home.new.disk) (d.arming c.settle_sector.new.disk) home.leaves sector.leaves;
      all = omega (arith, home.all, sector.all);
    }

pub returns-clause-reads : goal.returns-clause-reads
returns-clause-reads g c known =
    let d = g.D.Disk in
    reads_home (as_read (d.cells c.args.disk.now)) (anchor_of c.args.g.now) c.args.g.now.ring c.args.found.now (as_read (d.cells c.settle_home.new.disk)) c.in-Some.start
    c.anchor_of-anchor.result c.anchor_at.result (as_read (d.cells c.settle_sector.new.disk)) (c.in_ok-settle_home.ensures.reads known)
    c.anchor_of-anchor.ensures.at c.anchor_at.ensures (c.in_ok-settle_sector.ensures.reads known)
