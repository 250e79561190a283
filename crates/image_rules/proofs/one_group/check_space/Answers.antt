use Rattle.std.proofs.Common.{length, arith, ◌≡◌, ℕ, List, Option, None, ap, sym, subst, ◌∙◌}
use Rattle.life_bytes.specs.declared.sector.Sector.{Sector}
use Rattle.inobt_leaf.specs.Chunks.{IsLeaf}
use Rattle.ag_header.specs.declared.agi.Agi.{Agi}
use Rattle.inobt_leaf.specs.declared.chunk.ChunkRec.{ChunkRec}
use Rattle.sound_image.specs.Counts.{orphans_in_group}
use Rattle.sound_image.specs.Damage.{Rule, HoldsIn, tree, bitmap}
use Rattle.sound_image.specs.Reading.{header_of, records_of, group_read}
use Rattle.sound_image.specs.Rules.{free_set}
use Rattle.image_rules.specs.Faults.{FaultIn}
use Rattle.image_rules.specs.Gathered.{AllGathered, BitmapFault, CoreFault, FirstFork, FirstShared, ForksBelow, BlocksBelow}
use Rattle.image_rules.specs.Listing.{AllNoted}
use Rattle.image_rules.proofs.Bitmapping.{left_is_free}
use Rattle.image_rules.proofs.Firsts.{core_fault, bitmap_fault, fork_first, blocks_first, cores_hold, forks_hold, blocks_hold, up_to_bitmap}
use Rattle.image_rules.proofs.Outcomes.{passed_up}
use Rattle.image_rules.proofs.one_group.check_space.Goals as goal

pub returns-in_err-found-clause-damaged : goal.returns-in_err-found-clause-damaged
returns-in_err-found-clause-damaged g c known =
    let a = c.args in
    let k = a.g.now in
    let laws = g.met.V.View in
    let image : List Sector = g.V.View.image a.view.now in
    let same1 : g.V.View.image c.check_header.new.view ≡ image = laws.image_stays a.view.now c.check_header.new.view c.check_header.ensures.only_read in
    let same2 : g.V.View.image c.check_leaf.new.view ≡ image = laws.image_stays c.check_header.new.view c.check_leaf.new.view c.check_leaf.ensures.only_read ∙ same1 in
    let header = c.in_ok-agi.ensures.right known in
    let leaf = subst (λ (l : List Sector). HoldsIn k l tree a.group × records_of k l a.group ≡ c.in_ok-leaf.leaf) same1
    (c.in_ok-leaf.ensures.right known (ap (λ (l : List Sector). header_of k l a.group) same1 ∙ header.1)) in
    let records2 = ap (λ (l : List Sector). records_of k l a.group) same2 ∙ leaf.1 in
    let fault = c.in_err-found.field-0.0 in
    passed_up c.from_residual-in_err-found.result fault (FaultIn k image a.group) c.from_residual-in_err-found.ensures.1
    (core_fault k image a.group fault header.0 leaf.0 (subst (λ (l : List Sector). CoreFault k l a.group fault) same2 (c.in_err-found.ensures.fault known records2)))

pub returns-in-Some-clause-damaged : goal.returns-in-Some-clause-damaged
returns-in-Some-clause-damaged g c known =
    let a = c.args in
    let k = a.g.now in
    let laws = g.met.V.View in
    let image : List Sector = g.V.View.image a.view.now in
    let same1 : g.V.View.image c.check_header.new.view ≡ image = laws.image_stays a.view.now c.check_header.new.view c.check_header.ensures.only_read in
    let same2 : g.V.View.image c.check_leaf.new.view ≡ image = laws.image_stays c.check_header.new.view c.check_leaf.new.view c.check_leaf.ensures.only_read ∙ same1 in
    let header = c.in_ok-agi.ensures.right known in
    let leaf = subst (λ (l : List Sector). HoldsIn k l tree a.group × records_of k l a.group ≡ c.in_ok-leaf.leaf) same1
    (c.in_ok-leaf.ensures.right known (ap (λ (l : List Sector). header_of k l a.group) same1 ∙ header.1)) in
    let records2 = ap (λ (l : List Sector). records_of k l a.group) same2 ∙ leaf.1 in
    let f = c.in_ok-found.found in
    let all = subst (λ (l : List Sector). AllGathered k l a.group f.map f.fork f.shared) same2 (c.in_ok-found.ensures.right known records2).0 in
    let cores = cores_hold k image a.group f.map f.fork f.shared all in
    let first : FirstFork k image a.group c.in-Some.sector = subst (ForksBelow k image a.group all.bound) c.in-Some.is all.gathered.forks in
    fork_first k image a.group c.in-Some.sector header.0 leaf.0 cores first

pub returns-in-Some-shared-clause-damaged : goal.returns-in-Some-shared-clause-damaged
returns-in-Some-shared-clause-damaged g c known =
    let a = c.args in
    let k = a.g.now in
    let laws = g.met.V.View in
    let image : List Sector = g.V.View.image a.view.now in
    let same1 : g.V.View.image c.check_header.new.view ≡ image = laws.image_stays a.view.now c.check_header.new.view c.check_header.ensures.only_read in
    let same2 : g.V.View.image c.check_leaf.new.view ≡ image = laws.image_stays c.check_header.new.view c.check_leaf.new.view c.check_leaf.ensures.only_read ∙ same1 in
    let header = c.in_ok-agi.ensures.right known in
    let leaf = subst (λ (l : List Sector). HoldsIn k l tree a.group × records_of k l a.group ≡ c.in_ok-leaf.leaf) same1
    (c.in_ok-leaf.ensures.right known (ap (λ (l : List Sector). header_of k l a.group) same1 ∙ header.1)) in
    let records2 = ap (λ (l : List Sector). records_of k l a.group) same2 ∙ leaf.1 in
    let f = c.in_ok-found.found in
    let all = subst (λ (l : List Sector). AllGathered k l a.group f.map f.fork f.shared) same2 (c.in_ok-found.ensures.right known records2).0 in
    let cores = cores_hold k image a.group f.map f.fork f.shared all in
    let no_fork : f.fork ≡ None = c.in_default.is in
    let all1 = subst (λ (o : Option ℕ). AllGathered k image a.group f.map o f.shared) no_fork all in
    let forks = forks_hold k image a.group f.map f.shared all1 in
    let first : FirstShared k image a.group c.in-Some-shared.sector = subst (BlocksBelow k image a.group all.bound) c.in-Some-shared.is (all.gathered.blocks no_fork) in
    blocks_first k image a.group c.in-Some-shared.sector header.0 leaf.0 cores forks first

pub returns-in_err-check_bitmap-clause-damaged : goal.returns-in_err-check_bitmap-clause-damaged
returns-in_err-check_bitmap-clause-damaged g c known =
    let a = c.args in
    let k = a.g.now in
    let laws = g.met.V.View in
    let image : List Sector = g.V.View.image a.view.now in
    let same1 : g.V.View.image c.check_header.new.view ≡ image = laws.image_stays a.view.now c.check_header.new.view c.check_header.ensures.only_read in
    let same2 : g.V.View.image c.check_leaf.new.view ≡ image = laws.image_stays c.check_header.new.view c.check_leaf.new.view c.check_leaf.ensures.only_read ∙ same1 in
    let header = c.in_ok-agi.ensures.right known in
    let leaf = subst (λ (l : List Sector). HoldsIn k l tree a.group × records_of k l a.group ≡ c.in_ok-leaf.leaf) same1
    (c.in_ok-leaf.ensures.right known (ap (λ (l : List Sector). header_of k l a.group) same1 ∙ header.1)) in
    let records2 = ap (λ (l : List Sector). records_of k l a.group) same2 ∙ leaf.1 in
    let f = c.in_ok-found.found in
    let all = subst (λ (l : List Sector). AllGathered k l a.group f.map f.fork f.shared) same2 (c.in_ok-found.ensures.right known records2).0 in
    let cores = cores_hold k image a.group f.map f.fork f.shared all in
    let no_fork : f.fork ≡ None = c.in_default.is in
    let all1 = subst (λ (o : Option ℕ). AllGathered k image a.group f.map o f.shared) no_fork all in
    let forks = forks_hold k image a.group f.map f.shared all1 in
    let same3 : g.V.View.image c.check_inodes.new.view ≡ image = laws.image_stays c.check_leaf.new.view c.check_inodes.new.view c.check_inodes.ensures.only_read ∙ same2 in
    let no_shared : f.shared ≡ None = c.in_default-shared.is in
    let all2 = subst (λ (o : Option ℕ). AllGathered k image a.group f.map None o) no_shared all1 in
    let alone = blocks_hold k image a.group f.map all2 in
    let free : f.map ≡ free_set k.blocks (group_read k image a.group) =
    left_is_free k image a.group all.bound c.in_ok-leaf.leaf f.map leaf.1 (subst IsLeaf leaf.1 leaf.0.0.leaf)
    (λ place i chunk is at low. c.chunks_are_read.ensures.found k image a.group place i chunk is at low)
    (λ agino inode e. c.chunks_are_read.ensures.only k image a.group agino inode e) all.none (all.gathered.left no_fork no_shared) in
    let free3 = free ∙ ap (λ (l : List Sector). free_set k.blocks (group_read k l a.group)) (sym same3) in
    let fault = c.in_err-check_bitmap.field-0.0 in
    passed_up c.from_residual-in_err-check_bitmap.result fault (FaultIn k image a.group) c.from_residual-in_err-check_bitmap.ensures.1
    (bitmap_fault k image a.group fault header.0 leaf.0 cores forks alone (subst (λ (l : List Sector). BitmapFault k l a.group fault) same3 (c.in_err-check_bitmap.ensures.fault known free3)))

pub returns-clause-right : goal.returns-clause-right
returns-clause-right g c known =
    let a = c.args in
    let k = a.g.now in
    let laws = g.met.V.View in
    let image : List Sector = g.V.View.image a.view.now in
    let same1 : g.V.View.image c.check_header.new.view ≡ image = laws.image_stays a.view.now c.check_header.new.view c.check_header.ensures.only_read in
    let same2 : g.V.View.image c.check_leaf.new.view ≡ image = laws.image_stays c.check_header.new.view c.check_leaf.new.view c.check_leaf.ensures.only_read ∙ same1 in
    let header = c.in_ok-agi.ensures.right known in
    let leaf = subst (λ (l : List Sector). HoldsIn k l tree a.group × records_of k l a.group ≡ c.in_ok-leaf.leaf) same1
    (c.in_ok-leaf.ensures.right known (ap (λ (l : List Sector). header_of k l a.group) same1 ∙ header.1)) in
    let records2 = ap (λ (l : List Sector). records_of k l a.group) same2 ∙ leaf.1 in
    let f = c.in_ok-found.found in
    let all = subst (λ (l : List Sector). AllGathered k l a.group f.map f.fork f.shared) same2 (c.in_ok-found.ensures.right known records2).0 in
    let cores = cores_hold k image a.group f.map f.fork f.shared all in
    let no_fork : f.fork ≡ None = c.in_default.is in
    let all1 = subst (λ (o : Option ℕ). AllGathered k image a.group f.map o f.shared) no_fork all in
    let forks = forks_hold k image a.group f.map f.shared all1 in
    let same3 : g.V.View.image c.check_inodes.new.view ≡ image = laws.image_stays c.check_leaf.new.view c.check_inodes.new.view c.check_inodes.ensures.only_read ∙ same2 in
    let no_shared : f.shared ≡ None = c.in_default-shared.is in
    let all2 = subst (λ (o : Option ℕ). AllGathered k image a.group f.map None o) no_shared all1 in
    let alone = blocks_hold k image a.group f.map all2 in
    let free : f.map ≡ free_set k.blocks (group_read k image a.group) =
    left_is_free k image a.group all.bound c.in_ok-leaf.leaf f.map leaf.1 (subst IsLeaf leaf.1 leaf.0.0.leaf)
    (λ place i chunk is at low. c.chunks_are_read.ensures.found k image a.group place i chunk is at low)
    (λ agino inode e. c.chunks_are_read.ensures.only k image a.group agino inode e) all.none (all.gathered.left no_fork no_shared) in
    let free3 = free ∙ ap (λ (l : List Sector). free_set k.blocks (group_read k l a.group)) (sym same3) in
    let bits = subst (λ (l : List Sector). HoldsIn k l bitmap a.group) same3 (c.in_ok-check_bitmap.ensures.right known free3) in (
      up_to_bitmap (λ (rule : Rule). HoldsIn k image rule a.group) header.0 leaf.0 cores forks alone bits,
      header.1,
      subst (λ (l : List Sector). AllNoted k l a.group f.links.orphans.entries f.links.pointing) same2 (c.in_ok-found.ensures.right known records2).1,
      record {
        chunks = c.count-tables.ensures.chunks ∙ ap (λ (cs : List ChunkRec). length cs) (sym leaf.1) ∙ sym (c.groups_are_counted.ensures.chunks k image a.group);
        inodes = omega (
          arith,
          c.count-tables.ensures.inodes,
          ap (λ (agi : Agi). agi.count) header.1,
          ap (λ (agi : Agi). agi.free) header.1,
          leaf.0.1.count,
          leaf.0.1.free,
          c.groups_are_counted.ensures.inodes k image a.group leaf.0.0.leaf,
        );
        orphans = c.count-tables.ensures.orphans ∙ c.in_ok-found.ensures.counted known records2 ∙ ap (λ (l : List Sector). orphans_in_group (group_read k l a.group)) same2;
      },
    )
