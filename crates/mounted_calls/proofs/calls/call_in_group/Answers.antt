use Rattle.std.proofs.Common.{◌∙◌, ℕ, refl, subst, sym}
use Rattle.life_table.specs.declared.types.Entry.{Entry}
use Rattle.life_table.specs.declared.types.Reply.{Reply}
use Rattle.life_table.specs.Replies.{reply_of}
use Rattle.log_store.specs.State.{state_of}
use Rattle.mounted_calls.specs.Calls.{entry_of}
use Rattle.mounted_calls.specs.Decisions.{Decides, IsCallIn, IsSettled, MaySettle, MayTake}
use Rattle.mounted_calls.proofs.Asked.{some_at}
use Rattle.mounted_calls.proofs.Whole.{IsRoomier, made_whole, on_err, ready, still_asks, told_call, unmade, with_entry}
use Rattle.mounted_calls.proofs.calls.call_in_group.Goals as goal

pub make_room-requires-clause-inside : goal.make_room-requires-clause-inside
make_room-requires-clause-inside g c =
    let d = g.D.Disk in
    let m = c.args.mounted.now in
    let run = c.requires.running in
    let k : ℕ = c.group_of-group.result in
    let asks : IsCallIn m.geometry.groups k m.story.entries c.args.actor c.args.called =
    record { kind = c.requires.kind; own = c.group_of-group.ensures; names = c.requires.group; held = c.requires.held } in
    (c.calls_find_their_group.ensures d.known m.geometry run.0 run.1 run.2.layouts m.story m.groups.items (state_of m.store) (d.cells m.store.disk) k c.args.actor c.args.called run.2.parts asks).0

pub returns-in_err-make_room-clause-unmade : goal.returns-in_err-make_room-clause-unmade
returns-in_err-make_room-clause-unmade g c = λ start t run.
    let d = g.D.Disk in
    let e = c.make_room.ensures in
    on_err _ c.from_residual.result (unmade d.known d.cells d.sector_count start t c.args.mounted.now c.make_room.new.mounted run
    (record { groups = e.groups; store = e.store; state = e.state; disk = e.disk; job = e.job; geometry = e.geometry; story = e.story }))

pub decide_in-requires-clause-inside : goal.decide_in-requires-clause-inside
decide_in-requires-clause-inside g c =
    let d = g.D.Disk in
    let m = c.args.mounted.now in
    let n = c.make_room.new.mounted in
    let e = c.make_room.ensures in
    let run = c.requires.running in
    let k : ℕ = c.group_of-group.result in
    let roomy : IsRoomier d.known d.cells d.sector_count m n = record { groups = e.groups; store = e.store; state = e.state; disk = e.disk; job = e.job; geometry = e.geometry; story = e.story } in
    let asks = still_asks d.known d.cells d.sector_count k c.args.actor c.args.called m n roomy
    (record { kind = c.requires.kind; own = c.group_of-group.ensures; names = c.requires.group; held = c.requires.held }) in
    (c.calls_find_their_group.ensures d.known n.geometry run.0 run.1 run.2.layouts n.story n.groups.items (state_of n.store) (d.cells n.store.disk) k c.args.actor c.args.called
    (ready d.known d.cells d.sector_count run.0 run.1 m n run.2 roomy) asks).0

pub decide_in-requires-clause-own : goal.decide_in-requires-clause-own
decide_in-requires-clause-own g c = λ of at.
    let d = g.D.Disk in
    let m = c.args.mounted.now in
    let n = c.make_room.new.mounted in
    let e = c.make_room.ensures in
    let run = c.requires.running in
    let k : ℕ = c.group_of-group.result in
    let roomy : IsRoomier d.known d.cells d.sector_count m n = record { groups = e.groups; store = e.store; state = e.state; disk = e.disk; job = e.job; geometry = e.geometry; story = e.story } in
    let asks = still_asks d.known d.cells d.sector_count k c.args.actor c.args.called m n roomy
    (record { kind = c.requires.kind; own = c.group_of-group.ensures; names = c.requires.group; held = c.requires.held }) in
    ((c.calls_find_their_group.ensures d.known n.geometry run.0 run.1 run.2.layouts n.story n.groups.items (state_of n.store) (d.cells n.store.disk) k c.args.actor c.args.called
    (ready d.known d.cells d.sector_count run.0 run.1 m n run.2 roomy) asks).1 of at).0

pub decide_in-requires-clause-can : goal.decide_in-requires-clause-can
decide_in-requires-clause-can g c = λ of at.
    let d = g.D.Disk in
    let m = c.args.mounted.now in
    let n = c.make_room.new.mounted in
    let e = c.make_room.ensures in
    let run = c.requires.running in
    let k : ℕ = c.group_of-group.result in
    let roomy : IsRoomier d.known d.cells d.sector_count m n = record { groups = e.groups; store = e.store; state = e.state; disk = e.disk; job = e.job; geometry = e.geometry; story = e.story } in
    let asks = still_asks d.known d.cells d.sector_count k c.args.actor c.args.called m n roomy
    (record { kind = c.requires.kind; own = c.group_of-group.ensures; names = c.requires.group; held = c.requires.held }) in
    ((c.calls_find_their_group.ensures d.known n.geometry run.0 run.1 run.2.layouts n.story n.groups.items (state_of n.store) (d.cells n.store.disk) k c.args.actor c.args.called
    (ready d.known d.cells d.sector_count run.0 run.1 m n run.2 roomy) asks).1 of at).1

pub returns-in_err-reply-clause-unmade : goal.returns-in_err-reply-clause-unmade
returns-in_err-reply-clause-unmade g c = λ start t run.
    let d = g.D.Disk in
    let e = c.make_room.ensures in
    on_err _ c.from_residual-in_err-reply.result (unmade d.known d.cells d.sector_count start t c.args.mounted.now c.make_room.new.mounted run
    (record { groups = e.groups; store = e.store; state = e.state; disk = e.disk; job = e.job; geometry = e.geometry; story = e.story }))

pub returns-in_err-record_call-clause-unmade : goal.returns-in_err-record_call-clause-unmade
returns-in_err-record_call-clause-unmade g c = λ start t run.
    let d = g.D.Disk in
    let e = c.make_room.ensures in
    let n = c.make_room.new.mounted in
    on_err _ c.from_residual-in_err-record_call.result (unmade d.known d.cells d.sector_count start t c.args.mounted.now
    (record { groups = n.groups; store = n.store; geometry = n.geometry; story = c.record_call.new.story }) run
    (record { groups = e.groups; store = e.store; state = e.state; disk = e.disk; job = e.job; geometry = e.geometry; story = c.in_err-record_call.ensures.kept ∙ e.story }))

pub settle-requires-clause-inside : goal.settle-requires-clause-inside
settle-requires-clause-inside g c =
    let d = g.D.Disk in
    let m = c.args.mounted.now in
    let n = c.make_room.new.mounted in
    let e = c.make_room.ensures in
    let run = c.requires.running in
    let k : ℕ = c.group_of-group.result in
    let roomy : IsRoomier d.known d.cells d.sector_count m n = record { groups = e.groups; store = e.store; state = e.state; disk = e.disk; job = e.job; geometry = e.geometry; story = e.story } in
    let asks = still_asks d.known d.cells d.sector_count k c.args.actor c.args.called m n roomy
    (record { kind = c.requires.kind; own = c.group_of-group.ensures; names = c.requires.group; held = c.requires.held }) in
    (c.calls_find_their_group.ensures d.known n.geometry run.0 run.1 run.2.layouts n.story n.groups.items (state_of n.store) (d.cells n.store.disk) k c.args.actor c.args.called
    (ready d.known d.cells d.sector_count run.0 run.1 m n run.2 roomy) asks).0

pub settle-requires-clause-may : goal.settle-requires-clause-may
settle-requires-clause-may g c = λ of at.
    let d = g.D.Disk in
    let m = c.args.mounted.now in
    let n = c.make_room.new.mounted in
    let e = c.make_room.ensures in
    let run = c.requires.running in
    let k : ℕ = c.group_of-group.result in
    let roomy : IsRoomier d.known d.cells d.sector_count m n = record { groups = e.groups; store = e.store; state = e.state; disk = e.disk; job = e.job; geometry = e.geometry; story = e.story } in
    let asks = still_asks d.known d.cells d.sector_count k c.args.actor c.args.called m n roomy
    (record { kind = c.requires.kind; own = c.group_of-group.ensures; names = c.requires.group; held = c.requires.held }) in
    let parts = ready d.known d.cells d.sector_count run.0 run.1 m n run.2 roomy in
    let decides : Decides of.state run.1 run.2.layouts c.args.called c.in_ok-reply.field-0 = c.in_ok-reply.ensures of run.1 run.2.layouts at (parts.groups_of.each k of at).represents in
    let may = c.decisions_may_be_made.ensures d.known n.geometry run.0 run.1 run.2.layouts n.story n.groups.items (state_of n.store) (d.cells n.store.disk) k c.args.actor c.args.called of c.in_ok-reply.field-0
    parts asks at decides in
    subst (λ (x : Entry). MaySettle x c.in_ok-reply.field-0.change of.state) (sym c.call_entry-again.ensures)
    (subst (λ (a : Reply). MaySettle (entry_of c.args.actor c.args.called a) c.in_ok-reply.field-0.change of.state) (sym decides.again) may.0)

pub settle-requires-clause-fits : goal.settle-requires-clause-fits
settle-requires-clause-fits g c =
    let d = g.D.Disk in
    let m = c.args.mounted.now in
    let n = c.make_room.new.mounted in
    let e = c.make_room.ensures in
    let run = c.requires.running in
    let k : ℕ = c.group_of-group.result in
    let roomy : IsRoomier d.known d.cells d.sector_count m n = record { groups = e.groups; store = e.store; state = e.state; disk = e.disk; job = e.job; geometry = e.geometry; story = e.story } in
    let asks = still_asks d.known d.cells d.sector_count k c.args.actor c.args.called m n roomy
    (record { kind = c.requires.kind; own = c.group_of-group.ensures; names = c.requires.group; held = c.requires.held }) in
    let parts = ready d.known d.cells d.sector_count run.0 run.1 m n run.2 roomy in
    let inside = (c.calls_find_their_group.ensures d.known n.geometry run.0 run.1 run.2.layouts n.story n.groups.items (state_of n.store) (d.cells n.store.disk) k c.args.actor c.args.called parts asks).0 in
    let found = some_at n.groups.items k inside in
    let decides : Decides found.0.state run.1 run.2.layouts c.args.called c.in_ok-reply.field-0 =
    c.in_ok-reply.ensures found.0 run.1 run.2.layouts found.1 (parts.groups_of.each k found.0 found.1).represents in
    let may = c.decisions_may_be_made.ensures d.known n.geometry run.0 run.1 run.2.layouts n.story n.groups.items (state_of n.store) (d.cells n.store.disk) k c.args.actor c.args.called found.0 c.in_ok-reply.field-0
    parts asks found.1 decides in
    subst (λ (x : ℕ). MayTake x c.in_ok-reply.field-0.change) (sym parts.log.anchor) may.1

pub returns-clause-made : goal.returns-clause-made
returns-clause-made g c = λ start t run.
    let d = g.D.Disk in
    let m = c.args.mounted.now in
    let n = c.make_room.new.mounted in
    let e = c.make_room.ensures in
    let k : ℕ = c.group_of-group.result in
    let of = c.in_ok-reply.field-0 in
    let roomy : IsRoomier d.known d.cells d.sector_count m n = record { groups = e.groups; store = e.store; state = e.state; disk = e.disk; job = e.job; geometry = e.geometry; story = e.story } in
    let asks = still_asks d.known d.cells d.sector_count k c.args.actor c.args.called m n roomy
    (record { kind = c.requires.kind; own = c.group_of-group.ensures; names = c.requires.group; held = c.requires.held }) in
    let parts = ready d.known d.cells d.sector_count start t m n run roomy in
    let inside = (c.calls_find_their_group.ensures d.known n.geometry start t run.layouts n.story n.groups.items (state_of n.store) (d.cells n.store.disk) k c.args.actor c.args.called parts asks).0 in
    let found = some_at n.groups.items k inside in
    let decides : Decides found.0.state t run.layouts c.args.called of = c.in_ok-reply.ensures found.0 t run.layouts found.1 (parts.groups_of.each k found.0 found.1).represents in
    let settled : IsSettled k (entry_of c.args.actor c.args.called (reply_of t c.args.called)) of.change n.groups.items c.settle.new.groups.items =
    subst (λ (a : Reply). IsSettled k (entry_of c.args.actor c.args.called a) of.change n.groups.items c.settle.new.groups.items) decides.again
    (subst (λ (x : Entry). IsSettled k x of.change n.groups.items c.settle.new.groups.items) c.call_entry-again.ensures c.settle.ensures.settled) in
    let goes = c.made_calls_go_on.ensures d.known n.geometry start t run.layouts n.story n.groups.items c.settle.new.groups.items (state_of n.store) (d.cells n.store.disk) k c.args.actor c.args.called found.0 of
    parts asks found.1 decides settled in
    made_whole d.known d.cells d.sector_count start t c.args.actor c.args.called (reply_of t c.args.called) m n
    (record { groups = c.settle.new.groups; store = c.settle.new.store; geometry = n.geometry; story = c.record_call.new.story }) _ goes.0 run roomy refl
    (c.in_ok-record_call.ensures.added ∙ with_entry n.story c.call_entry-entry.result (entry_of c.args.actor c.args.called of.reply) c.call_entry-entry.ensures ∙ told_call start t n.story c.args.actor c.args.called of.reply (reply_of t c.args.called) parts.told decides.reply)
    goes.1 c.settle.ensures.list refl c.settle.ensures.disk c.settle.ensures.job c.settle.ensures.store
