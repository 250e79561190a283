use Rattle.std.proofs.Common.{◌≡◌, ◌<◌, ◌/◌, length, rules, subst, sym}
use Rattle.life_limits.specs.declared.TheConstants.{GROUP_NUMBERS}
use Rattle.life_table.specs.declared.key.Key.{Key}
use Rattle.life_table.specs.History.{closed}
use Rattle.group_ops.specs.Represents.{IsGroupOf}
use Rattle.group_ops.specs.Values.{StateValue}
use Rattle.tests_group_ops.proofs.Turning.{freed_seen, listed_awaits}
use Rattle.tests_group_ops.proofs.calls.free_listed.Goals as goal

pub free-requires-clause-awaits : goal.free-requires-clause-awaits
free-requires-clause-awaits c =
    let s = c.args.group.now.state in
    let r = c.requires.represents in
    let key : Key = c.index-key.result.now in
    let low : c.args.place < length c.in_ok-keys.keys.items = search rules in
    let seen = subst (λ (x : StateValue). IsGroupOf x r.0 r.1) (sym c.state.ensures) r.2 in
    let awaits = listed_awaits r.0 c.state.result.now.group c.in_ok-keys.keys.items c.args.place key (c.in_ok-keys.ensures.rows r.0 r.1 seen) low c.index-key.ensures (c.changes_pass_over_holds.ensures.rows r.0 key) in
    (closed r.0, r.1, subst (λ (x : StateValue). IsGroupOf x (closed r.0) r.1) (sym c.state-2.ensures) (c.groups_pass_over_holds.ensures.holds s r.0 r.1 r.2), awaits)

pub settle-requires-clause-may : goal.settle-requires-clause-may
settle-requires-clause-may c =
    let s = c.args.group.now.state in
    let r = c.requires.represents in
    let key : Key = c.index-key.result.now in
    let low : c.args.place < length c.in_ok-keys.keys.items = search rules in
    let own : key.number / GROUP_NUMBERS ≡ s.group = search rules in
    let seen = subst (λ (x : StateValue). IsGroupOf x r.0 r.1) (sym c.state.ensures) r.2 in
    let awaits = listed_awaits r.0 c.state.result.now.group c.in_ok-keys.keys.items c.args.place key (c.in_ok-keys.ensures.rows r.0 r.1 seen) low c.index-key.ensures (c.changes_pass_over_holds.ensures.rows r.0 key) in
    let is = subst (λ (x : StateValue). IsGroupOf x (closed r.0) r.1) (sym c.state-2.ensures) (c.groups_pass_over_holds.ensures.holds s r.0 r.1 r.2) in
    freed_seen c.changes_are_events.ensures.free s c.state-2.result.now c.in_ok-change.change key (closed r.0) r.1 c.state-2.ensures c.requires own awaits (c.in_ok-change.ensures (closed r.0) r.1 is awaits)
