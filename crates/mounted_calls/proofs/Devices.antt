-- A mount once a call that asks the device is answered.
use Rattle.std.proofs.Common.{◌≡◌, ◌≤◌, ℕ, Bool, false, List, [], ◌∷◌, ◌++◌, None, length, refl, ap, sym, subst, ◌∙◌, arith}
use Rattle.std.specs.Prelude.{max}
use Rattle.disk_model.specs.Disk.{Cell}
use Rattle.geometry.specs.declared.shape.Geometry.{Geometry}
use Rattle.log_store.specs.State.{State}
use Rattle.life_table.specs.declared.types.Call.{Call}
use Rattle.life_table.specs.declared.types.Call.TheVariants as call
use Rattle.life_table.specs.declared.types.Reply.{Reply}
use Rattle.life_table.specs.declared.types.Event.TheVariants.{Called}
use Rattle.life_table.specs.declared.types.MountRecord.{MountRecord}
use Rattle.life_table.specs.declared.table.Table.{Table}
use Rattle.life_table.specs.Legal.{Permits, after_call}
use Rattle.life_table.specs.History.{IsHeld, is_change, key_of}
use Rattle.sound_image.specs.Encoding.{Layouts}
use Rattle.group_core.specs.GroupHistory.{call_group}
use Rattle.group_core.specs.Value.{GroupValue}
use Rattle.group_ops.specs.Values.{StateValue}
use Rattle.run_history.specs.Mounts.{covered, most_covered}
use Rattle.mounted_calls.specs.Calls.{entry_of, with_call}
use Rattle.mounted_calls.specs.Running.{AreRunning, IsRecordOf, NoneAwaits}
use Rattle.mounted_calls.proofs.Groups.{no_entry}
use Rattle.mounted_calls.proofs.Growing.{log_stays, record_more}
use Rattle.mounted_calls.proofs.Histories.{most_covered_more}

-- the record as the code leaves it is the one with the call
pub recorded : (start t : Table) (story : MountRecord) (actor : ℕ) (made : Call) (answer : Reply) → IsRecordOf start t story
    → record story { entries = story.entries ++ entry_of actor made answer ∷ []; froms = story.froms ++ length story.entries ∷ []; acknowledged = max story.acknowledged (covered (Called made answer)) }
    ≡ with_call story actor made answer
recorded start t story actor made answer is =
    let more = most_covered_more story.entries (entry_of actor made answer) in
    let e : max story.acknowledged (covered (Called made answer)) ≡ max story.freed (most_covered (story.entries ++ entry_of actor made answer ∷ [])) = omega (arith, more, is.acknowledged) in
    let whole : ℕ → MountRecord = λ n. record (with_call story actor made answer) { acknowledged = n } in
    ap whole e

-- a call that asks the device
pub record AsksDevice (made : Call) : Type 0 where
  pub group : call_group made ≡ None
  pub key : key_of made ≡ None
  pub stays : (t : Table) (answer : Reply) → after_call t made answer ≡ t
  pub change : (answer : Reply) → is_change (Called made answer) ≡ false

pub sync_asks : AsksDevice call.Sync
sync_asks = record { group = refl; key = refl; stays = λ t answer. refl; change = λ answer. refl }

pub home_asks : AsksDevice call.Home
home_asks = record { group = refl; key = refl; stays = λ t answer. refl; change = λ answer. refl }

pub answered_on : (known : Bool) (g : Geometry) (start t : Table) (layouts : Layouts) (story : MountRecord) (groups : List (GroupValue StateValue)) (s : State) (cells : List Cell) (actor : ℕ) (made : Call) (answer : Reply)
    → AsksDevice made → (are : AreRunning known g start t layouts story groups s cells) → Permits t made answer → covered (Called made answer) ≤ are.log.durable
    → AreRunning known g start t layouts (with_call story actor made answer) groups s cells
answered_on known g start t layouts story groups s cells actor made answer asks are permits covers =
    let held : IsHeld story.entries actor (key_of made) = subst (IsHeld story.entries actor) (sym asks.key) tt in
    let same = asks.stays t answer in
    let next = record_more start t story actor made answer are.told permits held (subst NoneAwaits (sym same) are.told.awaits) in
    record {
      told = subst (λ (u : Table). IsRecordOf start u (with_call story actor made answer)) same next;
      groups_of = record {
        shape = are.groups_of.shape;
        count = are.groups_of.count;
        each = are.groups_of.each;
        histories = λ k group at. are.groups_of.histories k group at ∙ sym (no_entry k story actor made answer are.told.begun asks.group);
      };
      log = log_stays known g start t layouts story actor made answer s cells are.told are.log (asks.change answer) covers;
    }
