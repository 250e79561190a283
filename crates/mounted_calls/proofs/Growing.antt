-- The record and the log of a mount, with one call more.
use Rattle.std.proofs.Common.{◌≡◌, ◌≤◌, ◌+◌, ℕ, Bool, true, false, List, [], ◌∷◌, ◌++◌, length, refl, ap, sym, subst, ◌∙◌, length-append, arith}
use Rattle.disk_model.specs.Disk.{Cell}
use Rattle.geometry.specs.declared.shape.Geometry.{Geometry}
use Rattle.log_record.specs.declared.image.Commit.{Commit}
use Rattle.log_store.specs.State.{State}
use Rattle.life_table.specs.declared.types.Call.{Call}
use Rattle.life_table.specs.declared.types.Reply.{Reply}
use Rattle.life_table.specs.declared.types.Event.TheVariants.{Called}
use Rattle.life_table.specs.declared.types.Entry.{Entry}
use Rattle.life_table.specs.declared.types.MountRecord.{MountRecord}
use Rattle.life_table.specs.declared.table.Table.{Table}
use Rattle.life_table.specs.Legal.{Permits, after_call}
use Rattle.life_table.specs.History.{After, IsHeld, Leads, changes, closed, is_change, key_of}
use Rattle.sound_image.specs.Encoding.{Layouts}
use Rattle.commit_history.specs.Carried.{CommitCarries}
use Rattle.mount.specs.Ending.{IsStoreOf}
use Rattle.run_history.specs.Mounts.{changes_made, covered}
use Rattle.mounted_calls.specs.Calls.{entry_of, with_call}
use Rattle.mounted_calls.specs.Running.{IsLogOf, IsRecordOf, NoneAwaits}
use Rattle.mounted_calls.proofs.Following.{of_added, of_more}
use Rattle.mounted_calls.proofs.Histories.{after_more, change_more, legal_more, most_covered_more, no_change_more, places_more}

-- the record with a call more
pub record_more : (start t : Table) (story : MountRecord) (actor : ℕ) (made : Call) (answer : Reply) → IsRecordOf start t story → Permits t made answer
    → IsHeld story.entries actor (key_of made) → NoneAwaits (after_call t made answer) → IsRecordOf start (after_call t made answer) (with_call story actor made answer)
record_more start t story actor made answer is permits held none =
    let entry : Entry = entry_of actor made answer in
    record {
      table = is.table;
      legal = legal_more start t (after_call t made answer) story.entries entry is.legal (permits, refl) held;
      awaits = none;
      places = ap (λ (froms : List ℕ). froms ++ length story.entries ∷ []) is.places ∙ sym (places_more story.entries entry);
      begun = omega (arith, is.begun, length-append story.entries (entry ∷ []));
      acknowledged = refl;
    }

-- what is acknowledged then
acknowledged_more : (start t : Table) (story : MountRecord) (actor durable : ℕ) (made : Call) (answer : Reply) → IsRecordOf start t story → story.acknowledged ≤ durable
    → covered (Called made answer) ≤ durable → (with_call story actor made answer).acknowledged ≤ durable
acknowledged_more start t story actor durable made answer is few covers =
    let more = most_covered_more story.entries (entry_of actor made answer) in
    omega (arith, is.acknowledged, few, covers, more)

-- a call that is no change leaves the log
pub log_stays : (known : Bool) (g : Geometry) (start t : Table) (layouts : Layouts) (story : MountRecord) (actor : ℕ) (made : Call) (answer : Reply) (s : State) (cells : List Cell)
    → IsRecordOf start t story → (is : IsLogOf known g start layouts story s cells) → is_change (Called made answer) ≡ false → covered (Called made answer) ≤ is.durable
    → IsLogOf known g start layouts (with_call story actor made answer) s cells
log_stays known g start t layouts story actor made answer s cells of is none covers =
    let entry : Entry = entry_of actor made answer in
    let all = ap (λ (es : List Entry). length es) (no_change_more story.entries entry none) in
    record {
      anchor = is.anchor;
      ring = is.ring;
      durable = is.durable;
      acknowledged = acknowledged_more start t story actor is.durable made answer of is.acknowledged covers;
      number = is.number;
      made = is.made ∙ sym all;
      lists = is.lists;
      commits = of_more g start story.entries (entry ∷ []) is.durable is.lists layouts s.list (omega (arith, is.made)) is.commits;
      base = λ tells. subst (λ (u : Table). IsStoreOf g u is.lists s cells) (sym (after_more start story.entries (entry ∷ []) is.durable (omega (arith, is.made)))) (is.base tells);
    }

-- a change whose commit waits then
pub log_grows : (known : Bool) (g : Geometry) (start t : Table) (layouts others : Layouts) (story : MountRecord) (actor : ℕ) (made : Call) (answer : Reply) (s : State) (cells : List Cell) (commit : Commit)
    → ((u v : Table) (entries : List Entry) → Leads u entries v → After u entries (length (changes entries)) ≡ closed v)
    → IsRecordOf start t story → IsRecordOf start (after_call t made answer) (with_call story actor made answer) → IsLogOf known g start layouts story s cells
    → is_change (Called made answer) ≡ true → covered (Called made answer) ≡ 0 → CommitCarries g (closed t) layouts (closed (after_call t made answer)) others commit
    → IsLogOf known g start others (with_call story actor made answer) (record s { list = s.list ++ commit ∷ [] }) cells
log_grows known g start t layouts others story actor made answer s cells commit all of next is change covers carries =
    let entry : Entry = entry_of actor made answer in
    let u : Table = after_call t made answer in
    let more : length (changes (story.entries ++ entry ∷ [])) ≡ changes_made story + 1 = ap (λ (es : List Entry). length es) (change_more story.entries entry change) ∙ length-append (changes story.entries) (entry ∷ []) in
    let before : After start (story.entries ++ entry ∷ []) (is.durable + length s.list) ≡ closed t =
    after_more start story.entries (entry ∷ []) (is.durable + length s.list) (omega (arith, is.made)) ∙ ap (λ (n : ℕ). After start story.entries n) is.made ∙ all start t story.entries of.legal.leads in
    let after : After start (story.entries ++ entry ∷ []) (is.durable + length s.list + 1) ≡ closed u =
    ap (λ (n : ℕ). After start (story.entries ++ entry ∷ []) n) (ap (λ (n : ℕ). n + 1) is.made ∙ sym more) ∙ all start u (story.entries ++ entry ∷ []) next.legal.leads in
    let carried : CommitCarries g (After start (story.entries ++ entry ∷ []) (is.durable + length s.list)) layouts (After start (story.entries ++ entry ∷ []) (is.durable + length s.list + 1)) others commit =
    subst (λ (v : Table). CommitCarries g v layouts (After start (story.entries ++ entry ∷ []) (is.durable + length s.list + 1)) others commit) (sym before)
    (subst (λ (v : Table). CommitCarries g (closed t) layouts v others commit) (sym after) carries) in
    record {
      anchor = is.anchor;
      ring = is.ring;
      durable = is.durable;
      acknowledged = acknowledged_more start t story actor is.durable made answer of is.acknowledged (omega (arith, covers));
      number = is.number;
      made = omega (arith, is.made, more, length-append s.list (commit ∷ []));
      lists = is.lists;
      commits = of_added g start (story.entries ++ entry ∷ []) is.durable is.lists layouts others s.list commit
          (of_more g start story.entries (entry ∷ []) is.durable is.lists layouts s.list (omega (arith, is.made)) is.commits) carried;
      base = λ tells.
          let was = is.base tells in
          let same : IsStoreOf g (After start story.entries is.durable) is.lists (record s { list = s.list ++ commit ∷ [] }) cells =
          record { anchor = was.anchor; ring = was.ring; superblock = was.superblock; encodes = was.encodes } in
          subst (λ (v : Table). IsStoreOf g v is.lists (record s { list = s.list ++ commit ∷ [] }) cells) (sym (after_more start story.entries (entry ∷ []) is.durable (omega (arith, is.made)))) same;
    }
