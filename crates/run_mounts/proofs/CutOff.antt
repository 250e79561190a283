-- What is acknowledged of a mount that ended, and of one that was left.
use Rattle.std.proofs.Common.{◌≡◌, ◌≤◌, ℕ, suc, List, [], ◌∷◌, ◌++◌, length, take, Option, Some, refl, ap, sym, ◌∙◌, arith}
use Rattle.std.specs.Prelude.{slice_get}
use Rattle.std.proofs.Math.Seq.{take-length}
use Rattle.std.proofs.lemmas.List.{length-map, length-take-le}
use Rattle.life_limits.specs.declared.TheConstants.{MAX_ACTORS}
use Rattle.life_table.specs.declared.key.Key.{Key}
use Rattle.life_table.specs.declared.types.Call.{Call}
use Rattle.life_table.specs.declared.types.Reply.TheVariants as reply
use Rattle.life_table.specs.declared.types.Event.{Event}
use Rattle.life_table.specs.declared.types.Event.TheVariants.{Called, Freed}
use Rattle.life_table.specs.declared.types.Entry.{Entry}
use Rattle.life_table.specs.declared.types.MountRecord.{MountRecord}
use Rattle.life_table.specs.History.{changes, frees_of, is_change}
use Rattle.run_history.specs.Answers.{IsFresh}
use Rattle.run_history.specs.Mounts.{changes_made, covered, most_covered}
use Rattle.run_history.specs.NextMount.{IsAcknowledgedRight}
use Rattle.std.proofs.lemmas.List.Elements.{filter-append}
use Rattle.std.proofs.lemmas.List.{length-append, take-append-drop}
use Rattle.std.proofs.Common.{drop}

changes-first : (n : ℕ) (entries : List Entry) → length (changes (take n entries)) ≤ length (changes entries)
changes-first n entries =
    let parts : changes entries ≡ changes (take n entries) ++ changes (drop n entries) =
    ap changes (sym (take-append-drop n entries)) ∙ filter-append (λ (entry : Entry). is_change entry.event) (take n entries) (drop n entries) in
    let long = ap length parts ∙ length-append (changes (take n entries)) (changes (drop n entries)) in omega (arith, long)

free-changes : (actor : ℕ) (keys : List Key) → length (changes (frees_of actor keys)) ≡ length (frees_of actor keys)
free-changes actor [] = refl
free-changes actor (key ∷ keys) = ap suc (free-changes actor keys)

-- what recovery freed are changes of the mount
pub freed-few : (story : MountRecord) (keys : List Key) → story.freed ≤ length story.entries → take story.freed story.entries ≡ frees_of MAX_ACTORS keys → story.freed ≤ changes_made story
freed-few story keys within frees =
    let a = changes-first story.freed story.entries in
    let b = ap (λ (es : List Entry). length (changes es)) frees ∙ free-changes MAX_ACTORS keys in
    let c = ap length (sym frees) ∙ length-take-le story.freed story.entries within in omega (arith, a, b, c)

covered-few : (n : ℕ) (event : Event) → ((durable : ℕ) (made : Call) → event ≡ Called made (reply.Covered durable) → durable ≤ n) → covered event ≤ n
covered-few n (Called made (reply.Covered durable)) each = each durable made refl
covered-few n event each = omega arith

most-few : (n : ℕ) (entries : List Entry) → ((i : ℕ) (entry : Entry) → slice_get entries i ≡ Some entry → covered entry.event ≤ n) → most_covered entries ≤ n
most-few n [] each = omega arith
most-few n (entry ∷ entries) each =
    let a = each 0 entry refl in
    let b = most-few n entries (λ i other is. each (suc i) other is) in omega (arith, a, b)

abbrev with-event : ℕ → Event → Option Entry
with-event actor event = Some (record { actor = actor; event = event })

-- so is what syncs were answered
pub covered-few-all : (story : MountRecord) → IsAcknowledgedRight story → most_covered story.entries ≤ changes_made story
covered-few-all story right =
    most-few (changes_made story) story.entries (λ i entry is.
    covered-few (changes_made story) entry.event (λ durable made same.
    let at : slice_get story.entries i ≡ Some (record { actor = entry.actor; event = Called made (reply.Covered durable) }) =
    is ∙ ap (with-event entry.actor) same in
    let a = right.most i entry.actor durable made at in
    let b = changes-first i story.entries in omega (arith, a, b)))

-- a record of frees alone, which are those of the first keys
pub fresh-frees : (story : MountRecord) (keys : List Key) → IsFresh story → take story.freed story.entries ≡ frees_of MAX_ACTORS keys → story.entries ≡ frees_of MAX_ACTORS (take story.freed keys)
fresh-frees story keys fresh frees =
    let size : length story.entries ≡ story.freed = ap length fresh.entries ∙ length-map fresh.keys (λ (key : Key). record { actor = MAX_ACTORS; event = Freed key }) ∙ sym fresh.freed in
    let whole : take story.freed story.entries ≡ story.entries = ap (λ (n : ℕ). take n story.entries) (sym size) ∙ take-length story.entries in
    let same : story.entries ≡ frees_of MAX_ACTORS keys = sym whole ∙ frees in
    let count : length keys ≡ story.freed = sym (length-map keys (λ (key : Key). record { actor = MAX_ACTORS; event = Freed key })) ∙ ap length (sym same) ∙ size in
    same ∙ ap (frees_of MAX_ACTORS) (sym (ap (λ (n : ℕ). take n keys) (sym count) ∙ take-length keys))
