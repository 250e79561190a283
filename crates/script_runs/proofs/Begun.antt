-- The call that words begin, against the run as its definitions have it.
use Rattle.std.proofs.Common.{◌≡◌, ℕ, Bool, true, false, List, Option, None, Some, if◌then◌else◌, length, refl, ap, sym, subst, ◌∙◌}
use Rattle.std.specs.Prelude.{Result, Ok, Err}
use Rattle.std.specs.Option.{option_map}
use Rattle.std.proofs.lemmas.Bool.{leb-false, ltb-true}
use Rattle.life_table.specs.declared.key.Key.{Key}
use Rattle.life_table.specs.declared.types.Call.{Call}
use Rattle.life_table.specs.declared.types.Call.TheVariants as call
use Rattle.life_table.specs.declared.types.Entry.{Entry}
use Rattle.life_table.specs.declared.table.Table.{Table}
use Rattle.life_table.specs.History.{IsHeld, holds, key_of}
use Rattle.script.specs.declared.types.Spoken.{Spoken}
use Rattle.script.specs.declared.types.Spoken.TheVariants as spoken
use Rattle.script.specs.declared.answers.LineReply.{LineReply}
use Rattle.script.specs.declared.answers.LineReply.TheVariants as line
use Rattle.run_history.specs.States.{Binding, LineCall, RunState, UpMount, beginning, begun, begun_if_held, call_meant, holds_key, key_bound, lacks_group}
use Rattle.mounted_calls.specs.Calls.{NamesGroup}
use Rattle.run_faults.specs.News.{news_of_line, other_news}
use Rattle.run_mounts.specs.Calls.{IsWholeCall}
use Rattle.script_runs.specs.Calling.{call_begun, call_held, lacks_in}
use Rattle.script_runs.specs.Lines.{AreSteadyWords}

-- ---- that it may be made

-- the call may be made on a mount of so many groups and with these entries
pub record MayBeMade (groups : ℕ) (entries : List Entry) (actor : ℕ) (made : Call) : Type 0 where
  pub kind : IsWholeCall made
  pub names : NamesGroup groups made
  pub held : IsHeld entries actor (key_of made)

abbrev Fits : ℕ → Call → Type 0
Fits groups made = IsWholeCall made × NamesGroup groups made

same_call : (a b : Call) → Some a ≡ Some b → a ≡ b
same_call a b e = cc

fits_one : (groups : ℕ) (a b : Call) → Fits groups a → Some a ≡ Some b → Fits groups b
fits_one groups a b fits e = subst (Fits groups) (same_call a b e) fits

fits_bound : (groups : ℕ) (f : Key → Call) (o : Option Key) (made : Call) → ((key : Key) → Fits groups (f key)) → option_map f o ≡ Some made → Fits groups made
fits_bound groups f None made each e = absurd cc
fits_bound groups f (Some key) made each e = fits_one groups (f key) made (each key) e

fits_meant : (groups : ℕ) (names : List Binding) (words : Spoken) (made : Call) → AreSteadyWords words → lacks_in groups words ≡ false → call_meant names words ≡ Some made → Fits groups made
fits_meant groups names (spoken.Create group name) made steady there e = fits_one groups (call.Create group) made (tt, leb-false groups group there) e
fits_meant groups names (spoken.Tmpfile group name) made steady there e = fits_one groups (call.Tmpfile group) made (tt, leb-false groups group there) e
fits_meant groups names (spoken.Open name) made steady there e = absurd steady
fits_meant groups names (spoken.Close name) made steady there e = absurd steady
fits_meant groups names (spoken.Link name) made steady there e = fits_bound groups call.Link (key_bound names name) made (λ key. (tt, tt)) e
fits_meant groups names (spoken.Unlink name) made steady there e = fits_bound groups call.Unlink (key_bound names name) made (λ key. (tt, tt)) e
fits_meant groups names (spoken.Grow name count) made steady there e = fits_bound groups (λ (key : Key). call.Grow key count) (key_bound names name) made (λ key. (tt, tt)) e
fits_meant groups names (spoken.Cut name count) made steady there e = fits_bound groups (λ (key : Key). call.Cut key count) (key_bound names name) made (λ key. (tt, tt)) e
fits_meant groups names (spoken.Stat name) made steady there e = fits_bound groups call.Stat (key_bound names name) made (λ key. (tt, tt)) e
fits_meant groups names spoken.Sync made steady there e = fits_one groups call.Sync made (tt, tt) e
fits_meant groups names spoken.Home made steady there e = fits_one groups call.Home made (tt, tt) e
fits_meant groups names spoken.Gc made steady there e = absurd steady
fits_meant groups names (spoken.Flush group) made steady there e = absurd steady
fits_meant groups names (spoken.Reclaim group) made steady there e = absurd steady

is_held : (entries : List Entry) (actor : ℕ) (o : Option Key) → holds_key entries actor o ≡ true → IsHeld entries actor o
is_held entries actor None e = tt
is_held entries actor (Some key) e = ltb-true 0 (holds entries actor key) e

-- a call that the actor may make is the one that is meant, and is held
held_if : (entries : List Entry) (actor : ℕ) (made other : Call) (b : Bool) → holds_key entries actor (key_of made) ≡ b → (if b then Ok made else Err line.Unbound) ≡ Ok other
    → (Some made ≡ Some other) × IsHeld entries actor (key_of other)
held_if entries actor made other true held e =
    let same : made ≡ other = cc in
    (ap (λ (c : Call). Some c) same, subst (λ (c : Call). IsHeld entries actor (key_of c)) same (is_held entries actor (key_of made) held))
held_if entries actor made other false held e = absurd cc

held_of : (entries : List Entry) (actor : ℕ) (o : Option Call) (made : Call) → call_held entries actor o ≡ Ok made → (o ≡ Some made) × IsHeld entries actor (key_of made)
held_of entries actor None made e = absurd cc
held_of entries actor (Some one) made e = held_if entries actor one made (holds_key entries actor (key_of one)) refl e

may_if : (groups : ℕ) (names : List Binding) (entries : List Entry) (actor : ℕ) (words : Spoken) (made : Call) (b : Bool) → AreSteadyWords words → lacks_in groups words ≡ b
    → (if b then Err line.NoGroup else call_held entries actor (call_meant names words)) ≡ Ok made → MayBeMade groups entries actor made
may_if groups names entries actor words made true steady there e = absurd cc
may_if groups names entries actor words made false steady there e =
    let held = held_of entries actor (call_meant names words) made e in
    let fits = fits_meant groups names words made steady there held.0 in
    record { kind = fits.0; names = fits.1; held = held.1 }

pub may_be_made : (groups : ℕ) (names : List Binding) (entries : List Entry) (actor : ℕ) (words : Spoken) (made : Call) → AreSteadyWords words
    → call_begun groups names entries actor words ≡ Ok made → MayBeMade groups entries actor made
may_be_made groups names entries actor words made steady e = may_if groups names entries actor words made (lacks_in groups words) steady refl e

-- ---- that the run begins it

lacks_same : (t : Table) (words : Spoken) → lacks_group t words ≡ lacks_in (length t.groups) words
lacks_same t (spoken.Create group name) = refl
lacks_same t (spoken.Tmpfile group name) = refl
lacks_same t (spoken.Flush group) = refl
lacks_same t (spoken.Reclaim group) = refl
lacks_same t _ = refl

-- what the run has of a call that begins, or of why none does
abbrev pub as_line : RunState → UpMount → ℕ → Spoken → Result Call LineReply → Result LineCall LineReply
as_line s m actor words (Ok made) = Ok (beginning s m actor words made)
as_line s m actor words (Err refusal) = Err refusal

as_if_held : (s : RunState) (m : UpMount) (actor : ℕ) (words : Spoken) (made : Call) (b : Bool)
    → (if b then Ok (beginning s m actor words made) else Err line.Unbound) ≡ as_line s m actor words (if b then Ok made else Err line.Unbound)
as_if_held s m actor words made true = refl
as_if_held s m actor words made false = refl

as_held : (s : RunState) (m : UpMount) (actor : ℕ) (words : Spoken) (o : Option Call) → begun_if_held s m actor words o ≡ as_line s m actor words (call_held m.story.entries actor o)
as_held s m actor words None = refl
as_held s m actor words (Some made) = as_if_held s m actor words made (holds_key m.story.entries actor (key_of made))

as_begun : (s : RunState) (m : UpMount) (actor : ℕ) (words : Spoken) (o : Option Call) (b : Bool)
    → (if b then Err line.NoGroup else begun_if_held s m actor words o) ≡ as_line s m actor words (if b then Err line.NoGroup else call_held m.story.entries actor o)
as_begun s m actor words o true = refl
as_begun s m actor words o false = as_held s m actor words o

pub begun_is : (s : RunState) (m : UpMount) (groups actor : ℕ) (words : Spoken) → length m.start.groups ≡ groups
    → begun s m actor words None ≡ as_line s m actor words (call_begun groups s.names m.story.entries actor words)
begun_is s m groups actor words many =
    let same : lacks_group m.start words ≡ lacks_in groups words = lacks_same m.start words ∙ ap (λ (n : ℕ). lacks_in n words) many in
    ap (λ (b : Bool). if b then Err line.NoGroup else begun_if_held s m actor words (call_meant s.names words)) same
    ∙ as_begun s m actor words (call_meant s.names words) (lacks_in groups words)

pub begun_as : (s : RunState) (m : UpMount) (groups actor : ℕ) (words : Spoken) (r : Result Call LineReply) → length m.start.groups ≡ groups
    → r ≡ call_begun groups s.names m.story.entries actor words → begun s m actor words None ≡ as_line s m actor words r
begun_as s m groups actor words r many is = begun_is s m groups actor words many ∙ ap (as_line s m actor words) (sym is)

-- ---- that a refusal tells of no damage

unheld_is : (b : Bool) (made : Call) (refusal : LineReply) → (if b then Ok made else Err line.Unbound) ≡ Err refusal → refusal ≡ line.Unbound
unheld_is true made refusal e = absurd cc
unheld_is false made refusal e = cc

refused_held : (entries : List Entry) (actor : ℕ) (o : Option Call) (refusal : LineReply) → call_held entries actor o ≡ Err refusal → refusal ≡ line.Unbound
refused_held entries actor None refusal e = cc
refused_held entries actor (Some made) refusal e = unheld_is (holds_key entries actor (key_of made)) made refusal e

refused_if : (b : Bool) (entries : List Entry) (actor : ℕ) (o : Option Call) (refusal : LineReply) (rule sector : ℕ) → (if b then Err line.NoGroup else call_held entries actor o) ≡ Err refusal
    → ¬ (refusal ≡ line.Damaged rule sector)
refused_if true entries actor o refusal rule sector e damaged = cc
refused_if false entries actor o refusal rule sector e damaged = let is = refused_held entries actor o refusal e in cc

pub no_damage : (groups : ℕ) (names : List Binding) (entries : List Entry) (actor : ℕ) (words : Spoken) (refusal : LineReply) (rule sector : ℕ)
    → call_begun groups names entries actor words ≡ Err refusal → ¬ (refusal ≡ line.Damaged rule sector)
no_damage groups names entries actor words refusal rule sector e = refused_if (lacks_in groups words) entries actor (call_meant names words) refusal rule sector e

-- and of no log

nothing_if : (b : Bool) (entries : List Entry) (actor : ℕ) (o : Option Call) (refusal : LineReply) → (if b then Err line.NoGroup else call_held entries actor o) ≡ Err refusal
    → news_of_line refusal ≡ other_news
nothing_if true entries actor o refusal e = let is : line.NoGroup ≡ refusal = cc in ap news_of_line (sym is)
nothing_if false entries actor o refusal e = ap news_of_line (refused_held entries actor o refusal e)

pub nothing_refused : (groups : ℕ) (names : List Binding) (entries : List Entry) (actor : ℕ) (words : Spoken) (refusal : LineReply)
    → call_begun groups names entries actor words ≡ Err refusal → news_of_line refusal ≡ other_news
nothing_refused groups names entries actor words refusal e = nothing_if (lacks_in groups words) entries actor (call_meant names words) refusal e
