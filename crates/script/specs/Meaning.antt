-- How commands are written.
use Rattle.std.specs.Prelude.{◌≡◌, ◌<◌, ◌≤◌, ◌^◌, ℕ, List, [], ◌∷◌, codes, IsTrue, ◌⊎◌}
use Rattle.std.specs.Fmt.{decimal}
use Rattle.life_limits.specs.declared.TheConstants.{MAX_ACTORS, MAX_BLOCKS}
use Rattle.life_table.specs.Handles.{handle_text, IsHandle}
use Rattle.script.specs.declared.types.Command.{Command}
use Rattle.script.specs.declared.types.Command.TheVariants as command
use Rattle.script.specs.declared.types.Spoken.{Spoken}
use Rattle.script.specs.declared.types.Spoken.TheVariants as spoken
use Rattle.script.specs.Words.{is_name, letter_of}

-- the words of a call
abbrev pub spoken_words : Spoken → List (List ℕ)
spoken_words (spoken.Create group name) = codes "create" ∷ decimal group ∷ name ∷ []
spoken_words (spoken.Tmpfile group name) = codes "tmpfile" ∷ decimal group ∷ name ∷ []
spoken_words (spoken.Open name) = codes "open" ∷ name ∷ []
spoken_words (spoken.Close name) = codes "close" ∷ name ∷ []
spoken_words (spoken.Link name) = codes "link" ∷ name ∷ []
spoken_words (spoken.Unlink name) = codes "unlink" ∷ name ∷ []
spoken_words (spoken.Grow name count) = codes "grow" ∷ name ∷ decimal count ∷ []
spoken_words (spoken.Cut name count) = codes "cut" ∷ name ∷ decimal count ∷ []
spoken_words (spoken.Stat name) = codes "stat" ∷ name ∷ []
spoken_words spoken.Sync = codes "sync" ∷ []
spoken_words spoken.Home = codes "home" ∷ []
spoken_words spoken.Gc = codes "gc" ∷ []
spoken_words (spoken.Flush group) = codes "flush" ∷ decimal group ∷ []
spoken_words (spoken.Reclaim group) = codes "reclaim" ∷ decimal group ∷ []

-- these words are the command; a whole call of actor A may stand without its letter
abbrev pub Denotes : List (List ℕ) → Command → Type 0
Denotes words command.Mount = words ≡ codes "mount" ∷ []
Denotes words command.Unmount = words ≡ codes "unmount" ∷ []
Denotes words command.Stop = words ≡ codes "stop" ∷ []
Denotes words (command.Arm count first) = words ≡ codes "stop" ∷ decimal count ∷ decimal first ∷ []
Denotes words (command.Bind name handle) = words ≡ codes "name" ∷ name ∷ handle_text handle ∷ []
Denotes words (command.Begin actor call) = words ≡ codes "begin" ∷ letter_of actor ∷ spoken_words call
Denotes words (command.Step actor) = words ≡ codes "step" ∷ letter_of actor ∷ []
Denotes words (command.Finish actor) = words ≡ codes "finish" ∷ letter_of actor ∷ []
Denotes words (command.Whole actor call) = (words ≡ letter_of actor ∷ spoken_words call) ⊎ ((actor ≡ 0) × (words ≡ spoken_words call))

-- a call's name is a name, its group a number of 32 bits, and the blocks that it grows or cuts are at least one and at most a group's
abbrev pub IsSpoken : Spoken → Type 0
IsSpoken (spoken.Create group name) = (group < 2 ^ 32) × IsTrue (is_name name)
IsSpoken (spoken.Tmpfile group name) = (group < 2 ^ 32) × IsTrue (is_name name)
IsSpoken (spoken.Open name) = IsTrue (is_name name)
IsSpoken (spoken.Close name) = IsTrue (is_name name)
IsSpoken (spoken.Link name) = IsTrue (is_name name)
IsSpoken (spoken.Unlink name) = IsTrue (is_name name)
IsSpoken (spoken.Grow name count) = IsTrue (is_name name) × (1 ≤ count) × (count ≤ MAX_BLOCKS)
IsSpoken (spoken.Cut name count) = IsTrue (is_name name) × (1 ≤ count) × (count ≤ MAX_BLOCKS)
IsSpoken (spoken.Stat name) = IsTrue (is_name name)
IsSpoken spoken.Sync = Unit {0}
IsSpoken spoken.Home = Unit {0}
IsSpoken spoken.Gc = Unit {0}
IsSpoken (spoken.Flush group) = group < 2 ^ 32
IsSpoken (spoken.Reclaim group) = group < 2 ^ 32

-- the same of a command, whose actor has a letter
abbrev pub IsCommand : Command → Type 0
IsCommand command.Mount = Unit {0}
IsCommand command.Unmount = Unit {0}
IsCommand command.Stop = Unit {0}
IsCommand (command.Arm count first) = (1 ≤ count) × (count < 2 ^ 32) × (first < 2 ^ 32)
IsCommand (command.Bind name handle) = IsTrue (is_name name) × IsHandle handle
IsCommand (command.Begin actor call) = (actor < MAX_ACTORS) × IsSpoken call
IsCommand (command.Step actor) = actor < MAX_ACTORS
IsCommand (command.Finish actor) = actor < MAX_ACTORS
IsCommand (command.Whole actor call) = (actor < MAX_ACTORS) × IsSpoken call
