-- The lines that are run today: mounts, unmounts, stops, and one actor's whole calls, without opens and closes.
use Rattle.std.specs.Prelude.{◌≡◌, ◌≤◌, ⊤, ℕ, List, Some, slice_get}
use Rattle.script.specs.declared.types.Command.{Command}
use Rattle.script.specs.declared.types.Command.TheVariants as command
use Rattle.script.specs.declared.types.Line.{Line}
use Rattle.script.specs.declared.types.Spoken.{Spoken}
use Rattle.script.specs.declared.types.Spoken.TheVariants as spoken

-- Words of a call that neither opens nor closes nor keeps house: what an actor makes it holds until the mount ends.
abbrev pub AreSteadyWords : Spoken → Type 0
AreSteadyWords (spoken.Create group name) = ⊤
AreSteadyWords (spoken.Tmpfile group name) = ⊤
AreSteadyWords (spoken.Link name) = ⊤
AreSteadyWords (spoken.Unlink name) = ⊤
AreSteadyWords (spoken.Grow name count) = ⊤
AreSteadyWords (spoken.Cut name count) = ⊤
AreSteadyWords (spoken.Stat name) = ⊤
AreSteadyWords spoken.Sync = ⊤
AreSteadyWords spoken.Home = ⊤
AreSteadyWords other = ⊥

abbrev pub IsSteadyLine : Command → Type 0
IsSteadyLine command.Mount = ⊤
IsSteadyLine command.Unmount = ⊤
IsSteadyLine command.Stop = ⊤
IsSteadyLine (command.Arm count first) = 1 ≤ count
IsSteadyLine (command.Whole actor words) = (actor ≡ 0) × AreSteadyWords words
IsSteadyLine other = ⊥

-- so is each line of a script
abbrev pub AreSteadyLines : List Line → Type 0
AreSteadyLines lines = (i : ℕ) (asked : Line) → slice_get lines i ≡ Some asked → IsSteadyLine asked.command
