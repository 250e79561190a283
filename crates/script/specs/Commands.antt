-- The commands of the language, and the words that they take.
use Rattle.std.specs.Prelude.{List, [], ◌∷◌, Option, None, Some, ℕ, codes, if◌then◌else◌}
use Rattle.std.specs.Str.{bytes_eq}
use Rattle.script.specs.declared.commands.Call.{Call}
use Rattle.script.specs.declared.commands.Call.TheVariants as call
use Rattle.script.specs.declared.commands.Control.{Control}
use Rattle.script.specs.declared.commands.Control.TheVariants as control
use Rattle.script.specs.Words.{Kind}
use Rattle.script.specs.Words.Kind.{name, group, blocks}

-- what a call is written with
abbrev pub call_word : Call → List ℕ
call_word call.Create = codes "create"
call_word call.Tmpfile = codes "tmpfile"
call_word call.Open = codes "open"
call_word call.Close = codes "close"
call_word call.Link = codes "link"
call_word call.Unlink = codes "unlink"
call_word call.Grow = codes "grow"
call_word call.Cut = codes "cut"
call_word call.Stat = codes "stat"
call_word call.Sync = codes "sync"
call_word call.Home = codes "home"
call_word call.Gc = codes "gc"
call_word call.Flush = codes "flush"
call_word call.Reclaim = codes "reclaim"

-- the words behind it
abbrev pub call_kinds : Call → List Kind
call_kinds call.Create = group ∷ name ∷ []
call_kinds call.Tmpfile = group ∷ name ∷ []
call_kinds call.Open = name ∷ []
call_kinds call.Close = name ∷ []
call_kinds call.Link = name ∷ []
call_kinds call.Unlink = name ∷ []
call_kinds call.Grow = name ∷ blocks ∷ []
call_kinds call.Cut = name ∷ blocks ∷ []
call_kinds call.Stat = name ∷ []
call_kinds call.Sync = []
call_kinds call.Home = []
call_kinds call.Gc = []
call_kinds call.Flush = group ∷ []
call_kinds call.Reclaim = group ∷ []

abbrev pub calls : List Call
calls = call.Create ∷ call.Tmpfile ∷ call.Open ∷ call.Close ∷ call.Link ∷ call.Unlink ∷ call.Grow ∷ call.Cut ∷ call.Stat ∷ call.Sync ∷ call.Home ∷ call.Gc ∷ call.Flush ∷ call.Reclaim ∷ []

-- what a control line begins with
abbrev pub control_word : Control → List ℕ
control_word control.Mount = codes "mount"
control_word control.Unmount = codes "unmount"
control_word control.Stop = codes "stop"
control_word control.Name = codes "name"
control_word control.Begin = codes "begin"
control_word control.Step = codes "step"
control_word control.Finish = codes "finish"

abbrev pub controls : List Control
controls = control.Mount ∷ control.Unmount ∷ control.Stop ∷ control.Name ∷ control.Begin ∷ control.Step ∷ control.Finish ∷ []

-- the first of these that is written so
abbrev pub written_so : {C : Type 0} → (C → List ℕ) → List C → List ℕ → Option C
written_so word_of [] word = None
written_so word_of (c ∷ cs) word = if bytes_eq word (word_of c) then Some c else written_so word_of cs word

-- the call with this command, if there is one
unfoldable pub call_named : List ℕ → Option Call
call_named word = written_so call_word calls word

-- the control line with this word, if there is one
unfoldable pub control_of : List ℕ → Option Control
control_of word = written_so control_word controls word
