-- No words denote two commands.
use Rattle.std.proofs.Common.{◌≡◌, ◌≢◌, ◌+◌, ◌<◌, ◌≤◌, ◌^◌, ℕ, Bool, false, List, [], ◌∷◌, Option, None, Some, length, get_or, eqb, ne_eqb, codes, refl, sym, ap, ◌∙◌, arith, inl, inr}
use Rattle.std.specs.List.{slice_split, All}
use Rattle.std.specs.Fmt.{decimal}
use Rattle.std.proofs.lemmas.Fmt.{decimal_injective, decimal_is_IsNumeral}
use Rattle.std.proofs.lemmas.Str.Parse.{digit_at}
use Rattle.std.proofs.lemmas.List.Splits.{slice_split_at, slice_split_none}
use Rattle.std.proofs.lemmas.Grind.{get_or_default_zero}
use Rattle.life_table.specs.declared.key.Key.{Key}
use Rattle.life_table.specs.Handles.{handle_text, IsHandle}
use Rattle.script.specs.declared.commands.Call.{Call}
use Rattle.script.specs.declared.commands.Call.TheVariants as call
use Rattle.script.specs.declared.commands.Control.{Control}
use Rattle.script.specs.declared.commands.Control.TheVariants as control
use Rattle.script.specs.declared.types.Command.{Command}
use Rattle.script.specs.declared.types.Command.TheVariants as command
use Rattle.script.specs.declared.types.Spoken.{Spoken}
use Rattle.script.specs.declared.types.Spoken.TheVariants as spoken
use Rattle.script.specs.Words.{letter_of}
use Rattle.script.specs.Commands.{call_named, call_word, control_of, control_word}
use Rattle.script.specs.Meaning.{IsCommand, IsSpoken, Denotes, spoken_words}
use Rattle.script.proofs.Checked.{control_written}

-- the digits of a number are no dots
no_dot : (n : ℕ) → n < 2 ^ 64 → All (λ b. eqb b 46 ≡ false) (decimal n)
no_dot n small k d low =
    let numeral = (decimal_is_IsNumeral n small).0 in
    let digit = digit_at (decimal n) k numeral.1 low in
    let least : 48 ≤ get_or (decimal n) k 0 = omega (arith, digit.0) in
    let other : get_or (decimal n) k d ≢ 46 = λ is. absurd (omega (arith, least, get_or_default_zero (decimal n) k d low, is)) in
    ne_eqb (get_or (decimal n) k d) 46 other

pub same_handle : (a b : Key) → IsHandle a → IsHandle b → handle_text a ≡ handle_text b → a ≡ b
same_handle a b ok ok' is =
    let p : ℕ → Bool = λ x. eqb x 46 in
    let cut = slice_split_at p (decimal a.number) 46 (decimal a.generation) (no_dot a.number (omega (arith, ok.number))) refl in
    let cut' = slice_split_at p (decimal b.number) 46 (decimal b.generation) (no_dot b.number (omega (arith, ok'.number))) refl in
    let rest = slice_split_none p (decimal a.generation) (no_dot a.generation (omega (arith, ok.last))) in
    let rest' = slice_split_none p (decimal b.generation) (no_dot b.generation (omega (arith, ok'.last))) in
    let pieces : decimal a.number ∷ decimal a.generation ∷ [] ≡ decimal b.number ∷ decimal b.generation ∷ [] =
    ap (λ (r : List (List ℕ)). decimal a.number ∷ r) (sym rest) ∙ sym cut ∙ ap (slice_split p) is ∙ cut' ∙ ap (λ (r : List (List ℕ)). decimal b.number ∷ r) rest'
    in
    let numbers : decimal a.number ≡ decimal b.number = cc in
    let lives : decimal a.generation ≡ decimal b.generation = cc in
    let number : a.number ≡ b.number = decimal_injective a.number b.number (omega (arith, ok.number)) (omega (arith, ok'.number)) numbers in
    let life : a.generation ≡ b.generation = decimal_injective a.generation b.generation (omega (arith, ok.last)) (omega (arith, ok'.last)) lives in
    λ i. record { number = number i; generation = life i }

-- calls with one command are one
word_call : (c : Call) → call_named (call_word c) ≡ Some c
unfolding call_named
word_call call.Create = refl
word_call call.Tmpfile = refl
word_call call.Open = refl
word_call call.Close = refl
word_call call.Link = refl
word_call call.Unlink = refl
word_call call.Grow = refl
word_call call.Cut = refl
word_call call.Stat = refl
word_call call.Sync = refl
word_call call.Home = refl
word_call call.Gc = refl
word_call call.Flush = refl
word_call call.Reclaim = refl

same_call : (c d : Call) → call_word c ≡ call_word d → c ≡ d
same_call c d is = let e : Some c ≡ Some d = sym (word_call c) ∙ ap call_named is ∙ word_call d in cc

abbrev spoken_call : Spoken → Call
spoken_call (spoken.Create group name) = call.Create
spoken_call (spoken.Tmpfile group name) = call.Tmpfile
spoken_call (spoken.Open name) = call.Open
spoken_call (spoken.Close name) = call.Close
spoken_call (spoken.Link name) = call.Link
spoken_call (spoken.Unlink name) = call.Unlink
spoken_call (spoken.Grow name count) = call.Grow
spoken_call (spoken.Cut name count) = call.Cut
spoken_call (spoken.Stat name) = call.Stat
spoken_call spoken.Sync = call.Sync
spoken_call spoken.Home = call.Home
spoken_call spoken.Gc = call.Gc
spoken_call (spoken.Flush group) = call.Flush
spoken_call (spoken.Reclaim group) = call.Reclaim

-- the words of a call are its command and others
spoken_split : (s : Spoken) → (rest : List (List ℕ)) × (spoken_words s ≡ call_word (spoken_call s) ∷ rest)
spoken_split (spoken.Create group name) = (_, refl)
spoken_split (spoken.Tmpfile group name) = (_, refl)
spoken_split (spoken.Open name) = (_, refl)
spoken_split (spoken.Close name) = (_, refl)
spoken_split (spoken.Link name) = (_, refl)
spoken_split (spoken.Unlink name) = (_, refl)
spoken_split (spoken.Grow name count) = (_, refl)
spoken_split (spoken.Cut name count) = (_, refl)
spoken_split (spoken.Stat name) = (_, refl)
spoken_split spoken.Sync = (_, refl)
spoken_split spoken.Home = (_, refl)
spoken_split spoken.Gc = (_, refl)
spoken_split (spoken.Flush group) = (_, refl)
spoken_split (spoken.Reclaim group) = (_, refl)

-- words of one command that are equal
same_group : (g h : ℕ) → g < 2 ^ 32 → h < 2 ^ 32 → decimal g ≡ decimal h → g ≡ h
same_group g h small small' is = decimal_injective g h (omega arith) (omega arith) is

same_words : (s t : Spoken) → IsSpoken s → IsSpoken t → spoken_call s ≡ spoken_call t → spoken_words s ≡ spoken_words t → s ≡ t
same_words (spoken.Create g n) (spoken.Create h m) ok ok' c is = let d : decimal g ≡ decimal h = cc in let e = same_group g h ok.0 ok'.0 d in cc
same_words (spoken.Tmpfile g n) (spoken.Tmpfile h m) ok ok' c is = let d : decimal g ≡ decimal h = cc in let e = same_group g h ok.0 ok'.0 d in cc
same_words (spoken.Open n) (spoken.Open m) ok ok' c is = cc
same_words (spoken.Close n) (spoken.Close m) ok ok' c is = cc
same_words (spoken.Link n) (spoken.Link m) ok ok' c is = cc
same_words (spoken.Unlink n) (spoken.Unlink m) ok ok' c is = cc
same_words (spoken.Grow n k) (spoken.Grow m l) ok ok' c is = let d : decimal k ≡ decimal l = cc in let e = same_group k l (omega arith) (omega arith) d in cc
same_words (spoken.Cut n k) (spoken.Cut m l) ok ok' c is = let d : decimal k ≡ decimal l = cc in let e = same_group k l (omega arith) (omega arith) d in cc
same_words (spoken.Stat n) (spoken.Stat m) ok ok' c is = cc
same_words spoken.Sync spoken.Sync ok ok' c is = refl
same_words spoken.Home spoken.Home ok ok' c is = refl
same_words spoken.Gc spoken.Gc ok ok' c is = refl
same_words (spoken.Flush g) (spoken.Flush h) ok ok' c is = let d : decimal g ≡ decimal h = cc in let e = same_group g h ok ok' d in cc
same_words (spoken.Reclaim g) (spoken.Reclaim h) ok ok' c is = let d : decimal g ≡ decimal h = cc in let e = same_group g h ok ok' d in cc
same_words s t ok ok' c is = absurd cc

pub same_spoken : (s t : Spoken) → IsSpoken s → IsSpoken t → spoken_words s ≡ spoken_words t → s ≡ t
same_spoken s t ok ok' is =
    let parts = spoken_split s in
    let parts' = spoken_split t in
    let whole : call_word (spoken_call s) ∷ parts.0 ≡ call_word (spoken_call t) ∷ parts'.0 = sym parts.1 ∙ is ∙ parts'.1 in
    let first : call_word (spoken_call s) ≡ call_word (spoken_call t) = cc in
    same_words s t ok ok' (same_call (spoken_call s) (spoken_call t) first) is

-- what control line begins with the first word
abbrev head_control : List (List ℕ) → Option Control
head_control [] = None
head_control (word ∷ words) = control_of word

abbrev command_control : Command → Option Control
command_control command.Mount = Some control.Mount
command_control command.Unmount = Some control.Unmount
command_control command.Stop = Some control.Stop
command_control (command.Arm count first) = Some control.Stop
command_control (command.Bind name handle) = Some control.Name
command_control (command.Begin actor s) = Some control.Begin
command_control (command.Step actor) = Some control.Step
command_control (command.Finish actor) = Some control.Finish
command_control (command.Whole actor s) = None

long_control : (k : Control) → 1 < length (control_word k)
long_control control.Mount = omega arith
long_control control.Unmount = omega arith
long_control control.Stop = omega arith
long_control control.Name = omega arith
long_control control.Begin = omega arith
long_control control.Step = omega arith
long_control control.Finish = omega arith

letter_begins_none : (word : List ℕ) → length word ≡ 1 → control_of word ≡ None
letter_begins_none word one =
    let by : (o : Option Control) → o ≡ control_of word → control_of word ≡ None =
    elim [
      | None ↦ λ e. sym e
      | Some k ↦ λ e. absurd (omega (arith, long_control k, ap length (control_written word k e)))
    ]
    in by (control_of word) refl

call_begins_none : (c : Call) → control_of (call_word c) ≡ None
unfolding control_of
call_begins_none call.Create = refl
call_begins_none call.Tmpfile = refl
call_begins_none call.Open = refl
call_begins_none call.Close = refl
call_begins_none call.Link = refl
call_begins_none call.Unlink = refl
call_begins_none call.Grow = refl
call_begins_none call.Cut = refl
call_begins_none call.Stat = refl
call_begins_none call.Sync = refl
call_begins_none call.Home = refl
call_begins_none call.Gc = refl
call_begins_none call.Flush = refl
call_begins_none call.Reclaim = refl

heads : (words : List (List ℕ)) (a : Command) → Denotes words a → head_control words ≡ command_control a
unfolding control_of
heads words command.Mount is = ap head_control is
heads words command.Unmount is = ap head_control is
heads words command.Stop is = ap head_control is
heads words (command.Arm count first) is = ap head_control is
heads words (command.Bind name handle) is = ap head_control is
heads words (command.Begin actor s) is = ap head_control is
heads words (command.Step actor) is = ap head_control is
heads words (command.Finish actor) is = ap head_control is
heads words (command.Whole actor s) (inl is) = ap head_control is ∙ letter_begins_none (letter_of actor) refl
heads words (command.Whole actor s) (inr is) = ap head_control (is.1 ∙ (spoken_split s).1) ∙ call_begins_none (spoken_call s)

long_call : (c : Call) → 1 < length (call_word c)
long_call call.Create = omega arith
long_call call.Tmpfile = omega arith
long_call call.Open = omega arith
long_call call.Close = omega arith
long_call call.Link = omega arith
long_call call.Unlink = omega arith
long_call call.Grow = omega arith
long_call call.Cut = omega arith
long_call call.Stat = omega arith
long_call call.Sync = omega arith
long_call call.Home = omega arith
long_call call.Gc = omega arith
long_call call.Flush = omega arith
long_call call.Reclaim = omega arith

-- an actor's letter begins no call
not_letter : (actor : ℕ) (rest : List (List ℕ)) (s : Spoken) → letter_of actor ∷ rest ≡ spoken_words s → ⊥
not_letter actor rest s is =
    let whole : letter_of actor ∷ rest ≡ call_word (spoken_call s) ∷ (spoken_split s).0 = is ∙ (spoken_split s).1 in
    let first : letter_of actor ≡ call_word (spoken_call s) = cc in
    omega (arith, long_call (spoken_call s), ap length first)

same_letter : (a b : ℕ) → letter_of a ≡ letter_of b → a ≡ b
same_letter a b is = let e : 65 + a ≡ 65 + b = cc in omega arith

same_acting : (a b : ℕ) (s t : Spoken) → IsSpoken s → IsSpoken t → letter_of a ∷ spoken_words s ≡ letter_of b ∷ spoken_words t → (a ≡ b) × (s ≡ t)
same_acting a b s t ok ok' is =
    let letters : letter_of a ≡ letter_of b = cc in
    let words : spoken_words s ≡ spoken_words t = cc in
    (same_letter a b letters, same_spoken s t ok ok' words)

same_whole : (words : List (List ℕ)) (a b : ℕ) (s t : Spoken) → IsSpoken s → IsSpoken t → Denotes words (command.Whole a s) → Denotes words (command.Whole b t) → (a ≡ b) × (s ≡ t)
same_whole words a b s t ok ok' (inl is) (inl is') = same_acting a b s t ok ok' (sym is ∙ is')
same_whole words a b s t ok ok' (inl is) (inr is') = absurd (not_letter a (spoken_words s) t (sym is ∙ is'.1))
same_whole words a b s t ok ok' (inr is) (inl is') = absurd (not_letter b (spoken_words t) s (sym is' ∙ is.1))
same_whole words a b s t ok ok' (inr is) (inr is') = (is.0 ∙ sym is'.0, same_spoken s t ok ok' (sym is.1 ∙ is'.1))

same_command : (words : List (List ℕ)) (a b : Command) → IsCommand a → IsCommand b → Denotes words a → Denotes words b → command_control a ≡ command_control b → a ≡ b
same_command words command.Mount command.Mount ok ok' is is' c = refl
same_command words command.Unmount command.Unmount ok ok' is is' c = refl
same_command words command.Stop command.Stop ok ok' is is' c = refl
same_command words command.Stop (command.Arm count first) ok ok' is is' c = absurd cc
same_command words (command.Arm count first) command.Stop ok ok' is is' c = absurd cc
same_command words (command.Arm k f) (command.Arm l g) ok ok' is is' c =
    let whole : codes "stop" ∷ decimal k ∷ decimal f ∷ [] ≡ codes "stop" ∷ decimal l ∷ decimal g ∷ [] = sym is ∙ is' in
    let d : decimal k ≡ decimal l = cc in
    let e : decimal f ≡ decimal g = cc in
    let m = same_group k l ok.1 ok'.1 d in
    let n = same_group f g ok.2 ok'.2 e in
    cc
same_command words (command.Bind n a) (command.Bind m b) ok ok' is is' c =
    let whole : codes "name" ∷ n ∷ handle_text a ∷ [] ≡ codes "name" ∷ m ∷ handle_text b ∷ [] = sym is ∙ is' in
    let d : handle_text a ≡ handle_text b = cc in
    let e : n ≡ m = cc in
    let h = same_handle a b ok.1 ok'.1 d in
    cc
same_command words (command.Begin a s) (command.Begin b t) ok ok' is is' c =
    let whole : codes "begin" ∷ letter_of a ∷ spoken_words s ≡ codes "begin" ∷ letter_of b ∷ spoken_words t = sym is ∙ is' in
    let rest : letter_of a ∷ spoken_words s ≡ letter_of b ∷ spoken_words t = cc in
    let both = same_acting a b s t ok.1 ok'.1 rest in
    cc
same_command words (command.Step a) (command.Step b) ok ok' is is' c =
    let whole : codes "step" ∷ letter_of a ∷ [] ≡ codes "step" ∷ letter_of b ∷ [] = sym is ∙ is' in
    let d : letter_of a ≡ letter_of b = cc in
    ap command.Step (same_letter a b d)
same_command words (command.Finish a) (command.Finish b) ok ok' is is' c =
    let whole : codes "finish" ∷ letter_of a ∷ [] ≡ codes "finish" ∷ letter_of b ∷ [] = sym is ∙ is' in
    let d : letter_of a ≡ letter_of b = cc in
    ap command.Finish (same_letter a b d)
same_command words (command.Whole a s) (command.Whole b t) ok ok' is is' c =
    let both = same_whole words a b s t ok.1 ok'.1 is is' in
    cc
same_command words a b ok ok' is is' c = absurd cc

pub one_command : (words : List (List ℕ)) (a b : Command) → IsCommand a → IsCommand b → Denotes words a → Denotes words b → a ≡ b
one_command words a b ok ok' is is' = same_command words a b ok ok' is is' (sym (heads words a is) ∙ heads words b is')
