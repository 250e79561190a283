-- What a command of positional words makes of words of which none is an option.
use Rattle.std.proofs.Common.{◌≡◌, ◌∙◌, ◌&&◌, ◌||◌, ℕ, Bool, true, false, not, List, [], ◌∷◌, codes, refl, ap, ap₂, sym, Some, None, Option, true≢false, rules, suc, length, arith}
use Rattle.std.specs.Prelude.{◌==◌, find, fold, is_some, option_and_then, if◌then◌else◌}
use Rattle.std.specs.List.{AllByRecursion, list_all}
use Rattle.std.specs.Option.{option_map_or}
use Rattle.clap.specs.Lexer.{short_of, short_of_rest}
use Rattle.clap.specs.Walk.{Held, Rule, Step, Text, Walk, after_step, arg_by_index, finished, first_of, idle, is_multiple, nothing_held, settled, positional, to_positional, value, walk_from, walked, word_met}
use Rattle.clap.specs.Simple.{App, Shape, built, entered, is_simple, matches_of}
use Rattle.clap.specs.declared.error.kind.ErrorKind.{ErrorKind}
use Rattle.clap.specs.Kinds.{Kinds, or_else}
use Rattle.clap.specs.Faults.{check_fault, defaults_fault, entered_fault, fault_of, is_simple_and_free, settle_fault, step_fault, turn_fault, walk_fault, word_fault}
use Rattle.clap.proofs.OnLiterals.{clap_on_literals}
use Rattle.life_cli.specs.Form.{IsPath}
use Rattle.life_cli.specs.Words.{image_ids, make_ids, words_app}

-- the byte is no hyphen
no_hyphen : (x : ℕ) → (x ≡ 45 → ⊥) → (x == 45) ≡ false
no_hyphen x h = search rules

no_short : (x : ℕ) (xs : Text) → (x ≡ 45 → ⊥) → short_of (x ∷ xs) ≡ None
no_short x xs is = ap (λ (b : Bool). option_and_then short_of_rest (if b then Some xs else None)) (no_hyphen x is)

-- a word that is no option goes to a positional
met : (c : List Rule) (position : ℕ) (word : Text) (h : Held) → IsPath word → word_met c [] false idle position word h ≡ (h, value)
met c position [] h is = absurd is
met c position (x ∷ xs) h is = rw (no_hyphen x is, no_short x xs is) refl

sound : (s : Shape) (word : Text) (h : Held) → IsPath word → word_fault s [] false idle word h ≡ []
sound s [] h is = absurd is
sound s (x ∷ xs) h is = rw (no_hyphen x is, no_short x xs is) refl

-- nothing waits, and no subcommand was met
abbrev IsIdle : Walk → Type 0
IsIdle w = (w.waiting ≡ idle) × (w.is_trailing ≡ false) × (w.stopped ≡ None)

abbrev at : ℕ → Held → Walk
at position h = record { held = h; waiting = idle; position = position; is_trailing = false; stopped = None }

-- the word goes to the next positional
abbrev placed : List Rule → Walk → Text → Walk
placed c w word = to_positional c (arg_by_index c w.position) word w w.held

-- the argument takes one value
abbrev is_single : Rule → Bool
is_single a = not (is_multiple a) && not a.trailing_var_arg

walked_placed : (c : List Rule) (w : Walk) (word : Text) → IsIdle w → IsPath word → walked c [] w word ≡ placed c w word
unfolding walked
walked_placed c w word (waits, trails, stops) is =
    rw (waits, trails, stops) (ap (λ (m : Held × Step). after_step c word (at w.position w.held) m.0 m.1) (met c w.position word w.held is))

to_idle : (c : List Rule) (a : Option Rule) (word : Text) (w : Walk) → option_map_or is_single a true ≡ true → IsIdle w → IsIdle (to_positional c a word w w.held)
to_idle c None word w single idles = idles
to_idle c (Some a) word w single (waits, trails, stops) = go (is_multiple a) a.trailing_var_arg single
  where
    go : (m t : Bool) → (not m && not t) ≡ true → IsIdle (record w { waiting = if m then positional else idle; is_trailing = w.is_trailing || t; stopped = None })
    go true t e = absurd (true≢false (sym e))
    go false true e = absurd (true≢false (sym e))
    go false false e = (refl, rw trails refl, refl)

both : (x y : Bool) → (x && y) ≡ true → (x ≡ true) × (y ≡ true)
both true y e = (refl, e)
both false y e = absurd (true≢false (sym e))

one : (b : Bool) (a : Rule) (o : Option Rule) → is_single a ≡ true → option_map_or is_single o true ≡ true → option_map_or is_single (if b then Some a else o) true ≡ true
one true a o here there = here
one false a o here there = there

-- one that is found is one of them
found : (p : Rule → Bool) (c : List Rule) → list_all is_single c ≡ true → option_map_or is_single (find p c) true ≡ true
found p [] single = refl
found p (a ∷ rest) single = one (p a) a (find p rest) (both (is_single a) (list_all is_single rest) single).0 (found p rest (both (is_single a) (list_all is_single rest) single).1)

placed_idle : (c : List Rule) (w : Walk) (word : Text) → list_all is_single c ≡ true → IsIdle w → IsIdle (placed c w word)
placed_idle c w word single idles = to_idle c (arg_by_index c w.position) word w (found _ c single) idles

walk_placed : (c : List Rule) (w : Walk) (words : List Text) → list_all is_single c ≡ true → IsIdle w → AllByRecursion IsPath words
    → fold (walked c []) w words ≡ fold (placed c) w words
walk_placed c w [] single idles all = refl
walk_placed c w (word ∷ rest) single idles all =
    ap (λ (v : Walk). fold (walked c []) v rest) (walked_placed c w word idles all.0)
    ∙ walk_placed c (placed c w word) rest single (placed_idle c w word single idles) all.1

-- what is at fault of words that go to positionals
abbrev faults : Shape → Walk → List Text → Kinds
faults s w [] = []
faults s w (word ∷ rest) = or_else (step_fault s w.position w.held value) (faults s (placed s.rules w word) rest)

turn_placed : (s : Shape) (w : Walk) (word : Text) → IsIdle w → IsPath word → turn_fault s [] w word ≡ step_fault s w.position w.held value
turn_placed s w word (waits, trails, stops) is =
    rw (waits, trails, stops) (ap₂ (λ (k : Kinds) (m : Held × Step). or_else k (step_fault s w.position m.0 m.1)) (sound s word w.held is) (met s.rules w.position word w.held is))

faults_placed : (s : Shape) (w : Walk) (words : List Text) → list_all is_single s.rules ≡ true → IsIdle w → AllByRecursion IsPath words
    → walk_fault s [] w words ≡ faults s w words
unfolding walk_fault
faults_placed s w [] single idles all = refl
faults_placed s w (word ∷ rest) single idles all =
    ap₂ or_else (turn_placed s w word idles all.0)
    (ap (λ (v : Walk). walk_fault s [] v rest) (walked_placed s.rules w word idles all.0)
    ∙ faults_placed s (placed s.rules w word) rest single (placed_idle s.rules w word single idles) all.1)

-- a parse of words that go to positionals, by where they stand
abbrev parsed : App → Walk → Kinds → Kinds
parsed a end walks = or_else walks (or_else (entered_fault a end.stopped) (or_else (settle_fault a.top.rules a.top.args_override_self end.held)
    (or_else (defaults_fault (settled a.top.rules end.held).rows a.top.rules) (check_fault a.top (finished a.top.rules end.held) (is_some (entered a end.stopped))))))

start : Walk
start = walk_from nothing_held

fault_parsed : (name first : Text) (ids words : List Text) → list_all is_single (built (words_app name ids)).top.rules ≡ true → AllByRecursion IsPath words
    → fault_of (words_app name ids) (first ∷ words)
    ≡ parsed (built (words_app name ids)) (fold (placed (built (words_app name ids)).top.rules) (walk_from nothing_held) words) (faults (built (words_app name ids)).top (walk_from nothing_held) words)
fault_parsed name first ids words single all =
    ap₂ (parsed (built (words_app name ids))) (walk_placed (built (words_app name ids)).top.rules (walk_from nothing_held) words single (refl, refl, refl) all)
    (faults_placed (built (words_app name ids)).top (walk_from nothing_held) words single (refl, refl, refl) all)

match_placed : (name first : Text) (ids words : List Text) → list_all is_single (built (words_app name ids)).top.rules ≡ true → AllByRecursion IsPath words
    → matches_of (words_app name ids) (first ∷ words)
    ≡ finished (built (words_app name ids)).top.rules (fold (placed (built (words_app name ids)).top.rules) (walk_from nothing_held) words).held
match_placed name first ids words single all =
    ap (λ (w : Walk). finished (built (words_app name ids)).top.rules w.held) (walk_placed (built (words_app name ids)).top.rules (walk_from nothing_held) words single (refl, refl, refl) all)

full : (k : ErrorKind) (ks : Kinds) → k ∷ ks ≡ [] → ⊥
full k ks e = let bad : suc (length ks) ≡ 0 = ap length e in absurd (omega arith)

-- a command of one positional takes two words, the second of which is its value
pub image_taken : (name : Text) (words : List Text) → AllByRecursion IsPath words → fault_of (words_app name image_ids) words ≡ []
    → (first path : Text) × (words ≡ first ∷ path ∷ []) × (first_of (codes "image") (matches_of (words_app name image_ids) words) ≡ Some path)
unfolding clap_on_literals
image_taken name [] all e = absurd (full _ _ e)
image_taken name (first ∷ []) all e = absurd (full _ _ e)
image_taken name (first ∷ path ∷ []) all e =
    (first, path, refl, ap (first_of (codes "image")) (match_placed name first image_ids (path ∷ []) refl all.1))
image_taken name (first ∷ path ∷ other ∷ more) all e =
    absurd (full _ _ (sym (fault_parsed name first image_ids (path ∷ other ∷ more) refl all.1) ∙ e))

pub image_fits : (name first path : Text) → AllByRecursion IsPath (first ∷ path ∷ []) → fault_of (words_app name image_ids) (first ∷ path ∷ []) ≡ []
unfolding clap_on_literals
image_fits name first path all = fault_parsed name first image_ids (path ∷ []) refl all.1

pub image_simple : (name : Text) → is_simple (words_app name image_ids) ≡ true
image_simple name = refl

pub image_free : (name : Text) → is_simple_and_free (words_app name image_ids) ≡ true
image_free name = refl

pub make_simple : (name : Text) → is_simple (words_app name make_ids) ≡ true
make_simple name = refl

pub make_free : (name : Text) → is_simple_and_free (words_app name make_ids) ≡ true
make_free name = refl

-- a command of four positionals takes five words
pub make_taken : (name : Text) (words : List Text) → AllByRecursion IsPath words → fault_of (words_app name make_ids) words ≡ []
    → (first path groups blocks ring : Text) × (words ≡ first ∷ path ∷ groups ∷ blocks ∷ ring ∷ [])
    × (first_of (codes "image") (matches_of (words_app name make_ids) words) ≡ Some path)
    × (first_of (codes "groups") (matches_of (words_app name make_ids) words) ≡ Some groups)
    × (first_of (codes "blocks") (matches_of (words_app name make_ids) words) ≡ Some blocks)
    × (first_of (codes "ring") (matches_of (words_app name make_ids) words) ≡ Some ring)
unfolding clap_on_literals
make_taken name [] all e = absurd (full _ _ e)
make_taken name (first ∷ []) all e = absurd (full _ _ e)
make_taken name (first ∷ a ∷ []) all e = absurd (full _ _ (sym (fault_parsed name first make_ids (a ∷ []) refl all.1) ∙ e))
make_taken name (first ∷ a ∷ b ∷ []) all e = absurd (full _ _ (sym (fault_parsed name first make_ids (a ∷ b ∷ []) refl all.1) ∙ e))
make_taken name (first ∷ a ∷ b ∷ c ∷ []) all e = absurd (full _ _ (sym (fault_parsed name first make_ids (a ∷ b ∷ c ∷ []) refl all.1) ∙ e))
make_taken name (first ∷ a ∷ b ∷ c ∷ d ∷ []) all e =
    let found = match_placed name first make_ids (a ∷ b ∷ c ∷ d ∷ []) refl all.1 in
    (first, a, b, c, d, refl, ap (first_of (codes "image")) found, ap (first_of (codes "groups")) found, ap (first_of (codes "blocks")) found, ap (first_of (codes "ring")) found)
make_taken name (first ∷ a ∷ b ∷ c ∷ d ∷ other ∷ more) all e =
    absurd (full _ _ (sym (fault_parsed name first make_ids (a ∷ b ∷ c ∷ d ∷ other ∷ more) refl all.1) ∙ e))

pub make_fits : (name first a b c d : Text) → AllByRecursion IsPath (first ∷ a ∷ b ∷ c ∷ d ∷ []) → fault_of (words_app name make_ids) (first ∷ a ∷ b ∷ c ∷ d ∷ []) ≡ []
unfolding clap_on_literals
make_fits name first a b c d all = fault_parsed name first make_ids (a ∷ b ∷ c ∷ d ∷ []) refl all.1
