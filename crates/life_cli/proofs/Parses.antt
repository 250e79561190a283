-- From the clauses of a parse to the words.
use Rattle.std.proofs.Common.{◌≡◌, ◌∙◌, true, List, [], ◌∷◌, map, codes, ap, sym, subst, Some, None, Ok, Err, IfOk, IsErrAnd, MatchOption, Bor, Option, Result, option_map, inl, inr, rules, arith, String, Global, string_bytes, zero, suc, slice_get, IfSome, IsSome, true≢false}
use Rattle.std.specs.List.{All, AllByRecursion}
use Rattle.clap.specs.Walk.{Text, first_of}
use Rattle.clap.specs.Simple.{App, HasMatchesOf, is_simple, matches_of}
use Rattle.clap.specs.Kinds.{FailsBy, IsAmong}
use Rattle.clap.specs.Faults.{fault_of, is_simple_and_free}
use Rattle.clap.specs.Matches.{first_value, found_of}
use Rattle.clap.specs.Values.{kind_of}
use Rattle.clap.specs.declared.error.Error.{Error}
use Rattle.clap.specs.declared.error.kind.ErrorKind.TheVariants.{OutOfMemory}
use Rattle.clap.specs.declared.parser.matches.ArgMatches.{ArgMatches}
use Rattle.clap.proofs.WalkLemmas.{first_value-rows}
use Rattle.life_cli.proofs.Positionals.{image_fits, image_free, image_simple, image_taken, make_fits, make_free, make_simple, make_taken}
use Rattle.life_cli.specs.Form.{IsPath}
use Rattle.life_cli.specs.Words.{BeginWith, image_ids, make_ids, words_app}
use Rattle.life_cli.specs.declared.words.MakeWords.{MakeWords}

kinds_at : (given app : App) (words : List Text) (parsed : Result ArgMatches Error) → given ≡ app → (is_simple_and_free given ≡ true → FailsBy (fault_of given words) parsed)
    → is_simple_and_free app ≡ true → FailsBy (fault_of app words) parsed
kinds_at given app words parsed same kinds = subst (λ (a : App). is_simple_and_free a ≡ true → FailsBy (fault_of a words) parsed) same kinds

-- a parse that fails for another cause than memory has a fault
pub is_faulty : (given app : App) (words : List Text) (parsed : Result ArgMatches Error) → given ≡ app → is_simple_and_free app ≡ true
    → (is_simple_and_free given ≡ true → FailsBy (fault_of given words) parsed) → IsErrAnd parsed (λ e. kind_of e ≡ OutOfMemory → ⊥) → fault_of app words ≡ [] → ⊥
is_faulty given app words (Ok m) same free kinds refused none = absurd refused
is_faulty given app words (Err e) same free kinds refused none = elim (kinds_at given app words (Err e) same kinds free) [
  | inl memory ↦ absurd (refused memory)
  | inr among ↦ absurd (subst (IsAmong (kind_of e)) none among)
]

-- one that succeeds has none, and its matches are those of the words
pub has_matches : (given app : App) (words : List Text) (parsed : Result ArgMatches Error) (m : ArgMatches) → given ≡ app → parsed ≡ Ok m → is_simple_and_free app ≡ true
    → is_simple app ≡ true → (is_simple_and_free given ≡ true → FailsBy (fault_of given words) parsed) → IfOk parsed (HasMatchesOf given words)
    → (fault_of app words ≡ []) × ((id : Text) → first_value (found_of m) id ≡ first_of id (matches_of app words))
has_matches given app words parsed m same is free simple kinds matches =
    let given_found : HasMatchesOf given words m = subst (λ (r : Result ArgMatches Error). IfOk r (HasMatchesOf given words)) is matches in
    let found : HasMatchesOf app words m = subst (λ (a : App). HasMatchesOf a words m) same given_found in
    let none : FailsBy (fault_of app words) (Ok m) = subst (λ (r : Result ArgMatches Error). FailsBy (fault_of app words) r) is (kinds_at given app words parsed same kinds free) in
    (none, λ id. first_value-rows (found_of m) id ∙ ap (first_of id) (found simple).0)

-- a command of one positional that took the words
pub image_is : (app : App) (form : Text) (words : List Text) (parsed : Result ArgMatches Error) (m : ArgMatches) → app ≡ words_app form image_ids
    → (is_simple_and_free app ≡ true → FailsBy (fault_of app words) parsed) → IfOk parsed (HasMatchesOf app words) → parsed ≡ Ok m → (rest : List Text) → words ≡ form ∷ rest → AllByRecursion IsPath (form ∷ rest)
    → (path : Text) × (words ≡ form ∷ path ∷ []) × IsPath path × (first_value (found_of m) (codes "image") ≡ Some path)
image_is app form words parsed m app_is kinds matches is rest words_are paths =
    let all : AllByRecursion IsPath words = subst (AllByRecursion IsPath) (sym words_are) paths in
    let took = has_matches app (words_app form image_ids) words parsed m app_is is (image_free form) (image_simple form) kinds matches in
    let (first, path, same, value) = image_taken form words all took.0 in
    let heads : form ∷ rest ≡ first ∷ path ∷ [] = sym words_are ∙ same in
    let form_is : first ≡ form = cc in
    let rest_is : rest ≡ path ∷ [] = cc in
    (path, subst (λ (f : Text). words ≡ f ∷ path ∷ []) form_is same, (subst (AllByRecursion IsPath) heads paths).1.0, took.1 (codes "image") ∙ value)

-- and one that refused them
pub image_is_not : (app : App) (form : Text) (words : List Text) (parsed : Result ArgMatches Error) → app ≡ words_app form image_ids
    → (is_simple_and_free app ≡ true → FailsBy (fault_of app words) parsed)
    → IsErrAnd parsed (λ e. kind_of e ≡ OutOfMemory → ⊥) → (rest : List Text) → words ≡ form ∷ rest → AllByRecursion IsPath (form ∷ rest)
    → (path : Text) → words ≡ form ∷ path ∷ [] → ⊥
image_is_not app form words parsed app_is kinds refused rest words_are paths path same =
    let all : AllByRecursion IsPath (form ∷ path ∷ []) = subst (AllByRecursion IsPath) (sym words_are ∙ same) paths in
    is_faulty app (words_app form image_ids) words parsed app_is (image_free form) kinds refused
    (subst (λ (w : List Text). fault_of (words_app form image_ids) w ≡ []) (sym same) (image_fits form form path all))

-- a command of four positionals that took the words
pub make_is : (app : App) (form : Text) (words : List Text) (parsed : Result ArgMatches Error) (m : ArgMatches) → app ≡ words_app form make_ids
    → (is_simple_and_free app ≡ true → FailsBy (fault_of app words) parsed) → IfOk parsed (HasMatchesOf app words) → parsed ≡ Ok m → (rest : List Text) → words ≡ form ∷ rest → AllByRecursion IsPath (form ∷ rest)
    → (image groups blocks ring : Text) × (words ≡ form ∷ image ∷ groups ∷ blocks ∷ ring ∷ []) × (first_value (found_of m) (codes "image") ≡ Some image)
    × (first_value (found_of m) (codes "groups") ≡ Some groups) × (first_value (found_of m) (codes "blocks") ≡ Some blocks)
    × (first_value (found_of m) (codes "ring") ≡ Some ring)
make_is app form words parsed m app_is kinds matches is rest words_are paths =
    let all : AllByRecursion IsPath words = subst (AllByRecursion IsPath) (sym words_are) paths in
    let took = has_matches app (words_app form make_ids) words parsed m app_is is (make_free form) (make_simple form) kinds matches in
    let (first, image, groups, blocks, ring, same, a, b, c, d) = make_taken form words all took.0 in
    let heads : form ∷ rest ≡ first ∷ image ∷ groups ∷ blocks ∷ ring ∷ [] = sym words_are ∙ same in
    let form_is : first ≡ form = cc in (
      image,
      groups,
      blocks,
      ring,
      subst (λ (f : Text). words ≡ f ∷ image ∷ groups ∷ blocks ∷ ring ∷ []) form_is same,
      took.1 (codes "image") ∙ a,
      took.1 (codes "groups") ∙ b,
      took.1 (codes "blocks") ∙ c,
      took.1 (codes "ring") ∙ d,
    )

pub make_is_not : (app : App) (form : Text) (words : List Text) (parsed : Result ArgMatches Error) → app ≡ words_app form make_ids
    → (is_simple_and_free app ≡ true → FailsBy (fault_of app words) parsed)
    → IsErrAnd parsed (λ e. kind_of e ≡ OutOfMemory → ⊥) → (rest : List Text) → words ≡ form ∷ rest → AllByRecursion IsPath (form ∷ rest)
    → (image groups blocks ring : Text) → words ≡ form ∷ image ∷ groups ∷ blocks ∷ ring ∷ [] → ⊥
make_is_not app form words parsed app_is kinds refused rest words_are paths image groups blocks ring same =
    let all : AllByRecursion IsPath (form ∷ image ∷ groups ∷ blocks ∷ ring ∷ []) = subst (AllByRecursion IsPath) (sym words_are ∙ same) paths in
    is_faulty app (words_app form make_ids) words parsed app_is (make_free form) kinds refused
    (subst (λ (w : List Text). fault_of (words_app form make_ids) w ≡ []) (sym same) (make_fits form form image groups blocks ring all))

-- a value that is there, of which P holds
pub option_given : (r : Option (Bor Text)) (text : Text) (Q : Type 0) (P : Text → Type 0) → option_map (λ (s : Bor Text). s.now) r ≡ Some text → P text
    → MatchOption r Q (λ s. P s.now)
option_given None text Q P is holds = absurd cc
option_given (Some s) text Q P is holds = let same : s.now ≡ text = cc in subst P (sym same) holds

-- each word is one, of the words as bytes
pub all_words : (words : List (String Global)) → All (λ word. IsPath (string_bytes word)) words → AllByRecursion IsPath (map string_bytes words)
all_words [] all = tt
all_words (word ∷ rest) all = (all 0 word (search rules), all_words rest (λ k d lt. all (suc k) d (search rules)))

pub each_word : (words : List (String Global)) → AllByRecursion IsPath (map string_bytes words) → All (λ word. IsPath (string_bytes word)) words
each_word [] all k d lt = absurd (omega arith)
each_word (word ∷ rest) all zero d lt = all.0
each_word (word ∷ rest) all (suc k) d lt = each_word rest all.1 k d (search rules)

pub first_word : (words : List (String Global)) (word : String Global) (form : Text) → Some word ≡ slice_get words 0 → form ≡ string_bytes word
    → All (λ w. IsPath (string_bytes w)) words → BeginWith words form
first_word [] word form is text all = absurd cc
first_word (first ∷ rest) word form is text all =
    let same : string_bytes first ≡ form = cc in
    let paths = all_words (first ∷ rest) all in
    (map string_bytes rest, (ap (λ (t : Text). t ∷ map string_bytes rest) same, (subst IsPath same paths.0, paths.1)))

-- no word is an option in such words
pub command_words : (words : List (String Global)) (form : Text) → BeginWith words form → All (λ w. IsPath (string_bytes w)) words
command_words words form (rest, (is, all)) = each_word words (subst (AllByRecursion IsPath) (sym is) all)

some_is : {a b : Text} → Some a ≡ Some b → a ≡ b
some_is e = cc

-- the four values of a command that took the words
pub make_given : (r : Option MakeWords) (value : Text → Option Text) (words : List Text) (Q : Type 0) (image groups blocks ring : Text)
    → IfSome r (λ w. (value (codes "image") ≡ Some w.image.now) × (value (codes "groups") ≡ Some w.groups.now)
    × (value (codes "blocks") ≡ Some w.blocks.now) × (value (codes "ring") ≡ Some w.ring.now))
    → ((a b c d : Text) → value (codes "image") ≡ Some a → value (codes "groups") ≡ Some b → value (codes "blocks") ≡ Some c → value (codes "ring") ≡ Some d → IsSome r)
    → words ≡ codes "make" ∷ image ∷ groups ∷ blocks ∷ ring ∷ [] → value (codes "image") ≡ Some image → value (codes "groups") ≡ Some groups
    → value (codes "blocks") ≡ Some blocks → value (codes "ring") ≡ Some ring
    → MatchOption r Q (λ w. words ≡ codes "make" ∷ w.image.now ∷ w.groups.now ∷ w.blocks.now ∷ w.ring.now ∷ [])
make_given None value words Q image groups blocks ring some all same a b c d = absurd (true≢false (sym (all image groups blocks ring a b c d)))
make_given (Some w) value words Q image groups blocks ring (p, q, u, v) all same a b c d =
    let at_image : image ≡ w.image.now = some_is (sym a ∙ p) in
    let at_groups : groups ≡ w.groups.now = some_is (sym b ∙ q) in
    let at_blocks : blocks ≡ w.blocks.now = some_is (sym c ∙ u) in
    let at_ring : ring ≡ w.ring.now = some_is (sym d ∙ v) in
    cc
