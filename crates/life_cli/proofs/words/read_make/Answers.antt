use Rattle.std.proofs.Common.{◌≡◌, ℕ, List, [], ◌∷◌, codes, map, string_bytes}
use Rattle.clap.specs.Words.{app_of, first_value, found_of}
use Rattle.life_cli.proofs.Parses.{make_given, make_is, make_is_not}
use Rattle.life_cli.proofs.words.read_make.Goals as goal

pub returns-in_default : goal.returns-in_default
returns-in_default c image groups blocks ring is =
    let parse = c.try_get_matches_from in
    let words = c.requires in
    make_is_not (app_of c.in_ok-command.command) (codes "make") (map string_bytes c.args.words.now) parse.result c.in_ok-command.ensures parse.ensures.kinds
    (rw c.in_default.is at c.in_ok-matches.ensures) words.0 words.1.0 words.1.1 image groups blocks ring is

pub returns : goal.returns
returns c =
    let parse = c.try_get_matches_from in
    let words = c.requires in
    let found = make_is (app_of c.in_ok-command.command) (codes "make") (map string_bytes c.args.words.now) parse.result c.in-Some.matches c.in_ok-command.ensures parse.ensures.kinds
    parse.ensures.matches (rw c.in-Some.is at c.in_ok-matches.ensures) words.0 words.1.0 words.1.1 in
    make_given c.make_words.result (first_value (found_of c.in-Some.matches)) (map string_bytes c.args.words.now)
    ((image groups blocks ring : List ℕ) → map string_bytes c.args.words.now ≡ codes "make" ∷ image ∷ groups ∷ blocks ∷ ring ∷ [] → ⊥)
    found.0 found.1 found.2 found.3 c.make_words.ensures.some c.make_words.ensures.all found.4 found.5 found.6 found.7 found.8
