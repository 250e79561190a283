use Rattle.std.proofs.Common.{◌∙◌, ℕ, List, map, string_bytes}
use Rattle.life_cli.specs.Form.{IsOnImage}
use Rattle.clap.specs.Words.{app_of}
use Rattle.life_cli.proofs.Parses.{image_is, image_is_not, option_given}
use Rattle.life_cli.proofs.words.read_image.Goals as goal

pub returns-in_default : goal.returns-in_default
returns-in_default c path is =
    let parse = c.try_get_matches_from in
    let words = c.requires in
    image_is_not (app_of c.in_ok-command.command) c.args.form.now (map string_bytes c.args.words.now) parse.result c.in_ok-command.ensures parse.ensures.kinds
    (rw c.in_default.is at c.in_ok-matches.ensures) words.0 words.1.0 words.1.1 path is.0

pub returns : goal.returns
returns c =
    let parse = c.try_get_matches_from in
    let words = c.requires in
    let found = image_is (app_of c.in_ok-command.command) c.args.form.now (map string_bytes c.args.words.now) parse.result c.in-Some.matches c.in_ok-command.ensures parse.ensures.kinds
    parse.ensures.matches (rw c.in-Some.is at c.in_ok-matches.ensures) words.0 words.1.0 words.1.1 in
    option_given c.get_str.result found.0 ((path : List ℕ) → IsOnImage c.args.words.now c.args.form.now path → ⊥)
    (IsOnImage c.args.words.now c.args.form.now) (c.get_str.ensures ∙ found.3) (found.1, found.2)
