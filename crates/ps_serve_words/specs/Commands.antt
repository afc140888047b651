-- The command `serve` as clap sees it. The first word is the command's name.
use Rattle.std.specs.Prelude.{ℕ, true, List, [], ◌∷◌, codes, Some, pos}
use Rattle.clap.specs.Simple.{App, new_app, new_rule, with_rule}
use Rattle.clap.specs.Walk.{Rule}
use Rattle.clap.specs.declared.builder.action.ArgAction.TheVariants.{Set, SetTrue}
use Rattle.clap.specs.declared.builder.value_parser.ValueParser.TheVariants as parsers

-- `--NAME TEXT`, which has to be given
abbrev pub needed : List ℕ → Rule
needed name = record (new_rule name) { long = Some name; action = Some Set; required = true }

-- `--NAME TEXT`, which may be left out
abbrev pub choice : List ℕ → Rule
choice name = record (new_rule name) { long = Some name; action = Some Set }

-- `--NAME N`, with N from 1 to 1,000,000
abbrev pub number : List ℕ → Rule
number name = record (new_rule name) { long = Some name; action = Some Set; parser = Some (parsers.Signed (pos 1) (pos 1000000)) }

-- which is 1,000 where it is left out
abbrev pub with_thousand : Rule → Rule
with_thousand rule = record rule { defaults = codes "1000" ∷ [] }

-- `--NAME N`, with N from 0 to 9223372036854775807, which is 0 where it is left out
abbrev pub with_none : List ℕ → Rule
with_none name = record (choice name) { parser = Some (parsers.Unsigned 0 9223372036854775807); defaults = codes "0" ∷ [] }

-- `--NAME`
abbrev pub flag : List ℕ → Rule
flag name = record (new_rule name) { long = Some name; action = Some SetTrue }

-- the files and the address, which have to be given
abbrev pub with_texts : App → App
with_texts app =
    with_rule (with_rule (with_rule (with_rule app (needed (codes "rules"))) (needed (codes "changes"))) (needed (codes "keys"))) (needed (codes "listen"))

-- what is left to the doors and to other commands where it is left out
abbrev pub with_choices : App → App
with_choices app = with_rule (with_rule app (number (codes "connections"))) (flag (codes "until-drained"))

-- what is 1,000 where it is left out
abbrev pub with_paces : App → App
with_paces app = with_rule (with_rule app (with_thousand (number (codes "batch")))) (with_thousand (number (codes "compact-at")))

-- the rules that come next, and once how many transactions are committed
abbrev pub with_next : App → App
with_next app = with_rule (with_rule app (choice (codes "next"))) (with_none (codes "next-after"))

-- `serve --rules FILE --changes FILE --keys FILE --listen ADDRESS [--connections N] [--until-drained] [--batch N] [--compact-at N] [--next FILE] [--next-after N]`
unfoldable pub serve_app : App
serve_app = with_next (with_paces (with_choices (with_texts (new_app (codes "serve")))))
