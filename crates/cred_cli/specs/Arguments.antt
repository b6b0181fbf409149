-- The command line, as `clap` reads it.
use Rattle.std.specs.Prelude.{true, Some, [], ◌∷◌, codes, pos}
use Rattle.clap.specs.Words.{App, Rule, Text, new_app, new_rule, with_rule, with_subcommand}
use Rattle.clap.specs.declared.builder.value_parser.ValueParser.TheVariants as parser

-- `--workers N`, a number of 1 to 64, by default 1
abbrev pub workers_rule : Rule
workers_rule =
    record (new_rule (codes "workers")) {
      long = Some (codes "workers");
      value_names = 1;
      parser = Some (parser.Signed (pos 1) (pos 64));
      defaults = codes "1" ∷ [];
    }

abbrev pub needed_rule : Text → Rule
needed_rule name = record (new_rule name) { value_names = 1; required = true }

abbrev pub password_rule : Rule
password_rule = record (new_rule (codes "password")) { value_names = 1 }

-- `run [--workers N]`
abbrev pub run_app : App
run_app = with_rule (new_app (codes "run")) workers_rule

-- `hash SETTING [PW] [--workers N]`, and `check RECORD [PW] [--workers N]`
abbrev pub one_app : Text → Rule → App
one_app word what = with_rule (with_rule (with_rule (new_app word) what) password_rule) workers_rule

-- the program with `run` alone, which also accepts `--version`
abbrev pub base_app : App
base_app = let app = new_app (codes "credbook") in
    with_subcommand
    (record app {
      top = record app.top {
        no_binary_name = true;
        subcommand_required = true;
        has_version = true;
      };
    }) run_app.top

abbrev pub credbook : App
credbook =
    with_subcommand
    (with_subcommand base_app (one_app (codes "hash") (needed_rule (codes "setting"))).top)
    (one_app (codes "check") (needed_rule (codes "record"))).top
