use Rattle.std.proofs.Common.{codes, refl}
use Rattle.clap.specs.Words.{found_of, subcommand_rows_of}
use Rattle.classlink.proofs.Flags.{are_its, file_read, is_named}
use Rattle.classlink.proofs.words.asked_of.Goals as goal

pub returns-in-Some : goal.returns-in-Some
returns-in-Some c = (
  is_named c.args.matches.now (codes "read") (c.in-Some.ensures.found.0 refl),
  file_read (codes "FILE") (subcommand_rows_of c.args.matches.now) (found_of c.in-Some.read.now) c.get_str.result _ c.unwrap_or.result c.in-Some.ensures.rows c.get_str.ensures refl c.unwrap_or.ensures,
)

pub returns-in-Some-subcommand_matches : goal.returns-in-Some-subcommand_matches
returns-in-Some-subcommand_matches c =
    let rows = subcommand_rows_of c.args.matches.now in
    let found = found_of c.in-Some-subcommand_matches.run'.now in (
      is_named c.args.matches.now (codes "run") (c.in-Some-subcommand_matches.ensures.found.0 refl),
      record {
        config = file_read (codes "CONFIG") rows found c.get_str-in-Some-subcommand_matches.result _ c.unwrap_or-in-Some-subcommand_matches.result c.in-Some-subcommand_matches.ensures.rows c.get_str-in-Some-subcommand_matches.ensures refl c.unwrap_or-in-Some-subcommand_matches.ensures;
        script = file_read (codes "SCRIPT") rows found c.get_str-in-Some-subcommand_matches-2.result _ c.unwrap_or-in-Some-subcommand_matches-2.result c.in-Some-subcommand_matches.ensures.rows c.get_str-in-Some-subcommand_matches-2.ensures refl c.unwrap_or-in-Some-subcommand_matches-2.ensures;
        options = are_its found rows c.options_of.result c.in-Some-subcommand_matches.ensures.rows c.options_of.ensures;
      },
    )
