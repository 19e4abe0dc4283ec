use Rattle.clap.specs.Words.{found_of, subcommand_rows_of}
use Rattle.std.proofs.Common.{sym}
use Rattle.classlink.proofs.Flags.{are_its}
use Rattle.classlink.proofs.words.bundle_options.Goals as goal

pub returns-in-Some : goal.returns-in-Some
returns-in-Some c = are_its (found_of c.in-Some.bundle.now) (subcommand_rows_of c.args.matches.now) c.options_of.result (sym c.in-Some.ensures.rows) c.options_of.ensures
