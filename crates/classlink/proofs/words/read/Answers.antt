use Rattle.std.proofs.Common.{Ok, Err, map}
use Rattle.cl_program.specs.Asking.{AsksForBundle, AsksForFile, AsksForRun}
use Rattle.classlink.specs.CommandLine.{wrong_words}
use Rattle.classlink.proofs.Flags.{asked_by_words, bundle_asked, ends_by, for_memory, kind_by, path_asked, run_asked, takes_path, takes_run, takes_words}
use Rattle.classlink.proofs.words.read.Goals as goal

pub returns-in_err-matches-clause-asked : goal.returns-in_err-matches-clause-asked
returns-in_err-matches-clause-asked g c = λ o ask.
    for_memory (wrong_words (map g.S.AsStr.text c.args.words.now)) c.from_residual-in_err-matches.result c.in_err-matches.field-0.0 (AsksForBundle o) (takes_words _ o ask)
    c.from_residual-in_err-matches.ensures.1 (ends_by _ _ (Err c.in_err-matches.field-0.0) c.in_ok-command.ensures c.in_err-matches.ensures.kinds)

pub returns-in_err-matches-clause-read : goal.returns-in_err-matches-clause-read
returns-in_err-matches-clause-read g c = λ path ask.
    for_memory (wrong_words (map g.S.AsStr.text c.args.words.now)) c.from_residual-in_err-matches.result c.in_err-matches.field-0.0 (AsksForFile path) (takes_path _ path ask)
    c.from_residual-in_err-matches.ensures.1 (ends_by _ _ (Err c.in_err-matches.field-0.0) c.in_ok-command.ensures c.in_err-matches.ensures.kinds)

pub returns-in_err-matches-clause-run : goal.returns-in_err-matches-clause-run
returns-in_err-matches-clause-run g c = λ w ask.
    for_memory (wrong_words (map g.S.AsStr.text c.args.words.now)) c.from_residual-in_err-matches.result c.in_err-matches.field-0.0 (AsksForRun w) (takes_run _ w ask)
    c.from_residual-in_err-matches.ensures.1 (ends_by _ _ (Err c.in_err-matches.field-0.0) c.in_ok-command.ensures c.in_err-matches.ensures.kinds)

pub returns-in_err-matches-clause-refused : goal.returns-in_err-matches-clause-refused
returns-in_err-matches-clause-refused g c =
    kind_by (wrong_words (map g.S.AsStr.text c.args.words.now)) c.from_residual-in_err-matches.result c.in_err-matches.field-0.0
    c.from_residual-in_err-matches.ensures.1 (ends_by _ _ (Err c.in_err-matches.field-0.0) c.in_ok-command.ensures c.in_err-matches.ensures.kinds)

pub returns-clause-asked : goal.returns-clause-asked
returns-clause-asked g c = λ o ask.
    bundle_asked (map g.S.AsStr.text c.args.words.now) o c.asked_of.result ask (asked_by_words _ (map g.S.AsStr.text c.args.words.now) c.in_ok-matches.matches c.asked_of.result c.in_ok-command.ensures c.in_ok-matches.ensures.matches c.asked_of.ensures)

pub returns-clause-read : goal.returns-clause-read
returns-clause-read g c = λ path ask.
    path_asked (map g.S.AsStr.text c.args.words.now) path c.asked_of.result ask (asked_by_words _ (map g.S.AsStr.text c.args.words.now) c.in_ok-matches.matches c.asked_of.result c.in_ok-command.ensures c.in_ok-matches.ensures.matches c.asked_of.ensures)

pub returns-clause-run : goal.returns-clause-run
returns-clause-run g c = λ w ask.
    run_asked (map g.S.AsStr.text c.args.words.now) w c.asked_of.result ask (asked_by_words _ (map g.S.AsStr.text c.args.words.now) c.in_ok-matches.matches c.asked_of.result c.in_ok-command.ensures c.in_ok-matches.ensures.matches c.asked_of.ensures)

pub returns-clause-taken : goal.returns-clause-taken
returns-clause-taken g c = ends_by _ _ (Ok c.in_ok-matches.matches) c.in_ok-command.ensures c.in_ok-matches.ensures.kinds

pub returns-clause-exact : goal.returns-clause-exact
returns-clause-exact g c = asked_by_words _ (map g.S.AsStr.text c.args.words.now) c.in_ok-matches.matches c.asked_of.result c.in_ok-command.ensures c.in_ok-matches.ensures.matches c.asked_of.ensures
