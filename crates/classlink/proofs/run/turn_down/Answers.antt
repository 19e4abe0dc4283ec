use Rattle.classlink.proofs.Ending.{for_help, help_failed, helped}
use Rattle.classlink.proofs.run.turn_down.Goals as goal

pub returns-in-Ok : goal.returns-in-Ok
returns-in-Ok g c = for_help c.kind.result _ _ _ c.kind.ensures c.in-DisplayHelp.is (helped _ _ c.print_help.ensures.grown)

pub returns-in-Err : goal.returns-in-Err
returns-in-Err g c =
    for_help c.kind.result _ _ _ c.kind.ensures c.in-DisplayHelp.is
    (help_failed _ c.in-Err.fault c.fail-in-Err.result c.in-Err.ensures.faults c.print_help.ensures.grown c.fail-in-Err.ensures.status c.fail-in-Err.ensures.told)
