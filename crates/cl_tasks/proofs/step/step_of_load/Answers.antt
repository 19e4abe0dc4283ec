use Rattle.cl_tasks.specs.declared.stage.Load.TheVariants as loads
use Rattle.cl_tasks.proofs.StepCases.{expects_own, job_own, steps_moved}
use Rattle.cl_tasks.proofs.step.step_of_load.Goals as goal

pub begin-requires : goal.begin-requires
begin-requires g c =
    let kept = rw c.in-Fresh.is at c.requires.kept in
    let expects = rw c.in-Fresh.is at c.requires.expects in
    record {
      job = job_own g.T.Told.told c.args.config.now.value c.in-Fresh.job kept.0;
      first = kept.1;
      expects = expects_own c.args.config.now.value c.in-Fresh.job.path.config (loads.Fresh c.in-Fresh.job) c.args.reply kept.0.config expects;
    }

pub returns-in-Fresh : goal.returns-in-Fresh
returns-in-Fresh g c =
    let kept = rw c.in-Fresh.is at c.requires.kept in
    rw c.in-Fresh.is (steps_moved g.T.Told.told c.args.config.now.value c.in-Fresh.job.path.config (loads.Fresh c.in-Fresh.job) c.args.reply c.begin.result kept.0.config c.begin.ensures)

pub after_look-requires : goal.after_look-requires
after_look-requires g c = record { job = rw c.in-Looking.is at c.requires.kept; expects = rw c.in-Looking.is at c.requires.expects }

pub returns-in-Looking : goal.returns-in-Looking
returns-in-Looking g c = rw c.in-Looking.is c.after_look.ensures

pub after_read-requires : goal.after_read-requires
after_read-requires g c =
    let kept = rw c.in-Searching.is at c.requires.kept in
    let expects = rw c.in-Searching.is at c.requires.expects in
    record {
      job = job_own g.T.Told.told c.args.config.now.value c.in-Searching.job kept.0;
      search = kept.1;
      expects = expects_own c.args.config.now.value c.in-Searching.job.path.config (loads.Searching c.in-Searching.job c.in-Searching.search) c.args.reply kept.0.config expects;
    }

pub returns-in-Searching : goal.returns-in-Searching
returns-in-Searching g c =
    let kept = rw c.in-Searching.is at c.requires.kept in
    rw c.in-Searching.is (steps_moved g.T.Told.told c.args.config.now.value c.in-Searching.job.path.config (loads.Searching c.in-Searching.job c.in-Searching.search) c.args.reply c.after_read.result kept.0.config c.after_read.ensures)

pub after_home_look-requires : goal.after_home_look-requires
after_home_look-requires g c =
    let kept = rw c.in-Homing.is at c.requires.kept in
    let expects = rw c.in-Homing.is at c.requires.expects in
    record {
      job = job_own g.T.Told.told c.args.config.now.value c.in-Homing.job kept.0;
      home = kept.1;
      expects = expects_own c.args.config.now.value c.in-Homing.job.path.config (loads.Homing c.in-Homing.job c.in-Homing.home) c.args.reply kept.0.config expects;
    }

pub returns-in-Homing : goal.returns-in-Homing
returns-in-Homing g c =
    let kept = rw c.in-Homing.is at c.requires.kept in
    rw c.in-Homing.is (steps_moved g.T.Told.told c.args.config.now.value c.in-Homing.job.path.config (loads.Homing c.in-Homing.job c.in-Homing.home) c.args.reply c.after_home_look.result kept.0.config c.after_home_look.ensures)

pub after_define-requires : goal.after_define-requires
after_define-requires g c =
    let kept = rw c.in-Defining.is at c.requires.kept in
    record { job = kept.0; whole = kept.1; expects = rw c.in-Defining.is at c.requires.expects }

pub returns-in-Defining : goal.returns-in-Defining
returns-in-Defining g c = rw c.in-Defining.is c.after_define.ensures

pub after_initiate-requires : goal.after_initiate-requires
after_initiate-requires g c =
    let kept = rw c.in-Initiating.is at c.requires.kept in
    record { job = kept.0; next = kept.1; expects = rw c.in-Initiating.is at c.requires.expects }

pub returns-in-Initiating : goal.returns-in-Initiating
returns-in-Initiating g c = rw c.in-Initiating.is c.after_initiate.ensures
