use Rattle.cl_tasks.proofs.Turning.{turns}
use Rattle.cl_tasks.proofs.task.Task.turn.Goals as goal

pub invariant_of-self : goal.invariant_of-self
invariant_of-self g c =
    (turns g.T.Told.told c.self.inside.config.value c.self.inside.stage c.replace-stage.result c.replace.new.dest c.args.self.now c.args.reply c.step-next.result c.self.view_is c.requires.expects c.replace-stage.ensures.value c.step-next.ensures c.replace.ensures.after).kept

pub returns-clause-number : goal.returns-clause-number
returns-clause-number g c =
    (turns g.T.Told.told c.self.inside.config.value c.self.inside.stage c.replace-stage.result c.replace.new.dest c.args.self.now c.args.reply c.step-next.result c.self.view_is c.requires.expects c.replace-stage.ensures.value c.step-next.ensures c.replace.ensures.after).number

pub returns-clause-config : goal.returns-clause-config
returns-clause-config g c =
    (turns g.T.Told.told c.self.inside.config.value c.self.inside.stage c.replace-stage.result c.replace.new.dest c.args.self.now c.args.reply c.step-next.result c.self.view_is c.requires.expects c.replace-stage.ensures.value c.step-next.ensures c.replace.ensures.after).config

pub returns-clause-asks : goal.returns-clause-asks
returns-clause-asks g c =
    (turns g.T.Told.told c.self.inside.config.value c.self.inside.stage c.replace-stage.result c.replace.new.dest c.args.self.now c.args.reply c.step-next.result c.self.view_is c.requires.expects c.replace-stage.ensures.value c.step-next.ensures c.replace.ensures.after).asks

pub returns-clause-serves : goal.returns-clause-serves
returns-clause-serves g c =
    (turns g.T.Told.told c.self.inside.config.value c.self.inside.stage c.replace-stage.result c.replace.new.dest c.args.self.now c.args.reply c.step-next.result c.self.view_is c.requires.expects c.replace-stage.ensures.value c.step-next.ensures c.replace.ensures.after).serves

pub returns-clause-left : goal.returns-clause-left
returns-clause-left g c =
    (turns g.T.Told.told c.self.inside.config.value c.self.inside.stage c.replace-stage.result c.replace.new.dest c.args.self.now c.args.reply c.step-next.result c.self.view_is c.requires.expects c.replace-stage.ensures.value c.step-next.ensures c.replace.ensures.after).left

pub returns-clause-keeps : goal.returns-clause-keeps
returns-clause-keeps g c =
    (turns g.T.Told.told c.self.inside.config.value c.self.inside.stage c.replace-stage.result c.replace.new.dest c.args.self.now c.args.reply c.step-next.result c.self.view_is c.requires.expects c.replace-stage.ensures.value c.step-next.ensures c.replace.ensures.after).keeps

pub returns-clause-backed : goal.returns-clause-backed
returns-clause-backed g c =
    (turns g.T.Told.told c.self.inside.config.value c.self.inside.stage c.replace-stage.result c.replace.new.dest c.args.self.now c.args.reply c.step-next.result c.self.view_is c.requires.expects c.replace-stage.ensures.value c.step-next.ensures c.replace.ensures.after).backed

pub returns-clause-next : goal.returns-clause-next
returns-clause-next g c =
    (turns g.T.Told.told c.self.inside.config.value c.self.inside.stage c.replace-stage.result c.replace.new.dest c.args.self.now c.args.reply c.step-next.result c.self.view_is c.requires.expects c.replace-stage.ensures.value c.step-next.ensures c.replace.ensures.after).next

pub returns-clause-refused : goal.returns-clause-refused
returns-clause-refused g c =
    (turns g.T.Told.told c.self.inside.config.value c.self.inside.stage c.replace-stage.result c.replace.new.dest c.args.self.now c.args.reply c.step-next.result c.self.view_is c.requires.expects c.replace-stage.ensures.value c.step-next.ensures c.replace.ensures.after).refused

pub returns-clause-linkage : goal.returns-clause-linkage
returns-clause-linkage g c =
    (turns g.T.Told.told c.self.inside.config.value c.self.inside.stage c.replace-stage.result c.replace.new.dest c.args.self.now c.args.reply c.step-next.result c.self.view_is c.requires.expects c.replace-stage.ensures.value c.step-next.ensures c.replace.ensures.after).linkage

pub returns-clause-lacks : goal.returns-clause-lacks
returns-clause-lacks g c =
    (turns g.T.Told.told c.self.inside.config.value c.self.inside.stage c.replace-stage.result c.replace.new.dest c.args.self.now c.args.reply c.step-next.result c.self.view_is c.requires.expects c.replace-stage.ensures.value c.step-next.ensures c.replace.ensures.after).lacks

pub returns-clause-blames : goal.returns-clause-blames
returns-clause-blames g c =
    (turns g.T.Told.told c.self.inside.config.value c.self.inside.stage c.replace-stage.result c.replace.new.dest c.args.self.now c.args.reply c.step-next.result c.self.view_is c.requires.expects c.replace-stage.ensures.value c.step-next.ensures c.replace.ensures.after).blames

pub returns-clause-reads : goal.returns-clause-reads
returns-clause-reads g c =
    (turns g.T.Told.told c.self.inside.config.value c.self.inside.stage c.replace-stage.result c.replace.new.dest c.args.self.now c.args.reply c.step-next.result c.self.view_is c.requires.expects c.replace-stage.ensures.value c.step-next.ensures c.replace.ensures.after).reads

pub returns-clause-derives : goal.returns-clause-derives
returns-clause-derives g c =
    (turns g.T.Told.told c.self.inside.config.value c.self.inside.stage c.replace-stage.result c.replace.new.dest c.args.self.now c.args.reply c.step-next.result c.self.view_is c.requires.expects c.replace-stage.ensures.value c.step-next.ensures c.replace.ensures.after).derives

pub returns-clause-own : goal.returns-clause-own
returns-clause-own g c =
    (turns g.T.Told.told c.self.inside.config.value c.self.inside.stage c.replace-stage.result c.replace.new.dest c.args.self.now c.args.reply c.step-next.result c.self.view_is c.requires.expects c.replace-stage.ensures.value c.step-next.ensures c.replace.ensures.after).own

pub returns-clause-calls : goal.returns-clause-calls
returns-clause-calls g c =
    (turns g.T.Told.told c.self.inside.config.value c.self.inside.stage c.replace-stage.result c.replace.new.dest c.args.self.now c.args.reply c.step-next.result c.self.view_is c.requires.expects c.replace-stage.ensures.value c.step-next.ensures c.replace.ensures.after).calls

pub returns-clause-more : goal.returns-clause-more
returns-clause-more g c =
    (turns g.T.Told.told c.self.inside.config.value c.self.inside.stage c.replace-stage.result c.replace.new.dest c.args.self.now c.args.reply c.step-next.result c.self.view_is c.requires.expects c.replace-stage.ensures.value c.step-next.ensures c.replace.ensures.after).more
