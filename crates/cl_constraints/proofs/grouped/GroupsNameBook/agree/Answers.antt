use Rattle.cl_constraints.proofs.Grouping.{agreeing}
use Rattle.cl_constraints.proofs.grouped.GroupsNameBook.agree.Goals as goal

pub returns-in-Some-Some : goal.returns-in-Some-Some
returns-in-Some-Some c = agreeing c.args.self.now c.args.a c.args.b c.in-Some-Some.one c.in-Some-Some.other c.eq.result c.eq.ensures c.in-Some-Some.ensures.shared c.in-Some-Some.ensures'.shared
