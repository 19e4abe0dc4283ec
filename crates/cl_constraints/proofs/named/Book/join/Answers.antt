use Rattle.std.proofs.Common.{◌∙◌, ap, sym, refl}
use Rattle.cl_constraints.specs.Named.{found_named}
use Rattle.cl_constraints.proofs.Naming.{agrees_here, joined_some, written, rewritten}
use Rattle.cl_constraints.proofs.named.Book.join.Goals as goal
use Rattle.cl_constraints.proofs.named.Book.join.Goals.{in-Ok, in-Err}

pub join-requires-clause-fits : goal.join-requires-clause-fits
join-requires-clause-fits g c =
    agrees_here g.N.NameBook.record_at g.N.NameBook.joins c.args.self.now c.args.name c.in-Some.one.now (sym (c.in-Some.ensures.value ∙ ap (λ b. found_named b c.args.name) c.self.view_is)) c.args.a c.args.b c.requires.fits

pub returns-in-Some-clause-ok : goal.returns-in-Some-clause-ok
returns-in-Some-clause-ok g c =
    elim c.match-join.branch [
      | in-Ok w ↦
          let there = sym (c.in-Some.ensures.value ∙ ap (λ b. found_named b c.args.name) c.self.view_is) in
          let sets = written c.self.inside.names (c.get_mut.follows.lender c.join.new.self) c.args.self.now c.args.name c.in-Some.one.now c.join.new.self c.self.view_is c.in-Some.ensures.value (c.get_mut.follows.holds c.join.new.self) in
          rw w.result-is (joined_some g.N.NameBook.record_at g.N.NameBook.joins c.args.self.now (c.get_mut.follows.lender c.join.new.self).entries c.args.name c.in-Some.one.now c.join.new.self c.args.a c.args.b there sets w.in-Ok.ensures.records w.in-Ok.ensures.joined)
      | in-Err w ↦ rw w.result-is tt
    ]

pub returns-in-Some-clause-unchanged : goal.returns-in-Some-clause-unchanged
returns-in-Some-clause-unchanged g c =
    elim c.match-join.branch [
      | in-Ok w ↦ rw w.result-is tt
      | in-Err w ↦ rw w.result-is (rewritten c.self.inside.names (c.get_mut.follows.lender c.join.new.self) c.args.self.now c.args.name c.in-Some.one.now c.join.new.self c.self.view_is c.in-Some.ensures.value w.in-Err.ensures.unchanged (c.get_mut.follows.holds c.join.new.self), refl)
    ]
