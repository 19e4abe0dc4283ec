use Rattle.std.proofs.Common.{◌∙◌, ap, sym, refl}
use Rattle.cl_constraints.specs.Named.{found_named}
use Rattle.cl_constraints.proofs.Naming.{fits_here, rewritten}
use Rattle.cl_constraints.proofs.named.Book.record.Goals as goal
use Rattle.cl_constraints.proofs.named.Book.record.Goals.{in-Ok, in-Err}

pub enter-requires-clause-fits : goal.enter-requires-clause-fits
enter-requires-clause-fits g c =
    fits_here g.N.NameBook.record_at g.N.NameBook.joins c.args.self.now c.args.name c.in-Some.one.now (sym (c.in-Some.ensures.value ∙ ap (λ b. found_named b c.args.name) c.self.view_is)) c.args.loader c.args.home c.requires.fits

pub returns-in-Some-clause-unchanged : goal.returns-in-Some-clause-unchanged
returns-in-Some-clause-unchanged g c =
    elim c.match-enter.branch [
      | in-Ok w ↦ rw w.result-is tt
      | in-Err w ↦ rw w.result-is (rewritten c.self.inside.names (c.get_mut.follows.lender c.enter.new.self) c.args.self.now c.args.name c.in-Some.one.now c.enter.new.self c.self.view_is c.in-Some.ensures.value w.in-Err.ensures.unchanged (c.get_mut.follows.holds c.enter.new.self), refl)
    ]
