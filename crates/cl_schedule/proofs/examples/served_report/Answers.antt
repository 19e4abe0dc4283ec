use Rattle.std.proofs.Common.{rules, ◌≡◌, ℕ, zero, suc, [], ◌∷◌, Some, is_some, refl, arith}
use Rattle.std.specs.Prelude.{nat_eq, slice_get}
use Rattle.std.specs.List.{list_any}
use Rattle.std.proofs.lemmas.Bool.Decides.{nat_tests}
use Rattle.cl_model.specs.Examples.{boot, load_of}
use Rattle.cl_model.specs.Machine.{Setting, MaySay, Run}
use Rattle.cl_model.specs.Plans.{Plan, plan}
use Rattle.cl_model.specs.States.{State, start}
use Rattle.cl_model.specs.Views.{answer_at, answers_of}
use Rattle.cl_model.proofs.Refusals.{the, missing}
use Rattle.cl_model.proofs.Tables.{runs_are_trusted}
use Rattle.cl_registry.specs.Tables.{Shown, IsTrusted, machine, steps}
use Rattle.cl_schedule.specs.Examples.{both_posted, lone, not_found, two_loads}
use Rattle.cl_schedule.proofs.Headline.{alike, circles_exact, consistent, references_alike}
use Rattle.cl_schedule.proofs.examples.served_report.Goals as goal

abbrev x : Shown
x = record { config = lone; script = two_loads; rows = []; history = both_posted; answers = Some not_found ∷ Some not_found ∷ [] }

abbrev g : Setting
g = machine x []

abbrev plan_of_t : Plan
plan_of_t = the (plan g.world 3 (load_of boot "p/T"))

may_say : (s : State) → MaySay g s (load_of boot "p/T") plan_of_t.ends
may_say s = record { answers = record { plan = plan_of_t; planned = record { height = 3; planned = refl }; answered = refl }; rests = tt }

run : Run g start (steps x)
run = (record { scheduled = _; asked = refl; in_round = refl; unposted = refl; fits = may_say _ }, (record { scheduled = _; asked = refl; in_round = refl; unposted = refl; fits = may_say _ }, tt))

first_round : (q n : ℕ) → slice_get (0 ∷ 0 ∷ []) q ≡ Some n → n ≡ 0
first_round zero n e = cc
first_round (suc zero) n e = cc
first_round (suc (suc q)) n e = absurd (missing e)

posted : (q : ℕ) → list_any (nat_eq q) (1 ∷ 0 ∷ []) ≡ is_some (answer_at (answers_of x.answers) q)
posted zero = refl
posted (suc zero) = refl
posted (suc (suc q)) = grind (arith, nat_tests)

trusted : IsTrusted x
trusted = record {
  script = record { few = omega arith; each = refl; within = search rules; in_order = λ p q m n l a b. let first : m ≡ 0 = first_round p m a in omega arith; rounds = omega arith };
  tables = runs_are_trusted g (steps x) run;
  posted = posted;
  whole = refl;
  earlier = λ q n e l. absurd (omega arith);
}

pub returns : goal.returns
returns c at = record {
  of_script = refl;
  each_once = search rules;
  named = record { history = search rules; answers = search rules };
  last = omega arith;
  trusted = trusted;
  consistent = consistent x trusted;
  run = run;
  spelt = λ d is. absurd (missing is);
  alike = alike (Some []) x trusted run;
  references = references_alike (Some []) x trusted run;
  circles = circles_exact (Some []) x trusted run;
}
