use Rattle.std.proofs.Common.{◌≡◌, [], ◌∷◌, replicate, refl, arith}
use Rattle.cl_model.specs.Examples.{boot, in_boot, load_of}
use Rattle.cl_model.specs.Machine.{Post}
use Rattle.cl_model.specs.Plans.{plan}
use Rattle.cl_model.specs.States.{Answer, IsClass, start}
use Rattle.cl_model.proofs.Refusals.{the}
use Rattle.cl_schedule.specs.Examples.{idle, one_load, recorded}
use Rattle.cl_schedule.proofs.examples.late_answers.Goals as goal

no_post : {a : Answer} → [] ≡ Post 0 a ∷ [] → ⊥
no_post e = absurd cc

pub returns-clause-prompt : goal.returns-clause-prompt
returns-clause-prompt c h = no_post (h (replicate 2 (idle recorded)) [] (idle recorded) refl 0 _ recorded (IsClass (in_boot "p/T")) refl (omega arith) refl refl (in_boot "p/T", (refl, refl), refl)).2

pub returns-clause-in_time : goal.returns-clause-in_time
returns-clause-in_time c h = no_post (h (replicate 9 (idle start)) [] (idle start) refl 0 _ (the (plan one_load.world 3 (load_of boot "p/T"))) refl refl (record { height = 3; planned = refl }) (omega arith)).1
