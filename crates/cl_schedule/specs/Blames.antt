-- Whom an answer that is a fault of the source blames (JVMS SE 8, 5.3 to 5.4.3).
use Rattle.std.specs.Prelude.{◌≡◌, ℕ, Option, Some, None, slice_get, Contains}
use Rattle.cl_model.specs.declared.answer.Answer.{Answer}
use Rattle.cl_model.specs.declared.request.Request.{Request}
use Rattle.cl_model.specs.Content.{Content}
use Rattle.cl_model.specs.Machine.{IsPlan}
use Rattle.cl_model.specs.Plans.{Plan}
use Rattle.cl_model.specs.Views.{request_of}
use Rattle.cl_model.specs.Works.{Ask}
use Rattle.cl_config.specs.Views.{Configured}
use Rattle.cl_delegation.specs.Worlds.{world_of}
use Rattle.cl_registry.specs.Tables.{Shown}
use Rattle.cl_tasks.specs.Blames.{AnswerBlames}

-- where a content is told, a request's plan asks a loader for a name: that of its own class, of a direct supertype of one that it comes to,
-- or of the class that its reference names (5.3.5, 5.4.3)
abbrev pub IsAskedFor : Option Content → Configured → Request → Ask → Type 0
IsAskedFor None c r a = Unit {0}
IsAskedFor (Some content) c r a = (p : Plan) × IsPlan (world_of c content) (request_of r) p
    × Contains p.asked a

-- each answer that is a fault of the source blames whom the search for such a name asks (5.3.2)
abbrev pub EachBlames : Option Content → Shown → Type 0
EachBlames told x =
    (q : ℕ) (r : Request) (a : Answer) → slice_get x.script.requests q ≡ Some r
    → slice_get x.answers q ≡ Some (Some a) → AnswerBlames x.config (IsAskedFor told x.config r) a
