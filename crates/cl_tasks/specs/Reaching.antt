-- What a request asks of its class once that is recorded (JVMS SE 8, 5.3, 5.4, 5.4.3).
use Rattle.std.specs.Prelude.{◌≡◌, ◌⊎◌, ℕ}
use Rattle.std.specs.declared.alloc.Global.{Global}
use Rattle.std.specs.declared.sync.Arc.{Arc}
use Rattle.cl_model.specs.declared.answer.Answer.TheVariants as answers
use Rattle.cl_model.specs.declared.class.Class.{Class}
use Rattle.cl_model.specs.declared.request.Request.{Request}
use Rattle.cl_model.specs.declared.request.Request.TheVariants as requests
use Rattle.cl_model.specs.declared.verdict.Verdict.TheVariants as verdicts
use Rattle.cl_hierarchy.specs.declared.row.ClassRow.{ClassRow}
use Rattle.cl_findings.specs.Findings.{ungrounded_answer}
use Rattle.cl_tasks.specs.Steps.{memory_ends}
use Rattle.cl_tasks.specs.declared.stage.Link.TheVariants as links
use Rattle.cl_tasks.specs.declared.stage.Next.{Next}
use Rattle.cl_tasks.specs.declared.stage.Resolution.TheVariants as resolutions
use Rattle.cl_tasks.specs.declared.stage.Stage.TheVariants as stages
use Rattle.cl_tasks.specs.declared.turn.Turn.TheVariants as turn

-- the answer of a load, the look at a reference, the look whether a class is prepared (5.3, 5.4, 5.4.3)
abbrev pub after_reaching : {A : Type 0} → ℕ → Request → Arc (ClassRow A) Global → Class → Next A
after_reaching q (requests.Load loader name) row c =
    record {
      stage = stages.Done q;
      turn = turn.Post (ungrounded_answer (requests.Load loader name)
          (answers.Said (verdicts.Class c)));
    }
after_reaching q (requests.Resolve loader name i) row c =
    record {
      stage = stages.Resolve (resolutions.LookingReference
          (record { q = q; request = requests.Resolve loader name i; index = i; d = row }));
      turn = turn.LookReference c i;
    }
after_reaching q (requests.Link loader name) row c =
    record {
      stage = stages.Link
          (links.LookingPrepared (record { q = q; request = requests.Link loader name; class = row }));
      turn = turn.LookPrepared c;
    }

-- a request goes on so, or memory runs out (5.3, 5.4, 5.4.3)
abbrev pub ReachesBy : {A : Type 0} → ℕ → Request → Arc (ClassRow A) Global → Next A → Type 0
ReachesBy q r row n = (n ≡ memory_ends q r) ⊎ (n ≡ after_reaching q r row row.value.class)
