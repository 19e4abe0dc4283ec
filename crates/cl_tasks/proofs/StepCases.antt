-- A step of a load, under the configuration of its path.
use Rattle.std.proofs.Common.{◌≡◌, Option, sym, subst}
use Rattle.cl_model.specs.Content.{Content}
use Rattle.cl_config.specs.Views.{Configured}
use Rattle.cl_tasks.specs.Stages.{IsJob, loading_at}
use Rattle.cl_tasks.specs.Steps.{Steps}
use Rattle.cl_tasks.specs.Turns.{Expects}
use Rattle.cl_tasks.specs.declared.stage.Job.{Job}
use Rattle.cl_tasks.specs.declared.stage.Load.{Load}
use Rattle.cl_tasks.specs.declared.stage.Next.{Next}
use Rattle.cl_tasks.specs.declared.turn.Reply.{Reply}

pub job_own : {A : Type 0} (told : Option Content) (c : Configured) (j : Job A) → IsJob told c j → IsJob told j.path.config j
job_own told c j h = subst (λ (k : Configured). IsJob told k j) (sym h.config) h

pub expects_own : {A : Type 0} (c d : Configured) (l : Load A) (r : Reply A) → d ≡ c → Expects (loading_at c l) r → Expects (loading_at d l) r
expects_own c d l r e h = subst (λ (k : Configured). Expects (loading_at k l) r) (sym e) h

pub steps_moved : {A : Type 0} (told : Option Content) (c d : Configured) (l : Load A) (r : Reply A) (n : Next A) → d ≡ c → Steps told (loading_at d l) r n → Steps told (loading_at c l) r n
steps_moved told c d l r n e h = subst (λ (k : Configured). Steps told (loading_at k l) r n) e h
