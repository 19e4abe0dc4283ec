-- What is looked up rests on nothing, and what rests on a basis is none that is looked up.
use Rattle.std.proofs.Common.{◌≡◌, Global, ℕ, List, Option, Some, None, refl, subst}
use Rattle.cl_model.specs.declared.class.Class.{Class}
use Rattle.cl_model.specs.declared.need.Need.{Need}
use Rattle.cl_model.specs.declared.verdict.ErrorKind.{ErrorKind}
use Rattle.cl_model.specs.declared.verdict.Verdict.{Verdict}
use Rattle.cl_model.specs.declared.verdict.Verdict.TheVariants as verdicts
use Rattle.cl_model.specs.declared.answer.Answer.TheVariants as answers
use Rattle.cl_model.specs.declared.request.Request.{Request}
use Rattle.cl_model.specs.declared.request.Request.TheVariants as requests
use Rattle.cl_model.specs.Content.{Content}
use Rattle.cl_delegation.specs.Worlds.{world_of}
use Rattle.std.specs.declared.sync.Arc.{Arc}
use Rattle.cl_model.specs.declared.settled.Settled.{Settled}
use Rattle.cl_findings.specs.Findings.{Based, grounded_answer, IsLoad, IsLink, IsLookedUp, Resolves, Rests, VerdictRests, loader_of, ungrounded_answer}

pub class_rests : (told : Option Content) (r : Request) (c : Class) → IsLoad r → Rests told (ungrounded_answer r (answers.Said (verdicts.Class c)))
class_rests None r c is = tt
class_rests (Some content) (requests.Load loader name) c is = tt
class_rests (Some content) (requests.Resolve loader name i) c is = is
class_rests (Some content) (requests.Link loader name) c is = is

pub linked_rests : (told : Option Content) (r : Request) (c : Class) → IsLink r → Rests told (ungrounded_answer r (answers.Said (verdicts.Linked c)))
linked_rests None r c is = tt
linked_rests (Some content) (requests.Load loader name) c is = is
linked_rests (Some content) (requests.Resolve loader name i) c is = is
linked_rests (Some content) (requests.Link loader name) c is = tt

pub settled_rests : (told : Option Content) (r : Request) (s : Arc Settled Global) → Rests told (ungrounded_answer r (answers.Shared s))
settled_rests None r s = tt
settled_rests (Some content) r s = refl

pub memory_rests : (told : Option Content) (r : Request) → Rests told (ungrounded_answer r answers.Memory)
memory_rests None r = tt
memory_rests (Some content) r = refl

pub fault_rests : (told : Option Content) (r : Request) (name : List ℕ) (loader : ℕ) → Rests told (ungrounded_answer r (answers.SourceFault name loader))
fault_rests None r name loader = tt
fault_rests (Some content) r name loader = refl

pub error_apart : (r : Request) (kind : ErrorKind) (c : Class) → IsLookedUp r (verdicts.Error kind c) → ⊥
error_apart (requests.Load loader name) kind c h = h
error_apart (requests.Resolve loader name i) kind c h = h
error_apart (requests.Link loader name) kind c h = h

pub linkage_apart : (r : Request) (n : Need) → IsLookedUp r (verdicts.Linkage n) → ⊥
linkage_apart (requests.Load loader name) n h = h
linkage_apart (requests.Resolve loader name i) n h = h
linkage_apart (requests.Link loader name) n h = h

resolve_apart : (loader : ℕ) (name : List ℕ) (i : ℕ) (v : Verdict) → IsLookedUp (requests.Resolve loader name i) v → ⊥
resolve_apart loader name i v h = h

pub reference_apart : (r : Request) (d : Class) (i : ℕ) (v : Verdict) → Resolves r d.name i → IsLookedUp r v → ⊥
reference_apart r d i v is h = resolve_apart (loader_of r) d.name i v (subst (λ (q : Request). IsLookedUp q v) is h)

pub grounded_rests : (told : Option Content) (r : Request) (v : Verdict) (b : Based) → ((content : Content) → told ≡ Some content → VerdictRests (world_of b.config content) r v b) → Rests told (grounded_answer r v b)
grounded_rests None r v b h = tt
grounded_rests (Some content) r v b h = h content refl
