-- Facts that were told, as needs that are met.
use Rattle.std.proofs.Common.{List, [], ◌∷◌, map, Option, Some, None}
use Rattle.std.specs.Prelude.{IfSome, Contains}
use Rattle.std.specs.List.{AllByRecursion}
use Rattle.cl_model.specs.declared.class.Class.{Class}
use Rattle.cl_model.specs.States.{Need, AllMet, Refused}
use Rattle.cl_model.proofs.Derived.{all_both}
use Rattle.cl_model.proofs.Closed.{all_left, all_right}
use Rattle.cl_findings.specs.Findings.{Based}
use Rattle.cl_registry.specs.Tables.{Shown, state_of}
use Rattle.cl_tasks.specs.Facts.{AreSo, IsSo}
use Rattle.cl_tasks.specs.Stages.{basis_facts, refused_facts}
use Rattle.cl_tasks.specs.Tasks.{Stands, IsPrepared}

-- ---- needs

-- needs that stand are met
pub stand_met : (x : Shown) (ns : List Need) → AreSo x (map (λ n. Stands n) ns) → AllMet (state_of x) ns
stand_met x [] h = tt
stand_met x (n ∷ ns) h = (h.0, stand_met x ns h.1)

pub met_stand : (x : Shown) (ns : List Need) → AllMet (state_of x) ns → AreSo x (map (λ n. Stands n) ns)
met_stand x [] h = tt
met_stand x (n ∷ ns) h = (h.0, met_stand x ns h.1)

-- classes that are prepared
pub prepared_all : (x : Shown) (cs : List Class) → AreSo x (map (λ c. IsPrepared c) cs) → AllByRecursion (Contains (state_of x).prepared) cs
prepared_all x [] h = tt
prepared_all x (c ∷ cs) h = (h.0, prepared_all x cs h.1)

-- ---- what an answer rests on

refused_so : (x : Shown) (o : Option Need) → IfSome o (Refused (state_of x)) → AreSo x (refused_facts o)
refused_so x None h = tt
refused_so x (Some n) h = (h, tt)

so_refused : (x : Shown) (o : Option Need) → AreSo x (refused_facts o) → IfSome o (Refused (state_of x))
so_refused x None h = tt
so_refused x (Some n) h = h.0

-- it is told, where its needs are met and what is refused is
pub basis_so : (x : Shown) (b : Based) → AllMet (state_of x) b.needs → IfSome b.refused (Refused (state_of x)) → AreSo x (basis_facts (Some b))
basis_so x b met refused = all_both (IsSo x) (map (λ n. Stands n) b.needs) (refused_facts b.refused) (met_stand x b.needs met) (refused_so x b.refused refused)

pub so_met : (x : Shown) (b : Based) → AreSo x (basis_facts (Some b)) → AllMet (state_of x) b.needs
so_met x b h = stand_met x b.needs (all_left (IsSo x) (map (λ n. Stands n) b.needs) (refused_facts b.refused) h)

pub so_refuses : (x : Shown) (b : Based) → AreSo x (basis_facts (Some b)) → IfSome b.refused (Refused (state_of x))
so_refuses x b h = so_refused x b.refused (all_right (IsSo x) (map (λ n. Stands n) b.needs) (refused_facts b.refused) h)
