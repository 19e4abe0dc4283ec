-- How many calls a request has left at most, its post among them, by its plan and what is recorded (JVMS SE 8, 5.3 to 5.4.3).
use Rattle.std.specs.Prelude.{◌+◌, ◌*◌, ◌-◌, ◌||◌, ◌&&◌, ◌==◌, ℕ, Bool, true, false, not, if◌then◌else◌, List, [], ◌∷◌, length, Some, None, count_by, sum_by}
use Rattle.std.specs.List.{list_any}
use Rattle.cl_classfile.specs.Files.{Name}
use Rattle.cl_model.specs.declared.class.Class.{Class}
use Rattle.cl_model.specs.declared.request.Request.{Request}
use Rattle.cl_model.specs.declared.request.Request.TheVariants as requests
use Rattle.cl_model.specs.Classes.{is_own, supers}
use Rattle.cl_model.specs.Frames.{Frame}
use Rattle.cl_model.specs.Homes.{World, home}
use Rattle.cl_model.specs.Lineages.{Kin}
use Rattle.cl_model.specs.Plans.{Plan, edges_of, homes_of, is_equal, nodes_of, plan_needs, same_ask}
use Rattle.cl_model.specs.Preparation.{constraints_of}
use Rattle.cl_model.specs.States.{State, recorded_definer}
use Rattle.cl_model.specs.Works.{Ask}

-- ---- what a plan asks

-- a loader is the home of a name (5.3.2)
abbrev pub is_own_home : World → Ask → Bool
is_own_home w a = is_own a.loader (home w a.loader a.name)

-- a loader is asked for a name
abbrev pub ask_of : Name → ℕ → Ask
ask_of name loader = record { loader = loader; name = name }

-- a class is asked of its own loader
abbrev pub ask_for : Class → Ask
ask_for c = ask_of c.name c.loader

-- so many of a plan's nodes are homes
abbrev pub own_homes : World → Plan → ℕ
own_homes w p = count_by (is_own_home w) (nodes_of w p)

-- so many needs of a plan are equalities (5.3.4)
abbrev pub equalities_in : Plan → ℕ
equalities_in p = count_by is_equal (plan_needs p)

-- ---- what is still to be recorded

-- the calls that record a name: by its home one; by another loader two, a look at the home and the record of the loader that was asked (5.3, 5.3.5)
abbrev pub record_calls : World → Ask → ℕ
record_calls w a = if is_own_home w a then 1 else 2

-- a loader has no record of a name (5.3)
abbrev pub is_unrecorded : State → Ask → Bool
is_unrecorded s a = elim (recorded_definer s.records a.loader a.name) [
  | None ↦ true
  | Some place ↦ false
]

-- what is still to be recorded, other than what is in hand; these were told to be unrecorded, and count so whatever was recorded since (5.3)
abbrev pub is_to_record : State → List Ask → List Ask → Ask → Bool
is_to_record s absent hand a = (list_any (same_ask a) absent || is_unrecorded s a)
    && not (list_any (same_ask a) hand)

-- a number, if this is so
abbrev pub if_so : Bool → ℕ → ℕ
if_so b n = if b then n else 0

-- the calls of what is still to be recorded: its records, and a look for each supertype of its classes (5.3, 5.3.5)
abbrev pub open_calls : World → Plan → State → List Ask → List Ask → ℕ
open_calls w p s absent hand =
    sum_by (λ a. if_so (is_to_record s absent hand a) (record_calls w a)) (nodes_of w p)
    + sum_by (λ a. if_so (is_to_record s absent hand a) (edges_of w a)) (homes_of w p)

-- ---- what is in hand

-- the loader that asks for a class is to be recorded too, if it is another (5.3)
abbrev pub away_calls : ℕ → ℕ → ℕ
away_calls loader place = if loader == place then 0 else 1

-- what the classes that are being derived stand for: each is asked of the loader of the one before it, and recorded by its own (5.3, 5.3.5)
abbrev pub in_hand : ℕ → List Frame → List Ask
in_hand loader [] = []
in_hand loader (x ∷ xs) = ask_of x.class.name loader ∷ ask_for x.class ∷ in_hand x.class.loader xs

-- their records, and a look for each supertype behind the one that is loaded now (5.3, 5.3.5)
abbrev pub hand_calls : ℕ → List Frame → ℕ
hand_calls loader [] = 0
hand_calls loader (x ∷ xs) =
    (1 + away_calls loader x.class.loader) + (length (supers x.file) - (length x.accepted + 1)) +
    hand_calls x.class.loader xs

-- ---- calls

-- calls that are left: those of what is still to be recorded, if a class may still be loaded; so many for each home and for each equality of the plan, and
-- so many more
pub record Calls : Type 0 where
  pub opens : Bool
  pub absent : List Ask
  pub hand : List Ask
  pub homes : ℕ
  pub equalities : ℕ
  pub more : ℕ

-- how many that is by a plan, in a state
abbrev pub calls_in : Calls → World → Plan → State → ℕ
calls_in n w p s =
    if_so n.opens (open_calls w p s n.absent n.hand)
    + (n.homes * own_homes w p + n.equalities * equalities_in p + n.more)

-- the same where no class is loaded any more
abbrev pub past_loads : ℕ → ℕ → ℕ → Calls
past_loads homes equalities more = record {
  opens = false;
  absent = [];
  hand = [];
  homes = homes;
  equalities = equalities;
  more = more;
}

-- past the load of a reference's class: two lineages, the equalities, that the reference is settled, and the post (5.4.3)
abbrev pub reference_calls : Calls
reference_calls = past_loads 0 1 4

-- past the load of a request's own class: the post; before it, of a resolution, a look at the reference and one for its class; of a link, a look whether the
-- class is prepared, its lineage, the equalities, for each class of the lineage its lineage and its preparation, or one look alone, and one more look, at the
-- first class that is not prepared (5.3, 5.4, 5.4.3)
abbrev pub own_calls : Request → Calls
own_calls (requests.Load loader name) = past_loads 0 0 1
own_calls (requests.Resolve loader name i) = past_loads 0 1 6
own_calls (requests.Link loader name) = past_loads 2 1 4

-- so many more before that, while classes are loaded; these were told to be unrecorded, and those are in hand
abbrev pub while_loading : List Ask → List Ask → ℕ → Calls → Calls
while_loading absent hand more n = record n {
  opens = true;
  absent = absent;
  hand = hand;
  more = more + n.more;
}

-- from the beginning: a look for the class, and all that is to be recorded
abbrev pub all_calls : Request → Calls
all_calls r = while_loading [] [] 1 (own_calls r)

-- of these classes of a lineage, each with its lineage, its equalities and its preparation (5.4.2)
abbrev pub link_calls : List Kin → ℕ
link_calls [] = 0
link_calls (k ∷ ks) = (length (constraints_of k) + 2) + link_calls ks
