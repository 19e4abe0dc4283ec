-- Tours through all that stands above a class, and what of one is left
-- (JVMS SE 8, 5.3.5, 5.4.3.2, 5.4.3.3).
use Rattle.std.specs.Prelude.{ℕ, ◌+◌, ◌*◌, Bool, true, false, if◌then◌else◌, List, [], ◌∷◌, ◌++◌, Option, Some, None, drop, flat_map, map, slice_get, option_and_then}
use Rattle.cl_model.specs.declared.class.Class.{Class}
use Rattle.cl_model.specs.Classes.{is_among}
use Rattle.cl_model.specs.Lineages.{Forest, Bare, Tree, Kin, alone}
use Rattle.cl_hierarchy.specs.declared.tour.TourOrder.{TourOrder}
use Rattle.cl_hierarchy.specs.declared.tour.TourOrder.TheVariants as orders
use Rattle.cl_hierarchy.specs.declared.tour.TourStep.{TourStep}
use Rattle.cl_hierarchy.specs.declared.tour.TourStep.TheVariants as tasks
use Rattle.cl_hierarchy.specs.declared.tour.Step.{Step}
use Rattle.cl_hierarchy.specs.declared.tour.Tour.{Tour}
use Rattle.cl_hierarchy.specs.Rows.{Rowed}
use Rattle.cl_hierarchy.specs.Trees.{forest, interfaces_in, kin_under, superclass_in}
use Rattle.cl_hierarchy.specs.Lineages.{row_of}

-- ---- orders

-- a class is listed before what stands above it
abbrev pub lists_before : TourOrder → Bool → Bool
lists_before orders.Lineage wanted = false
lists_before orders.Superinterfaces wanted = wanted
lists_before orders.Fields wanted = wanted

-- a class is listed after what stands above it
abbrev pub lists_after : TourOrder → Bool
lists_after orders.Lineage = true
lists_after orders.Superinterfaces = false
lists_after orders.Fields = false

-- a superclass is wanted itself, too
abbrev pub wants_up : TourOrder → Bool
wants_up orders.Lineage = true
wants_up orders.Superinterfaces = false
wants_up orders.Fields = true

-- what stands above a class: the superclass's first, or last
abbrev pub up_first : TourOrder → Bool
up_first orders.Lineage = true
up_first orders.Superinterfaces = false
up_first orders.Fields = false

-- ---- what a tour comes to

-- a tour comes to a class, or finishes it
pub data Stop : Type 0 where
  Comes : (kin : Kin) → (wanted : Bool) → Stop
  Finishes : (kin : Kin) → Stop

-- one part in front of the other
abbrev pub between : {A : Type 0} → TourOrder → List A → List A → List A
between o up over = if up_first o then up ++ over else over ++ up

-- the stops of a tour through the classes of a list
abbrev pub stops : TourOrder → Forest → Bool → List Stop
stops o Bare wanted = []
stops o (Tree c f sup ints others) wanted =
    Comes (record { class = c; file = f; superclass = sup; interfaces = ints }) wanted
    ∷ between o (stops o sup (wants_up o)) (stops o ints true)
    ++ Finishes (record { class = c; file = f; superclass = sup; interfaces = ints })
    ∷ stops o others wanted

-- those above a class
abbrev pub inner : TourOrder → Kin → List Stop
inner o k = between o (stops o k.superclass (wants_up o)) (stops o k.interfaces true)

-- what is listed at a stop
abbrev pub lists : TourOrder → Stop → List Kin
lists o (Comes k wanted) = if lists_before o wanted then k ∷ [] else []
lists o (Finishes k) = if lists_after o then k ∷ [] else []

-- what is listed at these
abbrev pub listed_at : TourOrder → List Stop → List Kin
listed_at o ss = flat_map (lists o) ss

-- ---- what is left to do

-- what is left to do for a row
pub record Marked : Type 0 where
  pub row : Rowed
  pub task : TourStep

-- the same, without where the row lies in memory
abbrev pub plain_step : {A : Type 0} → Step A → Marked
plain_step s = record { row = s.row.value; task = s.task }

-- the same of each
abbrev pub marks : {A : Type 0} → List (Step A) → List Marked
marks ss = map (λ s. plain_step s) ss

-- the stops that it has
abbrev pub stops_of : TourOrder → List Kin → Rowed → TourStep → List Stop
stops_of o known r (tasks.Come wanted) = stops o (alone (kin_under known r)) wanted
stops_of o known r (tasks.Over place) = stops o (forest known (drop place (interfaces_in r))) true
stops_of o known r tasks.Finish = Finishes (kin_under known r) ∷ []

-- those of all these, the last first
abbrev pub stops_left : TourOrder → List Kin → List Marked → List Stop
stops_left o known [] = []
stops_left o known (m ∷ ms) = stops_left o known ms ++ stops_of o known m.row m.task

-- ---- one step

-- the first of these classes has this row
abbrev pub first_row : List Rowed → List Class → Option Rowed
first_row rows [] = None
first_row rows (c ∷ cs) = row_of rows c

-- to come to the superclass
abbrev pub upwards_of : TourOrder → Option Rowed → List Marked
upwards_of o None = []
upwards_of o (Some r) = record { row = r; task = tasks.Come (wants_up o) } ∷ []

-- to come to all that stands above a class, and then to finish it
abbrev pub opening_steps : TourOrder → List Rowed → Rowed → List Marked
opening_steps o rows r =
    record { row = r; task = tasks.Finish }
    ∷ (if up_first o
    then record { row = r; task = tasks.Over 0 } ∷ upwards_of o (first_row rows (superclass_in r))
    else upwards_of o (first_row rows (superclass_in r)) ++ record { row = r; task = tasks.Over 0 }
    ∷ [])

-- to come to a superinterface, and then to go on with the next
abbrev pub over_from : Rowed → ℕ → Option Rowed → List Marked
over_from r place None = []
over_from r place (Some x) =
    record { row = r; task = tasks.Over (place + 1) } ∷ record { row = x; task = tasks.Come true }
    ∷ []

-- the row of the superinterface at a place
abbrev pub interface_row : List Rowed → Rowed → ℕ → Option Rowed
interface_row rows r place = option_and_then (row_of rows) (slice_get (interfaces_in r) place)

-- a class joins others, if it is not among them
abbrev pub with_class : List Class → Class → List Class
with_class cs c = if is_among cs c then cs else cs ++ c ∷ []

-- the rows that are listed once a row's class is listed, if it was not seen
abbrev pub with_row : List Class → List Rowed → Rowed → List Rowed
with_row seen listed r = if is_among seen r.class then listed else listed ++ r ∷ []

-- ---- the end

-- how many classes there are in a list, with all above them
abbrev pub size : Forest → ℕ
size Bare = 0
size (Tree c f sup ints others) = 1 + size sup + size ints + size others

-- how many steps are left for a row, or more
abbrev pub steps_to_go : List Kin → Rowed → TourStep → ℕ
steps_to_go known r (tasks.Come wanted) =
    4 * size (forest known (superclass_in r)) + 4 * size (forest known (interfaces_in r)) + 3
steps_to_go known r (tasks.Over place) = 4 * size (forest known (drop place (interfaces_in r))) + 1
steps_to_go known r tasks.Finish = 1

-- the same of all
abbrev pub steps_left : List Kin → List Marked → ℕ
steps_left known [] = 0
steps_left known (m ∷ ms) = steps_to_go known m.row m.task + steps_left known ms

-- ---- the state of a tour

-- the rows that were listed, the classes of these, the classes that are finished, and what is left to do
pub record Toured : Type 0 where
  pub listed : List Rowed
  pub seen : List Class
  pub finished : List Class
  pub stack : List Marked

-- the same, without where it lies in memory
abbrev pub plain_tour : {A : Type 0} → Tour A → Toured
plain_tour t =
    record {
      listed = map (λ r. r.value) t.listed.items;
      seen = t.seen.keys;
      finished = t.finished.keys;
      stack = marks t.stack.items;
    }

-- a row is listed
abbrev pub after_listing : Bool → Toured → Rowed → Toured
after_listing false t r = t
after_listing true t r = record t {
  listed = with_row t.seen t.listed r;
  seen = with_class t.seen
      r.class;
}

-- what is left to do, once the tour came to a class that it finished before, or not
abbrev pub opening_unless_finished : TourOrder → List Rowed → Toured → Rowed → Toured
opening_unless_finished o rows t r =
    record t {
      stack = if is_among t.finished r.class then t.stack else t.stack
          ++ opening_steps o rows r;
    }

-- one step
abbrev pub step : TourOrder → List Rowed → Toured → Rowed → TourStep → Toured
step o rows t r (tasks.Come wanted) = opening_unless_finished o rows
    (after_listing (lists_before o wanted) t r) r
step o rows t r (tasks.Over place) =
    record t { stack = t.stack ++ over_from r place (interface_row rows r place) }
step o rows t r tasks.Finish =
    let x = after_listing (lists_after o) t r in record x { finished = with_class x.finished r.class }
