-- What holds of a tour between two steps.
use Rattle.std.proofs.Common.{◌≡◌, ◌∙◌, ◌⊎◌, inl, inr, ℕ, suc, zero, ◌+◌, ◌*◌, ◌<◌, ◌≤◌, arith, Bool, true, false, if◌then◌else◌, List, [], ◌∷◌, ◌++◌, Option, Some, None, append_assoc, append-nil, drop, is_some, map, refl, sym, ap, subst}
use Rattle.std.specs.Prelude.{slice_get, option_and_then, option_to_list}
use Rattle.std.specs.List.{AllByRecursion}
use Rattle.std.proofs.lemmas.List.{map_push}
use Rattle.cl_classfile.specs.Files.{Name, file_of}
use Rattle.cl_model.specs.declared.class.Class.{Class}
use Rattle.cl_model.specs.Classes.{AsSuperclass, is_among}
use Rattle.cl_model.specs.Lineages.{Forest, Bare, Kin, alone, classes, once}
use Rattle.cl_model.proofs.Ancestors.{Within}
use Rattle.cl_model.proofs.Closed.{all_left, all_right}
use Rattle.cl_model.proofs.Derived.{all_both}
use Rattle.cl_hierarchy.specs.declared.tour.TourOrder.{TourOrder}
use Rattle.cl_hierarchy.specs.declared.tour.Step.{Step}
use Rattle.cl_hierarchy.specs.declared.tour.TourStep.{TourStep}
use Rattle.cl_hierarchy.specs.declared.tour.TourStep.TheVariants as tasks
use Rattle.cl_hierarchy.specs.Frames.{accepted_of}
use Rattle.cl_hierarchy.specs.Lineages.{IsRowIn, row_of}
use Rattle.cl_hierarchy.specs.Rows.{Rowed}
use Rattle.cl_hierarchy.specs.Trees.{AllKnown, SupersBefore, forest, in_front, interfaces_in, kin_named, kin_under, kins, superclass_in}
use Rattle.cl_hierarchy.specs.Tours.{Comes, Finishes, Marked, Stop, Toured, first_row, inner, interface_row, plain_step, marks, opening_steps, opening_unless_finished, over_from, size, step, steps_left, steps_to_go, stops, stops_left, stops_of, after_listing, lists, lists_after, lists_before, listed_at, up_first, upwards_of, wants_up, with_class, with_row}
use Rattle.cl_hierarchy.proofs.Ancestry.{no_row, row_kin}
use Rattle.cl_hierarchy.proofs.Tours.{Goes, goes_first, goes_on, goes_past, goes_list, listed_both, with_has, with_one, within_join, classes_both, with_either, with_grows}
use Rattle.cl_hierarchy.proofs.Ends.{all_push}

-- ---- what is left to do

pub left_both : (o : TourOrder) (known : List Kin) (ms ns : List Marked) → stops_left o known (ms ++ ns) ≡ stops_left o known ns ++ stops_left o known ms
left_both o known [] ns = sym (append-nil (stops_left o known ns))
left_both o known (m ∷ ms) ns =
    ap (λ (x : List Stop). x ++ stops_of o known m.row m.task) (left_both o known ms ns) ∙ append_assoc (stops_left o known ns) (stops_left o known ms) (stops_of o known m.row m.task)

pub steps_both : (known : List Kin) (ms ns : List Marked) → steps_left known (ms ++ ns) ≡ steps_left known ms + steps_left known ns
steps_both known [] ns = omega arith
steps_both known (m ∷ ms) ns = let more = steps_both known ms ns in omega arith

-- the row of a step is its class's
abbrev IsRowOf : List Rowed → Marked → Type 0
IsRowOf rows m = IsRowIn rows m.row

abbrev pub AreRowsOf : List Rowed → List Marked → Type 0
AreRowsOf rows ms = AllByRecursion (IsRowOf rows) ms

-- ---- a superclass

-- none or one
one_above : (o : Option Name) (definers : List ℕ)
    → (accepted_of (map (λ n. record { name = n; role = AsSuperclass }) (option_to_list o)) definers ≡ []) ⊎ ((c : Class) × (accepted_of (map (λ n. record { name = n; role = AsSuperclass }) (option_to_list o)) definers ≡ c ∷ []))
one_above None definers = inl refl
one_above (Some n) [] = inl refl
one_above (Some n) (p ∷ definers) = inr (record { name = n; loader = p }, refl)

module _ (rows : List Rowed) (ordered : SupersBefore [] rows) where
  abbrev pub known : List Kin
  known = kins rows

  row_is : (c : Class) (x : Rowed) → row_of rows c ≡ Some x → IsRowIn rows x
  row_is c x e = ap (λ (y : Class). row_of rows y) (row_kin [] rows c x ordered e).same ∙ e

  kin_is : (c : Class) (x : Rowed) → row_of rows c ≡ Some x → kin_named known c ≡ Some (kin_under known x)
  kin_is c x e = (row_kin [] rows c x ordered e).kin

  up_stops : (o : TourOrder) (c : Class) (x : Option Rowed) → row_of rows c ≡ x → stops_left o known (upwards_of o x) ≡ stops o (forest known (c ∷ [])) (wants_up o)
  up_stops o c None e = sym (ap (λ (y : Option Kin). stops o (in_front y Bare) (wants_up o)) (no_row [] rows c refl e))
  up_stops o c (Some x) e = sym (ap (λ (y : Option Kin). stops o (in_front y Bare) (wants_up o)) (kin_is c x e))

  up_steps : (o : TourOrder) (c : Class) (x : Option Rowed) → row_of rows c ≡ x → steps_left known (upwards_of o x) ≤ 4 * size (forest known (c ∷ []))
  up_steps o c None e = omega arith
  up_steps o c (Some x) e =
      let is : size (forest known (c ∷ [])) ≡ size (alone (kin_under known x)) = ap (λ (y : Option Kin). size (in_front y Bare)) (kin_is c x e) in
      omega arith

  up_rows : (o : TourOrder) (c : Class) (x : Option Rowed) → row_of rows c ≡ x → AreRowsOf rows (upwards_of o x)
  up_rows o c None e = tt
  up_rows o c (Some x) e = (row_is c x e, tt)

  -- to come to what is above
  pub record IsUp (o : TourOrder) (cs : List Class) : Type 0 where
    pub stops_are : stops_left o known (upwards_of o (first_row rows cs)) ≡ stops o (forest known cs) (wants_up o)
    pub steps_are : steps_left known (upwards_of o (first_row rows cs)) ≤ 4 * size (forest known cs)
    pub rows_are : AreRowsOf rows (upwards_of o (first_row rows cs))

  up_of : (o : TourOrder) (cs : List Class) → (cs ≡ []) ⊎ ((c : Class) × (cs ≡ c ∷ [])) → IsUp o cs
  up_of o cs (inl e) = subst (λ (x : List Class). IsUp o x) (sym e) (record { stops_are = refl; steps_are = omega arith; rows_are = tt })
  up_of o cs (inr e) = subst (λ (x : List Class). IsUp o x) (sym e.1) (record { stops_are = up_stops o e.0 (row_of rows e.0) refl; steps_are = up_steps o e.0 (row_of rows e.0) refl; rows_are = up_rows o e.0 (row_of rows e.0) refl })

  pub up : (o : TourOrder) (r : Rowed) → IsUp o (superclass_in r)
  up o r = up_of o (superclass_in r) (one_above (file_of r.file).super_name r.definers)

-- ---- what is opened

module _ (rows : List Rowed) (ordered : SupersBefore [] rows) (o : TourOrder) (r : Rowed) where
  abbrev kin : Kin
  kin = kin_under (kins rows) r

  abbrev ups : List Marked
  ups = upwards_of o (first_row rows (superclass_in r))

  abbrev overs : Marked
  overs = record { row = r; task = tasks.Over 0 }

  parts : (b : Bool) → stops_left o (kins rows) (if b then overs ∷ ups else ups ++ overs ∷ [])
      ≡ (if b then stops o kin.superclass (wants_up o) ++ stops o kin.interfaces true else stops o kin.interfaces true ++ stops o kin.superclass (wants_up o))
  parts true = ap (λ (x : List Stop). x ++ stops o kin.interfaces true) (up rows ordered o r).stops_are
  parts false = left_both o (kins rows) ups (overs ∷ []) ∙ ap (λ (x : List Stop). stops o kin.interfaces true ++ x) (up rows ordered o r).stops_are

  pub opened_stops : stops_left o (kins rows) (opening_steps o rows r) ≡ inner o kin ++ Finishes kin ∷ []
  opened_stops = ap (λ (x : List Stop). x ++ Finishes kin ∷ []) (parts (up_first o))

  part_steps : (b : Bool) → steps_left (kins rows) (if b then overs ∷ ups else ups ++ overs ∷ []) ≤ 4 * size kin.superclass + 4 * size kin.interfaces + 1
  part_steps true = let u = (up rows ordered o r).steps_are in omega arith
  part_steps false = let u = (up rows ordered o r).steps_are in let e = steps_both (kins rows) ups (overs ∷ []) in omega arith

  pub opened_steps : steps_left (kins rows) (opening_steps o rows r) < 4 * size kin.superclass + 4 * size kin.interfaces + 3
  opened_steps = let h = part_steps (up_first o) in omega arith

  part_rows : (b : Bool) → IsRowIn rows r → AreRowsOf rows (if b then overs ∷ ups else ups ++ overs ∷ [])
  part_rows true h = (h, (up rows ordered o r).rows_are)
  part_rows false h = all_both (IsRowOf rows) ups (overs ∷ []) (up rows ordered o r).rows_are (h, tt)

  pub opened_rows : IsRowIn rows r → AreRowsOf rows (opening_steps o rows r)
  opened_rows h = (h, part_rows (up_first o) h)

-- ---- superinterfaces

-- a class in front, if there is one
abbrev fronted : List Kin → Option Rowed → Forest → Forest
fronted known None f = Bare
fronted known (Some x) f = in_front (Some (kin_under known x)) f

abbrev IsOneOf : List Rowed → Option Rowed → Type 0
IsOneOf rows None = Unit {0}
IsOneOf rows (Some x) = IsRowIn rows x

record IsOver (rows : List Rowed) (cs : List Class) (k : ℕ) (x : Option Rowed) : Type 0 where
  front : forest (kins rows) (drop k cs) ≡ fronted (kins rows) x (forest (kins rows) (drop (suc k) cs))
  is_one : IsOneOf rows x

over_here : (rows : List Rowed) → SupersBefore [] rows → (cs : List Class) (k : ℕ) → AllKnown (kins rows) cs → (x : Option Rowed) → option_and_then (row_of rows) (slice_get cs k) ≡ x → IsOver rows cs k x
over_here rows h [] zero all None e = record { front = refl; is_one = tt }
over_here rows h [] (suc k) all None e = record { front = refl; is_one = tt }
over_here rows h [] zero all (Some x) e = absurd cc
over_here rows h [] (suc k) all (Some x) e = absurd cc
over_here rows h (c ∷ cs) zero all None e = absurd (let none : kin_named (kins rows) c ≡ None = no_row [] rows c refl e in let one : is_some (kin_named (kins rows) c) ≡ true = all.0 in cc)
over_here rows h (c ∷ cs) zero all (Some x) e = record { front = ap (λ (y : Option Kin). in_front y (forest (kins rows) cs)) (kin_is rows h c x e); is_one = row_is rows h c x e }
over_here rows h (c ∷ cs) (suc k) all x e = let more = over_here rows h cs k all.1 x e in record { front = more.front; is_one = more.is_one }

plus_one : (n : ℕ) → n + 1 ≡ suc n
plus_one n = omega arith

stops_front : (o : TourOrder) (k : Kin) (f : Forest) → stops o (in_front (Some k) f) true ≡ stops o (alone k) true ++ stops o f true
stops_front o k f = ap (λ (x : List Stop). Comes k true ∷ x) (sym (append_assoc (inner o k) (Finishes k ∷ []) (stops o f true)))

module _ (rows : List Rowed) (o : TourOrder) (r : Rowed) (place : ℕ) where
  over_stops : (x : Option Rowed) → IsOver rows (interfaces_in r) place x → stops_left o (kins rows) (over_from r place x) ≡ stops_of o (kins rows) r (tasks.Over place)
  over_stops None h = sym (ap (λ (f : Forest). stops o f true) h.front)
  over_stops (Some x) h =
      ap (λ (n : ℕ). stops o (alone (kin_under (kins rows) x)) true ++ stops o (forest (kins rows) (drop n (interfaces_in r))) true) (plus_one place)
      ∙ sym (ap (λ (f : Forest). stops o f true) h.front ∙ stops_front o (kin_under (kins rows) x) (forest (kins rows) (drop (suc place) (interfaces_in r))))

  over_steps : (x : Option Rowed) → IsOver rows (interfaces_in r) place x → steps_left (kins rows) (over_from r place x) < 4 * size (forest (kins rows) (drop place (interfaces_in r))) + 1
  over_steps None h = omega arith
  over_steps (Some x) h =
      let e : size (forest (kins rows) (drop place (interfaces_in r))) ≡ 1 + size (kin_under (kins rows) x).superclass + size (kin_under (kins rows) x).interfaces + size (forest (kins rows) (drop (suc place) (interfaces_in r))) =
      ap (λ (f : Forest). size f) h.front in
      let n : size (forest (kins rows) (drop (place + 1) (interfaces_in r))) ≡ size (forest (kins rows) (drop (suc place) (interfaces_in r))) =
      ap (λ (m : ℕ). size (forest (kins rows) (drop m (interfaces_in r)))) (plus_one place) in
      omega arith

  over_rows : (x : Option Rowed) → IsRowIn rows r → IsOver rows (interfaces_in r) place x → AreRowsOf rows (over_from r place x)
  over_rows None i h = tt
  over_rows (Some x) i h = (i, (h.is_one, tt))

-- what holds between two steps
pub record IsStage (o : TourOrder) (rows : List Rowed) (goal : List Kin) (t : Toured) : Type 0 where
  pub goes : Goes o (kins rows) goal t.listed t.seen t.finished (stops_left o (kins rows) t.stack)
  pub listed_are : AllByRecursion (IsRowIn rows) t.listed
  pub stack_is : AreRowsOf rows t.stack

-- the same of what was listed, before any other stops
record HasListed (o : TourOrder) (rows : List Rowed) (goal : List Kin) (t : Toured) (rest : List Stop) : Type 0 where
  goes : Goes o (kins rows) goal t.listed t.seen t.finished rest
  listed_are : AllByRecursion (IsRowIn rows) t.listed

row_joins : (rows : List Rowed) (seen : List Class) (listed : List Rowed) (r : Rowed) → AllByRecursion (IsRowIn rows) listed → IsRowIn rows r → AllByRecursion (IsRowIn rows) (with_row seen listed r)
row_joins rows seen listed r h i = at (is_among seen r.class)
  where
    at : (b : Bool) → AllByRecursion (IsRowIn rows) (if b then listed else listed ++ r ∷ [])
    at true = h
    at false = all_push (IsRowIn rows) listed r h i

module _ (o : TourOrder) (rows : List Rowed) (goal : List Kin) (r : Rowed) (is_row : IsRowIn rows r) where
  listing_on : (t : Toured) (s : Stop) (b : Bool) (rest : List Stop) → lists o s ≡ (if b then kin_under (kins rows) r ∷ [] else []) → HasListed o rows goal t (s ∷ (rest ++ stops_left o (kins rows) t.stack))
      → HasListed o rows goal (after_listing b t r) (rest ++ stops_left o (kins rows) (after_listing b t r).stack)
  listing_on t s true rest e h = record {
    goes = goes_list o (kins rows) goal t.listed t.seen t.finished r s (rest ++ stops_left o (kins rows) t.stack) e h.goes;
    listed_are = row_joins rows t.seen t.listed r h.listed_are is_row;
  }
  listing_on t s false rest e h = record { goes = goes_on o (kins rows) goal t.listed t.seen t.finished s (rest ++ stops_left o (kins rows) t.stack) e h.goes; listed_are = h.listed_are }

listing_stack : (t : Toured) (b : Bool) (r : Rowed) → (after_listing b t r).stack ≡ t.stack
listing_stack t true r = refl
listing_stack t false r = refl

module _ (rows : List Rowed) (ordered : SupersBefore [] rows) (o : TourOrder) (goal : List Kin) (r : Rowed) (is_row : IsRowIn rows r) where
  found : kin_named (kins rows) r.class ≡ Some (kin_under (kins rows) r)
  found = kin_is rows ordered r.class r is_row

  opening_on : (t : Toured) (b : Bool) → is_among t.finished r.class ≡ b → HasListed o rows goal t ((inner o (kin_under (kins rows) r) ++ Finishes (kin_under (kins rows) r) ∷ []) ++ stops_left o (kins rows) t.stack) → AreRowsOf rows t.stack
      → IsStage o rows goal (record t { stack = if b then t.stack else t.stack ++ opening_steps o rows r })
  opening_on t true e h a = record {
    goes = goes_past o (kins rows) goal t.listed t.seen t.finished (inner o (kin_under (kins rows) r) ++ Finishes (kin_under (kins rows) r) ∷ []) (stops_left o (kins rows) t.stack) (h.goes.done (kin_under (kins rows) r) found e) h.goes;
    listed_are = h.listed_are;
    stack_is = a;
  }
  opening_on t false e h a = record {
    goes =
        subst (λ (x : List Stop). Goes o (kins rows) goal t.listed t.seen t.finished x)
        (sym (left_both o (kins rows) t.stack (opening_steps o rows r) ∙ ap (λ (x : List Stop). x ++ stops_left o (kins rows) t.stack) (opened_stops rows ordered o r))) h.goes;
    listed_are = h.listed_are;
    stack_is = all_both (IsRowOf rows) t.stack (opening_steps o rows r) a (opened_rows rows ordered o r is_row);
  }

  came : (t : Toured) (wanted : Bool) → HasListed o rows goal t (stops o (alone (kin_under (kins rows) r)) wanted ++ stops_left o (kins rows) t.stack) → AreRowsOf rows t.stack
      → IsStage o rows goal (step o rows t r (tasks.Come wanted))
  came t wanted h a =
      let k = kin_under (kins rows) r in
      let b = lists_before o wanted in
      opening_on (after_listing b t r) (is_among (after_listing b t r).finished r.class) refl (listing_on o rows goal r is_row t (Comes k wanted) b (inner o k ++ Finishes k ∷ []) refl h)
      (subst (λ (ms : List Marked). AreRowsOf rows ms) (sym (listing_stack t b r)) a)

  went_over : (t : Toured) (place : ℕ) → HasListed o rows goal t (stops_of o (kins rows) r (tasks.Over place) ++ stops_left o (kins rows) t.stack) → AreRowsOf rows t.stack
      → IsStage o rows goal (step o rows t r (tasks.Over place))
  went_over t place h a =
      let x = interface_row rows r place in
      let v = over_here rows ordered (interfaces_in r) place (row_kin [] rows r.class r ordered is_row).interfaces x refl in
      record {
        goes =
            subst (λ (y : List Stop). Goes o (kins rows) goal t.listed t.seen t.finished y)
            (sym (left_both o (kins rows) t.stack (over_from r place x) ∙ ap (λ (y : List Stop). y ++ stops_left o (kins rows) t.stack) (over_stops rows o r place x v))) h.goes;
        listed_are = h.listed_are;
        stack_is = all_both (IsRowOf rows) t.stack (over_from r place x) a (over_rows rows o r place x is_row v);
      }

  all_listed_of : (t : Toured) (b : Bool) → lists o (Finishes (kin_under (kins rows) r)) ≡ (if b then kin_under (kins rows) r ∷ [] else []) → Within (classes (listed_at o (inner o (kin_under (kins rows) r)))) t.seen
      → Within (classes (listed_at o (inner o (kin_under (kins rows) r))) ++ classes (lists o (Finishes (kin_under (kins rows) r)) ++ [])) (after_listing b t r).seen
  all_listed_of t true e h =
      let above = classes (listed_at o (inner o (kin_under (kins rows) r))) in
      subst (λ (ks : List Kin). Within (above ++ classes (ks ++ [])) (with_class t.seen r.class)) (sym e)
      (within_join above (r.class ∷ []) (with_class t.seen r.class) (λ c i. with_grows t.seen r.class c (h c i)) (with_one [] (with_class t.seen r.class) r.class (λ c i. absurd cc) (with_has t.seen r.class)))
  all_listed_of t false e h =
      let above = classes (listed_at o (inner o (kin_under (kins rows) r))) in
      subst (λ (ks : List Kin). Within (above ++ classes (ks ++ [])) t.seen) (sym e) (within_join above [] t.seen h (λ c i. absurd cc))

  same_kin : (k : Kin) → kin_named (kins rows) k.class ≡ Some k → k.class ≡ r.class → kin_under (kins rows) r ≡ k
  same_kin k e s = let f : kin_named (kins rows) k.class ≡ Some (kin_under (kins rows) r) = subst (λ (c : Class). kin_named (kins rows) c ≡ Some (kin_under (kins rows) r)) (sym s) found in cc

  finishing : (t : Toured) → IsStage o rows goal t → Within (classes (listed_at o (inner o (kin_under (kins rows) r) ++ Finishes (kin_under (kins rows) r) ∷ []))) t.seen → IsStage o rows goal (record t { finished = with_class t.finished r.class })
  finishing t h w = record {
    goes = record {
      goes = h.goes.goes;
      ready = h.goes.ready;
      done = λ k e i. elim (with_either t.finished r.class k.class i) [
        | inl j ↦ h.goes.done k e j
        | inr s ↦ subst (λ (x : Kin). Within (classes (listed_at o (inner o x ++ Finishes x ∷ []))) t.seen) (same_kin k e s) w
      ];
    };
    listed_are = h.listed_are;
    stack_is = h.stack_is;
  }

  went : (t : Toured) → HasListed o rows goal t (Finishes (kin_under (kins rows) r) ∷ stops_left o (kins rows) t.stack) → AreRowsOf rows t.stack → IsStage o rows goal (step o rows t r tasks.Finish)
  went t h a =
      let k = kin_under (kins rows) r in
      let b = lists_after o in
      let x = after_listing b t r in
      let i = listing_on o rows goal r is_row t (Finishes k) b [] refl h in
      finishing x (record { goes = i.goes; listed_are = i.listed_are; stack_is = subst (λ (ms : List Marked). AreRowsOf rows ms) (sym (listing_stack t b r)) a })
      (subst (λ (cs : List Class). Within cs x.seen) (sym (ap (λ (ks : List Kin). classes ks) (listed_both o (inner o k) (Finishes k ∷ [])) ∙ classes_both (listed_at o (inner o k)) (lists o (Finishes k) ++ []))) (all_listed_of t b refl h.goes.ready.0))

-- one step
stepped : (rows : List Rowed) → SupersBefore [] rows → (o : TourOrder) (goal : List Kin) (t : Toured) (r : Rowed) (k : TourStep) → IsRowIn rows r → HasListed o rows goal t (stops_of o (kins rows) r k ++ stops_left o (kins rows) t.stack) → AreRowsOf rows t.stack
    → IsStage o rows goal (step o rows t r k)
stepped rows ordered o goal t r (tasks.Come wanted) i h a = came rows ordered o goal r i t wanted h a
stepped rows ordered o goal t r (tasks.Over place) i h a = went_over rows ordered o goal r i t place h a
stepped rows ordered o goal t r tasks.Finish i h a = went rows ordered o goal r i t h a

-- and it comes nearer to the end
opening_less : (rows : List Rowed) → SupersBefore [] rows → (o : TourOrder) (t : Toured) (r : Rowed) (b : Bool) (wanted : Bool)
    → steps_left (kins rows) (if b then t.stack else t.stack ++ opening_steps o rows r) < steps_left (kins rows) t.stack + steps_to_go (kins rows) r (tasks.Come wanted)
opening_less rows ordered o t r true wanted = omega arith
opening_less rows ordered o t r false wanted = let s = opened_steps rows ordered o r in let e = steps_both (kins rows) t.stack (opening_steps o rows r) in omega arith

nearer : (rows : List Rowed) → SupersBefore [] rows → (o : TourOrder) (t : Toured) (r : Rowed) (k : TourStep) → IsRowIn rows r → steps_left (kins rows) (step o rows t r k).stack < steps_left (kins rows) t.stack + steps_to_go (kins rows) r k
nearer rows ordered o t r (tasks.Come wanted) i =
    let b = lists_before o wanted in
    subst (λ (ms : List Marked). steps_left (kins rows) (opening_unless_finished o rows (after_listing b t r) r).stack < steps_left (kins rows) ms + steps_to_go (kins rows) r (tasks.Come wanted)) (listing_stack t b r)
    (opening_less rows ordered o (after_listing b t r) r (is_among (after_listing b t r).finished r.class) wanted)
nearer rows ordered o t r (tasks.Over place) i =
    let x = interface_row rows r place in
    let s = over_steps rows o r place x (over_here rows ordered (interfaces_in r) place (row_kin [] rows r.class r ordered i).interfaces x refl) in
    let e = steps_both (kins rows) t.stack (over_from r place x) in
    omega arith
nearer rows ordered o t r tasks.Finish i = at (lists_after o)
  where
    at : (b : Bool) → steps_left (kins rows) (after_listing b t r).stack < steps_left (kins rows) t.stack + 1
    at true = omega arith
    at false = omega arith

-- ---- the same of lists of steps

-- the last of what is left is taken off
module _ {A : Type 0} (rows : List Rowed) (ordered : SupersBefore [] rows) (o : TourOrder) (goal : List Kin) (listed : List Rowed) (seen finished : List Class) (stack rest : List (Step A)) (next : Step A) (popped : stack ≡ rest ++ next ∷ []) where
  pushed : marks stack ≡ marks rest ++ plain_step next ∷ []
  pushed = ap (λ (ss : List (Step A)). marks ss) popped ∙ map_push (λ (s : Step A). plain_step s) rest next

  abbrev before : Toured
  before = record { listed = listed; seen = seen; finished = finished; stack = marks rest }

  all_rows : AreRowsOf rows (marks stack) → AreRowsOf rows (marks rest ++ plain_step next ∷ [])
  all_rows all = subst (λ (ms : List Marked). AreRowsOf rows ms) pushed all

  pub preserved : (new : Toured) → IsStage o rows goal (record { listed = listed; seen = seen; finished = finished; stack = marks stack }) → new ≡ step o rows before next.row.value next.task → IsStage o rows goal new
  preserved new h e =
      let all = all_rows h.stack_is in
      subst (λ (t : Toured). IsStage o rows goal t) (sym e) (
      stepped rows ordered o goal before next.row.value next.task (all_right (IsRowOf rows) (marks rest) (plain_step next ∷ []) all).0
      (record {
        goes =
            subst (λ (ss : List Stop). Goes o (kins rows) goal listed seen finished ss)
            (ap (λ (ms : List Marked). stops_left o (kins rows) ms) pushed ∙ left_both o (kins rows) (marks rest) (plain_step next ∷ [])) h.goes;
        listed_are = h.listed_are;
      })
      (all_left (IsRowOf rows) (marks rest) (plain_step next ∷ []) all)
      )

  pub smaller : (new : Toured) → IsStage o rows goal (record { listed = listed; seen = seen; finished = finished; stack = marks stack }) → new ≡ step o rows before next.row.value next.task → steps_left (kins rows) new.stack < steps_left (kins rows) (marks stack)
  smaller new h e =
      let n = nearer rows ordered o before next.row.value next.task (all_right (IsRowOf rows) (marks rest) (plain_step next ∷ []) (all_rows h.stack_is)).0 in
      let s : steps_left (kins rows) (marks stack) ≡ steps_left (kins rows) (marks rest ++ plain_step next ∷ []) = ap (λ (ms : List Marked). steps_left (kins rows) ms) pushed in
      let b = steps_both (kins rows) (marks rest) (plain_step next ∷ []) in
      let is : steps_left (kins rows) new.stack ≡ steps_left (kins rows) (step o rows before next.row.value next.task).stack = ap (λ (t : Toured). steps_left (kins rows) t.stack) e in
      omega arith

pub first_stage : (rows : List Rowed) (o : TourOrder) (r : Rowed) (wanted : Bool) (listed : List Rowed) (seen finished : List Class) (stack : List Marked) → IsRowIn rows r → listed ≡ [] → seen ≡ [] → finished ≡ []
    → stack ≡ record { row = r; task = tasks.Come wanted } ∷ [] → IsStage o rows (once (listed_at o (stops o (alone (kin_under (kins rows) r)) wanted))) (record { listed = listed; seen = seen; finished = finished; stack = stack })
first_stage rows o r wanted listed seen finished stack i a b c d =
    subst (λ (x : List Rowed). IsStage o rows (once (listed_at o (stops o (alone (kin_under (kins rows) r)) wanted))) (record { listed = x; seen = seen; finished = finished; stack = stack })) (sym a) (
    subst (λ (x : List Class). IsStage o rows (once (listed_at o (stops o (alone (kin_under (kins rows) r)) wanted))) (record { listed = []; seen = x; finished = finished; stack = stack })) (sym b) (
    subst (λ (x : List Class). IsStage o rows (once (listed_at o (stops o (alone (kin_under (kins rows) r)) wanted))) (record { listed = []; seen = []; finished = x; stack = stack })) (sym c) (
    subst (λ (x : List Marked). IsStage o rows (once (listed_at o (stops o (alone (kin_under (kins rows) r)) wanted))) (record { listed = []; seen = []; finished = []; stack = x })) (sym d) (
    record { goes = goes_first o (kins rows) (alone (kin_under (kins rows) r)) wanted; listed_are = tt; stack_is = (i, tt) }
    ))))

pub ended : {A : Type 0} (rows : List Rowed) (o : TourOrder) (goal : List Kin) (listed : List Rowed) (seen finished : List Class) (stack : List (Step A)) → stack ≡ [] → IsStage o rows goal (record { listed = listed; seen = seen; finished = finished; stack = marks stack })
    → map (kin_under (kins rows)) listed ≡ goal
ended {A} rows o goal listed seen finished stack e h =
    sym (append-nil (map (kin_under (kins rows)) listed))
    ∙ (subst (λ (ss : List (Step A)). IsStage o rows goal (record { listed = listed; seen = seen; finished = finished; stack = marks ss })) e h).goes.goes
