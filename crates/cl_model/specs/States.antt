-- What has been recorded, imposed, settled and prepared, and what that meets or refuses (JVMS SE 8, 5.3 to 5.4.3).
use Rattle.std.specs.Prelude.{◌≡◌, ◌≢◌, ◌⊎◌, ℕ, ◌&&◌, ◌==◌, List, [], ◌∷◌, ◌++◌, Option, Some, None, find, option_map, Contains}
use Rattle.std.specs.List.{AllByRecursion}
use Rattle.cl_classfile.specs.Files.{Name, Key, same_name}
use Rattle.cl_model.specs.declared.class.Class.{Class}
use Rattle.cl_model.specs.Classes.{same_class, Error}

-- what a request needs to stand: a record with its home (5.3), or an equality (5.3.4)
pub data Need : Type 0 where
  Entry : (loader : ℕ) → (name : Name) → (place : ℕ) → Need
  Equal : (name : Name) → (one : ℕ) → (other : ℕ) → Need

-- how a request ends (5.3.5, 5.4.3)
pub data Verdict : Type 0 where
  IsClass : (class : Class) → Verdict
  IsArrayOf : (dimensions : ℕ) → (class : Class) → Verdict
  IsArrayOfBase : (dimensions : ℕ) → (letter : ℕ) → Verdict
  IsField : (declaring : Class) → (key : Key) → Verdict
  IsMethod : (declaring : Class) → (key : Key) → Verdict
  IsLinked : (class : Class) → Verdict
  BadEntry : Verdict
  ArrayMember : Verdict
  Wrong : (error : Error) → Verdict
  Linkage : (refused : Need) → Verdict

-- what is posted: a verdict, or that memory or the source failed
pub data Answer : Type 0 where
  Said : (verdict : Verdict) → Answer
  OutOfMemory : Answer
  SourceFault : (name : Name) → (loader : ℕ) → Answer

-- a loader's record of a name: who defined the class (5.3)
pub record Record : Type 0 where
  pub loader : ℕ
  pub name : Name
  pub place : ℕ

-- an imposed loading constraint (5.3.4)
pub record Equality : Type 0 where
  pub name : Name
  pub one : ℕ
  pub other : ℕ

-- a reference's verdict (5.4.3)
pub record Settled : Type 0 where
  pub class : Class
  pub index : ℕ
  pub verdict : Verdict

-- the answer of a request, by its number
pub record Posted : Type 0 where
  pub request : ℕ
  pub answer : Answer

-- all that serving a script adds to (5.3.4, 5.4)
pub record State : Type 0 where
  pub records : List Record
  pub equalities : List Equality
  pub settled : List Settled
  pub prepared : List Class
  pub answers : List Posted
  pub round : ℕ

-- nothing yet, in the first round
abbrev pub start : State
start = record {
  records = [];
  equalities = [];
  settled = [];
  prepared = [];
  answers = [];
  round = 0;
}

-- of an answer with a verdict P holds of that; memory and the source are answers of their request alone
abbrev pub IfSaid : (Verdict → Type 0) → Answer → Type 0
IfSaid P (Said v) = P v
IfSaid P OutOfMemory = Unit {0}
IfSaid P (SourceFault name loader) = Unit {0}

-- a verdict that settles a reference: that of an entry that is no reference, and of a member of an array, does not (5.4.3; own choice for arrays)
pub record IsSettling (v : Verdict) : Type 0 where
  pub is_entry : v ≢ BadEntry
  pub is_class_member : v ≢ ArrayMember

-- a verdict is that a need is refused (5.3.4)
abbrev pub IsLinkageError : Verdict → Type 0
IsLinkageError v = (n : Need) × (v ≡ Linkage n)

-- who defined the class that a loader records for a name (5.3)
abbrev pub recorded_definer : List Record → ℕ → Name → Option ℕ
recorded_definer rs loader name = option_map (λ r. r.place)
    (find (λ r. (r.loader == loader) && same_name r.name name) rs)

-- what a reference is settled to: later attempts give the same (5.4.3)
abbrev pub settled_to : List Settled → Class → ℕ → Option Verdict
settled_to rs c i = option_map (λ r. r.verdict)
    (find (λ r. same_class r.class c && (r.index == i)) rs)

-- what a request is answered, if it is
abbrev pub answer_to : List Posted → ℕ → Option Answer
answer_to ps q = option_map (λ p. p.answer) (find (λ p. p.request == q) ps)

-- two loaders are the ends of an equality for a name, in either order (5.3.4)
pub record Linked (ks : List Equality) (name : Name) (a b : ℕ) : Type 0 where
  pub equality : Equality
  pub imposed : Contains ks equality
  pub named : equality.name ≡ name
  pub ends : ((equality.one ≡ a) × (equality.other ≡ b))
      ⊎ ((equality.one ≡ b) × (equality.other ≡ a))

-- a path of equalities from one loader over these to another (5.3.4)
abbrev pub IsPathBetween : List Equality → Name → ℕ → List ℕ → ℕ → Type 0
IsPathBetween ks name a [] b = a ≡ b
IsPathBetween ks name a (c ∷ cs) b = Linked ks name a c × IsPathBetween ks name c cs b

-- equalities join two loaders for a name; each is joined with itself (5.3.4; own choice for a loader with itself)
pub record Joined (ks : List Equality) (name : Name) (a b : ℕ) : Type 0 where
  pub path : List ℕ
  pub along : IsPathBetween ks name a path b

-- a need stands in a state (5.3, 5.3.4)
abbrev pub Met : State → Need → Type 0
Met s (Entry loader name place) = recorded_definer s.records loader name ≡ Some place
Met s (Equal name a b) = Joined s.equalities name a b

-- the need that a loader records a class (5.3)
abbrev pub entry_for : ℕ → Class → Need
entry_for loader c = Entry loader c.name c.loader

-- a loader records a class (5.3)
abbrev pub Keeps : State → ℕ → Class → Type 0
Keeps s loader c = Met s (entry_for loader c)

-- a class is recorded by its own loader (5.3)
abbrev pub IsRecorded : State → Class → Type 0
IsRecorded s c = Keeps s c.loader c

-- a need is added (5.3, 5.3.4)
abbrev pub with_need : State → Need → State
with_need s (Entry loader name place) = record s
    { records = s.records ++ record { loader = loader; name = name; place = place } ∷ [] }
with_need s (Equal name a b) = record s {
  equalities = s.equalities
      ++ record { name = name; one = a; other = b } ∷ [];
}

-- no record stands where the need would put one (5.3)
abbrev pub IsFresh : State → Need → Type 0
IsFresh s (Entry loader name place) = recorded_definer s.records loader name ≡ None
IsFresh s (Equal name a b) = Unit {0}

-- of one name, by who defined it for each loader and which loaders are joined: a loader joined to this one records another class (5.3.4)
pub record Differs (home : ℕ → Option ℕ) (joins : ℕ → ℕ → Type 0) (loader place : ℕ) : Type 0 where
  pub other : ℕ
  pub other_place : ℕ
  pub joined : joins loader other
  pub recorded_there : home other ≡ Some other_place
  pub differ : place ≢ other_place

-- of one name: loaders joined to one and to the other record different classes (5.3.4)
pub record Divides (home : ℕ → Option ℕ) (joins : ℕ → ℕ → Type 0) (a b : ℕ) : Type 0 where
  pub one : ℕ
  pub place : ℕ
  pub joined : joins a one
  pub recorded_there : home one ≡ Some place
  pub differs : Differs home joins b place

-- adding a need would violate an equality (5.3.4)
abbrev pub Clashes : State → Need → Type 0
Clashes s (Entry loader name place) = Differs (λ l. recorded_definer s.records l name)
    (Joined s.equalities name) loader place
Clashes s (Equal name a b) = Divides (λ l. recorded_definer s.records l name)
    (Joined s.equalities name) a b

-- a record that stands clashes: two joined loaders record different classes for a name (5.3.4)
pub record Violated (s : State) : Type 0 where
  pub name : Name
  pub one : ℕ
  pub place : ℕ
  pub first : recorded_definer s.records one name ≡ Some place
  pub differs : Clashes s (Entry one name place)

-- a need does not stand, and adding it would violate an equality (5.3.4)
pub record Refused (s : State) (need : Need) : Type 0 where
  pub unmet : Met s need → ⊥
  pub clashes : Clashes s need

-- a need may be added (5.3.4)
pub record MayAdd (s : State) (need : Need) : Type 0 where
  pub unmet : Met s need → ⊥
  pub fits : Clashes s need → ⊥

-- each of these needs is met (5.3.4)
abbrev pub AllMet : State → List Need → Type 0
AllMet s needs = AllByRecursion (Met s) needs

-- an item stands in a list, and of each item before it this holds
abbrev pub StandsAfter : {A : Type 0} → (A → Type 0) → List A → A → Type 0
StandsAfter P [] item = ⊥
StandsAfter P (x ∷ xs) item = (x ≡ item) ⊎ (P x × StandsAfter P xs item)

-- a need stands in a list, and all before it are met (5.3.5, 5.4.3: needs are made in order)
abbrev pub IsNext : State → List Need → Need → Type 0
IsNext s needs need = StandsAfter (Met s) needs need
