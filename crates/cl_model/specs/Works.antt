-- What a load, a resolution or a link needs in turn, and how it ends: needs are a list, and the first error ends it (JVMS SE 8, 5.3.5, 5.4.3).
use Rattle.std.specs.Prelude.{ℕ, List, [], ◌∷◌, ◌++◌, Option, Some, None, Result, Ok, Err, option_map}
use Rattle.cl_classfile.specs.Files.{Name}
use Rattle.cl_model.specs.Classes.{Error}
use Rattle.cl_model.specs.States.{Need}

-- a loader and a name that was asked of it (5.3)
pub record Ask : Type 0 where
  pub loader : ℕ
  pub name : Name

-- the needs in order, what was asked, and the end (5.3.5, 5.4.3)
pub record Made (A : Type 0) : Type 0 where
  pub needs : List Need
  pub asked : List Ask
  pub ends : Result A Error

-- None is work that a height did not reach the end of (recursion is by heights)
abbrev pub Work : Type 0 → Type 0
Work A = Option (Made A)

-- an end, without a need
abbrev pub end_with : {A : Type 0} → A → Work A
end_with a = Some (record { needs = []; asked = []; ends = Ok a })

-- an error, without a need (5.3.5, 5.4.3)
abbrev pub fail : {A : Type 0} → Error → Work A
fail e = Some (record { needs = []; asked = []; ends = Err e })

-- these needs (5.3, 5.3.4)
abbrev pub need : List Need → Work (Unit {0})
need ns = Some (record { needs = ns; asked = []; ends = Ok tt })

-- a loader is asked for a name (5.3.1, 5.3.2)
abbrev pub ask : ℕ → Name → Work (Unit {0})
ask loader name = Some (record {
  needs = [];
  asked = record { loader = loader; name = name }
      ∷ [];
  ends = Ok tt;
})

-- the end, or this error
abbrev pub or_fail : {A : Type 0} → Error → Option A → Work A
or_fail e None = fail e
or_fail e (Some a) = end_with a

-- the error, if there is one
abbrev pub unless_wrong : Option Error → Work (Unit {0})
unless_wrong None = end_with tt
unless_wrong (Some e) = fail e

-- a value, or its error
abbrev pub of_result : {A : Type 0} → Result A Error → Work A
of_result r = Some (record { needs = []; asked = []; ends = r })

-- after what was made
abbrev pub after_made : {B : Type 0} → List Need → List Ask → Made B → Made B
after_made ns asked m = record { needs = ns ++ m.needs; asked = asked ++ m.asked; ends = m.ends }

-- goes on where there was no error: the first one ends a load or a resolution (5.3.5, 5.4.3)
abbrev pub go_on : {A B : Type 0} → List Need → List Ask → Result A Error → (A → Work B) → Work B
go_on ns asked (Err e) f = Some (record { needs = ns; asked = asked; ends = Err e })
go_on ns asked (Ok a) f = option_map (after_made ns asked) (f a)

-- work, and then the work that its end leads to
infixl 10 ◌>>=◌
abbrev pub ◌>>=◌ : {A B : Type 0} → Work A → (A → Work B) → Work B
None >>= f = None
(Some m) >>= f = go_on m.needs m.asked m.ends f
