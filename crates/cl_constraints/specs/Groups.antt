-- The constraints of one name, kept as groups of joined loaders; what they mean is of JVMS SE 8,
-- 5.3.4.
use Rattle.std.specs.Prelude.{◌≡◌, ◌⊎◌, ℕ, Bool, true, false, ◌&&◌, not, List, [], ◌∷◌, ◌++◌, Option, Some, None, find, filter, if◌then◌else◌}
use Rattle.std.specs.List.{AllByRecursion, list_any}
use Rattle.std.specs.Option.{option_or}
use Rattle.cl_model.specs.Probes.{is_in}
use Rattle.cl_constraints.specs.declared.record.Entered.{Entered}
use Rattle.cl_constraints.specs.Records.{home_in}

-- loaders that are joined, and the one home that those of them have that record the name (5.3.4)
pub record Joint : Type 0 where
  pub home : Option ℕ
  pub loaders : List ℕ

-- all of one name: who recorded it, and the groups (5.3.4)
pub record Grouped : Type 0 where
  pub records : List Entered
  pub groups : List Joint

-- the first group that a loader is in
abbrev pub group_of : List Joint → ℕ → Option Joint
group_of groups loader = find (λ g. is_in g.loaders loader) groups

-- a group has both loaders (5.3.4)
abbrev pub has_both : List Joint → ℕ → ℕ → Bool
has_both groups a b = list_any (λ g. is_in g.loaders a && is_in g.loaders b) groups

-- two loaders are joined: they are one, or a group has both (5.3.4)
abbrev pub AreJoined : List Joint → ℕ → ℕ → Type 0
AreJoined groups a b = (a ≡ b) ⊎ (has_both groups a b ≡ true)

-- no loader is in two groups
abbrev pub AreApart : List Joint → Type 0
AreApart [] = Unit {0}
AreApart (g ∷ gs) =
    ((loader : ℕ) → is_in g.loaders loader ≡ true
    → list_any (λ other. is_in other.loaders loader) gs ≡ false)
    × AreApart gs

-- the class is recorded by one of these loaders, and by all of them that record the name (5.3.4)
pub record IsClassAmong (records : List Entered) (among : ℕ → Type 0) (class : Option ℕ) : Type 0 where
  pub every : (loader place : ℕ) → among loader → home_in records loader ≡ Some place
      → class ≡ Some place
  pub some : (place : ℕ) → class ≡ Some place
      → (loader : ℕ) × among loader × (home_in records loader ≡ Some place)

-- a group's home is the class that is recorded by its loaders (5.3.4)
abbrev pub HasItsHome : List Entered → Joint → Type 0
HasItsHome records g = IsClassAmong records (λ loader. is_in g.loaders loader ≡ true) g.home

-- each of these groups has
abbrev pub HaveHomes : List Entered → List Joint → Type 0
HaveHomes records groups = AllByRecursion (HasItsHome records) groups

-- what holds of the constraints of each name
pub record IsGrouped (v : Grouped) : Type 0 where
  pub apart : AreApart v.groups
  pub homes : HaveHomes v.records v.groups

-- the home of a group, else that of a loader alone (5.3.4)
abbrev pub home_or : Option ℕ → Option Joint → Option ℕ
home_or alone None = alone
home_or alone (Some g) = g.home

-- the one class that is recorded by what is joined to a loader (5.3.4)
abbrev pub joined_class : Grouped → ℕ → Option ℕ
joined_class v loader = home_or (home_in v.records loader) (group_of v.groups loader)

-- the class is recorded by what is joined to the loader (5.3.4)
abbrev pub IsClassOf : Grouped → ℕ → Option ℕ → Type 0
IsClassOf v loader class = IsClassAmong v.records (AreJoined v.groups loader) class

-- the loaders of a group, else one alone (5.3.4)
abbrev pub loaders_or : ℕ → Option Joint → List ℕ
loaders_or loader None = loader ∷ []
loaders_or loader (Some g) = g.loaders

-- the loaders that are joined to one (5.3.4)
abbrev pub members : List Joint → ℕ → List ℕ
members groups loader = loaders_or loader (group_of groups loader)

-- the groups once a loader records the name (5.3)
abbrev pub with_home : ℕ → ℕ → Joint → Joint
with_home loader place g = if is_in g.loaders loader then record g { home = Some place } else g

-- the groups that neither of two loaders is in
abbrev pub without : ℕ → ℕ → List Joint → List Joint
without a b gs = filter (λ g. not (is_in g.loaders a) && not (is_in g.loaders b)) gs

-- the group that two loaders are in once they are joined (5.3.4)
abbrev pub joint_of : Grouped → ℕ → ℕ → Joint
joint_of v a b =
    record {
      home = option_or (joined_class v a) (joined_class v b);
      loaders = members v.groups a ++ members v.groups b;
    }

-- the groups once two loaders are joined (5.3.4)
abbrev pub merged_groups : Grouped → ℕ → ℕ → List Joint
merged_groups v a b = without a b v.groups ++ joint_of v a b ∷ []
