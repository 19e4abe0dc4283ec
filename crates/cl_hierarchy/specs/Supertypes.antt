-- Direct supertypes without where their names lie in memory (JVMS SE 8, 4.1; 5.3.5, steps 3 and 4).
use Rattle.cl_model.specs.Classes.{Above, AsSuperclass, AsSuperinterface}
use Rattle.cl_model.specs.Classes as classes
use Rattle.cl_hierarchy.specs.declared.supertype.Role.{Role}
use Rattle.cl_hierarchy.specs.declared.supertype.Role.TheVariants as roles
use Rattle.cl_hierarchy.specs.declared.supertype.Supertype.{Supertype}

-- what a supertype is wanted for, as the rules have it (5.3.5, steps 3 and 4)
abbrev pub role_of : Role → classes.Role
role_of roles.Superclass = AsSuperclass
role_of roles.Superinterface = AsSuperinterface

-- a direct supertype's name and role (5.3.5, steps 3 and 4)
abbrev pub plain_supertype : Supertype → Above
plain_supertype s = record { name = s.name.now; role = role_of s.role }
