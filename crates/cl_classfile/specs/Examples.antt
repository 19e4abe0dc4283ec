-- Words of the worked examples.
use Rattle.std.specs.Prelude.{ℕ, true, false, [], ◌∷◌}
use Rattle.cl_classfile.specs.declared.entry.Entry.TheVariants.{Unusable}
use Rattle.cl_classfile.specs.declared.version.Owner.{Owner}
use Rattle.cl_classfile.specs.declared.version.Version.{Version}
use Rattle.cl_classfile.specs.Structure.{Structure}

-- a class whose version has this major number
abbrev pub of_class : ℕ → Owner
of_class number = record { of_interface = false; major = number }

-- an interface, likewise
abbrev pub of_interface : ℕ → Owner
of_interface number = record { of_interface = true; major = number }

-- parts of this version, whose pool no bytes spell
abbrev pub with_bad_pool : Version → Structure
with_bad_pool v = record {
  version = v;
  pool = Unusable ∷ [];
  flags = 0;
  this_class = 0;
  super_class = 0;
  interfaces = [];
  fields = [];
  methods = [];
  attributes = [];
}
