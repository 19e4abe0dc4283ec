-- A class file, and its parts, without where they lie in memory.
use Rattle.cl_classfile.specs.declared.file.ClassFile.TheInside.{Inside}
use Rattle.cl_classfile.specs.declared.parts.Parts.{Parts}
use Rattle.cl_classfile.specs.Structure.{Structure}

-- the file that these parts make (4.1)
abbrev pub plain_parts : Parts → Structure
plain_parts p = record {
  version = p.version;
  pool = p.pool.items;
  flags = p.flags;
  this_class = p.this_class;
  super_class = p.super_class;
  interfaces = p.interfaces.items;
  fields = p.fields.items;
  methods = p.methods.items;
  attributes = p.attributes.items;
}

-- the file that a value of the program is (4.1)
abbrev pub structure : Inside → Structure
structure f = plain_parts f.parts
