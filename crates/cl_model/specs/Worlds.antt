-- What linking looks at in a file that was read, or its fault (JVMS SE 8, 4.1 to 4.8).
use Rattle.std.specs.Prelude.{Result}
use Rattle.std.specs.Result.{result_map_both}
use Rattle.cl_classfile.specs.declared.fault.Fault.{Fault}
use Rattle.cl_classfile.specs.declared.fault.Fault.TheVariants.{Version}
use Rattle.cl_classfile.specs.Structure.{Structure}
use Rattle.cl_classfile.specs.Files.{File, FileFault, BadVersion, BadFormat, file_of}

-- a version of its own is one fault, all others are one of the format (4.1; 5.3.5, step 2)
abbrev pub file_fault : Fault → FileFault
file_fault Version = BadVersion
file_fault _ = BadFormat

-- what linking looks at in the file that was read (4.1)
abbrev pub seen_file : Result Structure Fault → Result File FileFault
seen_file r = result_map_both file_of file_fault r
