-- The texts of the assembler's faults.
use Rattle.std.specs.Prelude.{ℕ, List, ◌++◌, codes}
use Rattle.std.specs.Fmt.{decimal}
use Rattle.cl_classfile.specs.Texts.{fault_text}
use Rattle.cl_writer.specs.declared.fault.AssembleFault.{AssembleFault}
use Rattle.cl_writer.specs.declared.fault.AssembleFault.TheVariants.{Memory, BadLine, Invalid}

-- the text of a fault; of what is wrong with a file, behind it that fault's own
abbrev pub assemble_text : AssembleFault → List ℕ
assemble_text Memory = codes "A0 Memory"
assemble_text (BadLine n) = codes "A1 BadLine " ++ decimal n
assemble_text (Invalid fault) = codes "A2 Invalid " ++ fault_text fault
