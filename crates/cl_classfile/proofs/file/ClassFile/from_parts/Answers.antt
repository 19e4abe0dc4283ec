use Rattle.std.proofs.Common.{Result, refl, sym, subst}
use Rattle.cl_classfile.specs.declared.fault.Fault.{Fault}
use Rattle.cl_classfile.specs.Structure.{Structure, Spells, spelling}
use Rattle.cl_classfile.specs.View.{plain_parts}
use Rattle.cl_classfile.specs.Checking.{GivesFault}
use Rattle.cl_classfile.proofs.Tables.{parts_say, parts_told}
use Rattle.cl_classfile.proofs.file.ClassFile.from_parts.Goals as goal

pub class_file-requires-clause-file : goal.class_file-requires-clause-file
class_file-requires-clause-file c = (parts_say (plain_parts c.args.parts) (plain_parts c.args.parts) c.in-Ok.ensures.parts).1

pub returns-in-Ok-clause-found : goal.returns-in-Ok-clause-found
returns-in-Ok-clause-found c =
    let is = (parts_say (plain_parts c.args.parts) (plain_parts c.args.parts) c.in-Ok.ensures.parts).1 in
    (c.class_file.ensures, subst (λ (f : Structure). Spells (spelling f) f) (sym c.class_file.ensures) (record { file = is; spelled = refl }))

pub returns-in-Err-clause-only : goal.returns-in-Err-clause-only
returns-in-Err-clause-only c = λ bytes s. subst (λ (file : Result Structure Fault). GivesFault c.in-Err.error file) (parts_told (plain_parts c.args.parts) s.file.fits s.file.kept) c.in-Err.ensures.parts
