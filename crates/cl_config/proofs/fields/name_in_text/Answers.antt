use Rattle.std.proofs.Common.{refl}
use Rattle.cl_names.proofs.Escapes.{unescaped_of, unescaped_of_none}
use Rattle.cl_config.proofs.fields.name_in_text.Goals as goal

pub returns-in-Ok : goal.returns-in-Ok
returns-in-Ok c = rw (unescaped_of c.args.text.now c.in-Ok.name c.in-Ok.ensures) refl

pub returns-in-Err-BadName : goal.returns-in-Err-BadName
returns-in-Err-BadName c =
    let none = rw c.in-Err-BadName.field-0-is at c.in-Err-BadName.ensures in
    rw (unescaped_of_none c.args.text.now none) refl
