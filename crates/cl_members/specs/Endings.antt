-- How work ends that needs something first (JVMS SE 8, 5.4.3).
use Rattle.std.specs.Prelude.{List, [], Some, Ok}
use Rattle.cl_model.specs.States.{Need, Verdict}
use Rattle.cl_model.specs.Works.{Work}

-- these needs, and then an end without an error (5.4.3)
abbrev pub ending_after : List Need → Verdict → Work Verdict
ending_after needs v = Some (record { needs = needs; asked = []; ends = Ok v })
