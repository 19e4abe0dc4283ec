-- A registry, without where its parts lie in memory.
use Rattle.std.specs.Prelude.{map}
use Rattle.cl_registry.specs.Tables.{Shown}
use Rattle.cl_registry.specs.declared.registry.Registry.TheInside.{Inside}

-- what a value of the program shows
abbrev pub shown_of : {T : Type 0} → Inside T → Shown
shown_of r = record {
  config = r.config.value;
  script = r.script.value;
  rows = map (λ c. c.value) r.rows.items;
  history = r.history.items;
  answers = r.answers.items;
}
