use Rattle.std.proofs.Common.{[], ◌∷◌, codes, refl, arith}
use Rattle.cl_model.specs.declared.request.Request.TheVariants.{Load, Resolve, Link}
use Rattle.cl_config.specs.declared.script.Said.TheVariants.{Ask, Then}
use Rattle.cl_config.proofs.Worked.{asks_load, asks_resolve, asks_link, bad_name, lacks_link}
use Rattle.cl_config.proofs.examples.texts.Goals as goal

pub returns-clause-script : goal.returns-clause-script
returns-clause-script c = record {
  said = Ask (Load 1 (codes "p/A")) ∷ Then ∷ Ask (Resolve 1 (codes "p/A") 1) ∷ Ask (Link 1 (codes "p/A")) ∷ [];
  says = (asks_load, (refl, (asks_resolve, (asks_link, tt))));
  fits = record { requests = omega arith; thens = omega arith };
  is = refl;
}

pub returns-clause-bad : goal.returns-clause-bad
returns-clause-bad c = record {
  front = _ ∷ [];
  line = _;
  behind = [];
  said = Ask (Load 1 (codes "p/A")) ∷ [];
  cut = refl;
  says = (asks_load, tt);
  fits = record { requests = omega arith; thens = omega arith };
  here = (refl, bad_name);
}

pub returns-clause-unknown : goal.returns-clause-unknown
returns-clause-unknown c = record {
  front = _ ∷ [];
  line = _;
  behind = _ ∷ [];
  said = Then ∷ [];
  cut = refl;
  says = (refl, tt);
  fits = record { requests = omega arith; thens = omega arith };
  here = (refl, lacks_link);
}
