-- Names, words and lines of the worked examples.
use Rattle.std.proofs.Common.{rules, ◌≡◌, ℕ, List, true, false, Some, codes, refl, sym, ap, ◌∙◌}
use Rattle.cl_model.specs.declared.request.Request.TheVariants.{Load, Resolve, Link}
use Rattle.cl_names.specs.Escape.{unescaped_name, written_units}
use Rattle.cl_names.specs.Text.{is_text}
use Rattle.cl_names.specs.Kind.{is_class_name}
use Rattle.cl_names.specs.Name.{WritesClass}
use Rattle.cl_names.proofs.Escapes.{unescaped_from, unescaped_of}
use Rattle.cl_names.proofs.Grammars.{class_from_test, class_test_of}
use Rattle.cl_config.specs.declared.script.Action.{Action}
use Rattle.cl_config.specs.declared.script.Action.TheVariants as actions
use Rattle.cl_lines.specs.Numbers.{WritesNumber}
use Rattle.cl_config.specs.Scripts.{HasWords, IsRequest, IsBad, LacksLoader}
use Rattle.cl_config.specs.Examples.{two, LineMakes}
use Rattle.cl_config.proofs.Requests.{words_alone}

-- ---- names

writes_p_a : unescaped_name (codes "p/A") ≡ Some (codes "p/A")
unfolding unescaped_name written_units
writes_p_a = refl

class_p_a : is_class_name (codes "p/A") ≡ true
unfolding is_class_name is_text
class_p_a = refl

pub p_a : WritesClass (codes "p/A") (codes "p/A")
p_a = record { written = unescaped_from (codes "p/A") (codes "p/A") writes_p_a; kind = class_from_test (codes "p/A") class_p_a }

writes_p_dot_a : unescaped_name (codes "p.A") ≡ Some (codes "p.A")
unfolding unescaped_name written_units
writes_p_dot_a = refl

no_class_p_dot_a : is_class_name (codes "p.A") ≡ false
unfolding is_class_name is_text
no_class_p_dot_a = refl

some_is : {a b : List ℕ} → Some a ≡ Some b → a ≡ b
some_is h = cc

true_or_false : true ≡ false → ⊥
true_or_false h = absurd cc

no_class : (name : List ℕ) → WritesClass (codes "p.A") name → ⊥
no_class name t =
    let same : codes "p.A" ≡ name = some_is (sym writes_p_dot_a ∙ unescaped_of (codes "p.A") name t.written) in
    true_or_false (sym (class_test_of name t.kind) ∙ ap is_class_name (sym same) ∙ no_class_p_dot_a)

-- ---- indices

pub seven : WritesNumber (codes "7") 7
seven = search rules

pub one : WritesNumber (codes "1") 1
one = search rules

-- ---- lines

-- a line of a request for p/A
pub of_p_a : (line : List ℕ) (action : Action) (word : List ℕ) → HasWords line action word (codes "p/A") → IsRequest line action word (codes "p/A")
of_p_a line action word words = record { text = codes "p/A"; words = words; writes = p_a }

pub no_request : (line : List ℕ) (a : Action) (word : List ℕ) → HasWords line a word (codes "p.A") → (b : Action) (loader name : List ℕ) → IsRequest line b loader name → ⊥
no_request line a word words b loader name t = no_class name (subst_text (words_alone line b a loader word t.text (codes "p.A") t.words words).texts)
  where
    subst_text : t.text ≡ codes "p.A" → WritesClass (codes "p.A") name
    subst_text e = rw e at t.writes

pub bad_name : IsBad (codes "link x p.A")
bad_name = record { request = no_request (codes "link x p.A") actions.Link (codes "x") refl; round = λ h. absurd cc }

pub asks_link : LineMakes (codes "link app p/A") (Link 1 (codes "p/A"))
asks_link = record { word = codes "app"; request = of_p_a (codes "link app p/A") actions.Link (codes "app") refl; known = refl }

pub asks_load : LineMakes (codes "load app p/A") (Load 1 (codes "p/A"))
asks_load = record { word = codes "app"; request = of_p_a (codes "load app p/A") actions.Load (codes "app") refl; known = refl }

pub asks_spaced : LineMakes (codes "  resolve boot  p/A 7 ") (Resolve 0 (codes "p/A") 7)
asks_spaced = record {
  word = codes "boot";
  request = of_p_a (codes "  resolve boot  p/A 7 ") (actions.Resolve 7) (codes "boot") (codes "7", refl, seven);
  known = refl;
}

pub asks_resolve : LineMakes (codes "resolve app p/A 1") (Resolve 1 (codes "p/A") 1)
asks_resolve = record {
  word = codes "app";
  request = of_p_a (codes "resolve app p/A 1") (actions.Resolve 1) (codes "app") (codes "1", refl, one);
  known = refl;
}

pub lacks_resolve : LacksLoader two (codes "resolve x p/A 1")
lacks_resolve = record {
  action = actions.Resolve 1;
  word = codes "x";
  name = codes "p/A";
  request = of_p_a (codes "resolve x p/A 1") (actions.Resolve 1) (codes "x") (codes "1", refl, one);
  unknown = refl;
}

pub lacks_link : LacksLoader two (codes "link x p/A")
lacks_link = record { action = actions.Link; word = codes "x"; name = codes "p/A"; request = of_p_a (codes "link x p/A") actions.Link (codes "x") refl; unknown = refl }
