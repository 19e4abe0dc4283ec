-- What the examples of printed texts say, over the names of the four loaders.
use Prim.Native.String.{String}
use Rattle.std.specs.Prelude.{◌≡◌, ℕ, ◌++◌, codes, Some}
use Rattle.cl_classfile.specs.Files.{Key}
use Rattle.cl_model.specs.declared.class.Class.{Class}
use Rattle.cl_model.specs.Classes.{Error}
use Rattle.cl_model.specs.States.{Verdict, Wrong, Answer}
use Rattle.cl_model.specs.Machine.{Step}
use Rattle.cl_model.specs.Lines.{verdict_text, answer_text, answer_line, line}
use Rattle.cl_model.specs.Examples.{names, in_app, field_key, a_class}

-- `x y Lp/A B;`, with a space in the name and one in the class of its type (4.2.2, 4.3.2)
abbrev pub spaced : Key
spaced = field_key "x y" (a_class "p/A B")

-- a verdict is printed so
abbrev pub Prints : Verdict → String → Type 0
Prints v text = verdict_text names v ≡ codes text

-- an error is printed by this word and its subject (the words are those of 5.3 to 5.4.4)
abbrev pub IsCalled : (Class → Error) → String → Type 0
IsCalled kind word = verdict_text names (Wrong (kind (in_app "p/T"))) ≡ codes word
    ++ codes " p/T@app"

-- an answer is printed so
abbrev pub PrintsAnswer : Answer → String → Type 0
PrintsAnswer a text = answer_text names a ≡ codes text

-- the answer of the request of this number is this line
abbrev pub PrintsLine : ℕ → Answer → String → Type 0
PrintsLine q a text = answer_line names q a ≡ codes text

-- a step is this line
abbrev pub PrintsStep : Step → String → Type 0
PrintsStep e text = line names e ≡ Some (codes text)
