-- Reading the lines of a class, one after another.
use Rattle.std.proofs.Common.{◌≡◌, inr, ℕ, true, false, Option, None, Result, Ok, Err, List, [], ◌∷◌, ◌++◌, fold, append_assoc, append-nil, refl, sym, ap, subst, ◌∙◌, arith}
use Rattle.cl_lines.specs.Lines.{Numbered, words_of}
use Rattle.cl_classfile.specs.declared.version.Version as classfile
use Rattle.cl_writer.specs.declared.statement.ClassLine.{ClassLine}
use Rattle.cl_writer.specs.declared.statement.MemberLine.{MemberLine}
use Rattle.cl_writer.specs.declared.statement.Statement.{Statement}
use Rattle.cl_writer.specs.declared.statement.Statement.TheVariants.{Implements, Field, Method, Ref, Version}
use Rattle.cl_writer.specs.declared.item.Item.{Item}
use Rattle.cl_writer.specs.declared.assembly.Assembly.{Assembly}
use Rattle.cl_writer.specs.declared.fault.AssembleFault.{AssembleFault}
use Rattle.cl_writer.specs.declared.fault.AssembleFault.TheVariants.{Memory, BadLine, Invalid}
use Rattle.cl_lines.specs.Lines.{stated_from}
use Rattle.cl_writer.specs.Statements.{IsClassLine, Says}
use Rattle.cl_writer.specs.Assemblies.{ListedClass, lists_of, class_alone, with_said, VersionAtMostOnce, AllSay, IsRest, StopsAt, RestOf, LinesOf}
use Rattle.cl_writer.proofs.Alone.{one_statement}
use Rattle.cl_writer.proofs.Versions.{count, count_more, counts, is_second, known, one_at_most, one_too_many}

-- so far each line says something; these lines are left
pub record IsReadSoFar (class : ClassLine) (lines left : List Numbered) (listed : ListedClass) : Type 0 where
  pub front : List Numbered
  pub statements : List Statement
  pub cut : lines ≡ front ++ left
  pub said : AllSay front statements
  pub counted : count statements ≡ known listed
  pub is : listed ≡ fold with_said (class_alone class) statements

pub none_read : (class : ClassLine) (lines : List Numbered) → IsReadSoFar class lines lines (class_alone class)
none_read class lines = record { front = []; statements = []; cut = refl; said = tt; counted = refl; is = refl }

pub starts : (class : ClassLine) (lines left : Numbered) (version : Option classfile.Version) (interfaces : List (List ℕ)) (fields methods : List MemberLine) (references : List Item)
    → left ≡ lines → version ≡ None → interfaces ≡ [] → fields ≡ [] → methods ≡ [] → references ≡ []
    → IsReadSoFar class (stated_from lines.number lines.text) (stated_from left.number left.text) (record { class = class; version = version; interfaces = interfaces; fields = fields; methods = methods; references = references })
starts class lines left version interfaces fields methods references e v a b c d = rw (e, v, a, b, c, d) (none_read class (stated_from lines.number lines.text))

all_say_more : (front : List Numbered) (statements : List Statement) (line : Numbered) (s : Statement) → AllSay front statements → Says (words_of line.text) s → AllSay (front ++ line ∷ []) (statements ++ s ∷ [])
all_say_more [] [] line s all here = (here, tt)
all_say_more [] (t ∷ ts) line s all here = absurd all
all_say_more (l ∷ ls) [] line s all here = absurd all
all_say_more (l ∷ ls) (t ∷ ts) line s all here = (all.0, all_say_more ls ts line s all.1 here)

folded_more : (start : ListedClass) (statements : List Statement) (s : Statement) → fold with_said start (statements ++ s ∷ []) ≡ with_said (fold with_said start statements) s
folded_more start [] s = refl
folded_more start (t ∷ ts) s = folded_more (with_said start t) ts s

-- one more line says something
pub more_read : (class : ClassLine) (lines left rest : List Numbered) (listed more : ListedClass) (line : Numbered) (s : Statement)
    → IsReadSoFar class lines left listed → left ≡ line ∷ rest → Says (words_of line.text) s → is_second listed s ≡ false → more ≡ with_said listed s → IsReadSoFar class lines rest more
more_read class lines left rest listed more line s t first here new grown = record {
  front = t.front ++ line ∷ [];
  statements = t.statements ++ s ∷ [];
  cut = t.cut ∙ ap (λ l. t.front ++ l) first ∙ sym (append_assoc t.front (line ∷ []) rest);
  said = all_say_more t.front t.statements line s t.said here;
  counted = omega (arith, count_more t.statements s, t.counted, counts listed s new, ap known grown);
  is = grown ∙ ap (λ l. with_said l s) t.is ∙ sym (folded_more (class_alone class) t.statements s);
}

-- no more than one version was said
once : (class : ClassLine) (lines left : List Numbered) (listed : ListedClass) (t : IsReadSoFar class lines left listed) → VersionAtMostOnce t.statements
once class lines left listed t = omega (arith, t.counted, one_at_most listed)

-- a line that says nothing, or a second version
pub stops_here : (class : ClassLine) (lines left rest : List Numbered) (listed : ListedClass) (line : Numbered)
    → IsReadSoFar class lines left listed → left ≡ line ∷ rest → ((s : Statement) → Says (words_of line.text) s → is_second listed s ≡ true) → StopsAt lines line.number
stops_here class lines left rest listed line t first second = record {
  front = t.front;
  line = line;
  behind = rest;
  statements = t.statements;
  cut = t.cut ∙ ap (λ l. t.front ++ l) first;
  said = t.said;
  once = once class lines left listed t;
  bad = λ s says fits. one_too_many listed s (second s says) (omega (arith, count_more t.statements s, t.counted));
  is = refl;
}

-- a line that says a second version, and so nothing else
pub second_here : (class : ClassLine) (lines left rest : List Numbered) (listed : ListedClass) (line : Numbered) (s : Statement)
    → IsReadSoFar class lines left listed → left ≡ line ∷ rest → Says (words_of line.text) s → is_second listed s ≡ true → StopsAt lines line.number
second_here class lines left rest listed line s t first here second =
    stops_here class lines left rest listed line t first (λ a says. subst (λ (x : Statement). is_second listed x ≡ true) (one_statement (words_of line.text) s a here says) second)

-- no line is left
pub whole_read : (class : ClassLine) (lines left : List Numbered) (listed : ListedClass) → IsReadSoFar class lines left listed → left ≡ [] → IsRest class lines listed
whole_read class lines left listed t none = record {
  statements = t.statements;
  said = subst (λ ls. AllSay ls t.statements) (sym (t.cut ∙ ap (λ l. t.front ++ l) none ∙ append-nil t.front)) t.said;
  once = once class lines left listed t;
  is = t.is;
}

-- ---- the line of the class, and the others

said_of_class : (l : ListedClass) (s : Statement) → (let c : ClassLine = (with_said l s).class in c) ≡ l.class
said_of_class l (Implements n) = refl
said_of_class l (Field line) = refl
said_of_class l (Method line) = refl
said_of_class l (Ref i) = refl
said_of_class l (Version v) = refl

class_stays : (l : ListedClass) (ss : List Statement) → (fold with_said l ss).class ≡ l.class
class_stays l [] = refl
class_stays l (s ∷ ss) = class_stays (with_said l s) ss ∙ said_of_class l s

pub same_class : (class : ClassLine) (lines : List Numbered) (listed : ListedClass) → IsRest class lines listed → listed.class ≡ class
same_class class lines listed t = ap (λ (l : ListedClass). l.class) t.is ∙ class_stays (class_alone class) t.statements

first_and_rest : (first : Numbered) (rest : List Numbered) (class : ClassLine) (r : Result Assembly AssembleFault) → IsClassLine (words_of first.text) class → RestOf class rest r → LinesOf (first ∷ rest) r
first_and_rest first rest class (Ok a) here t =
    let same : class ≡ a.class = sym (same_class class rest (lists_of a) t) in
    (subst (λ c. IsClassLine (words_of first.text) c) same here, subst (λ c. IsRest c rest (lists_of a)) same t)
first_and_rest first rest class (Err (BadLine n)) here t = inr ((class, here), t)
first_and_rest first rest class (Err (Invalid f)) here t = t
first_and_rest first rest class (Err Memory) here t = tt

pub all_lines : (lines rest : List Numbered) (first : Numbered) (class : ClassLine) (r : Result Assembly AssembleFault) → lines ≡ first ∷ rest → IsClassLine (words_of first.text) class → RestOf class rest r → LinesOf lines r
all_lines lines rest first class r e here t = rw e (first_and_rest first rest class r here t)
