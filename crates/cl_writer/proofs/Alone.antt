-- What lines say, and what they are assembled to, is one thing at most.
use Rattle.std.proofs.Common.{◌≡◌, ◌⊎◌, inl, inr, ℕ, ◌+◌, ◌≤◌, ℤ, List, [], ◌∷◌, ◌++◌, fold, Some, None, Result, Ok, Err, codes, refl, sym, ap, subst, ◌∙◌, arith}
use Rattle.std.specs.Prelude.{◌≢◌}
use Rattle.cl_lines.specs.Lines.{Numbered, words_of}
use Rattle.cl_lines.specs.Numbers.{WritesNumber}
use Rattle.cl_names.specs.Escape.{WritesName}
use Rattle.cl_names.proofs.Escapes.{name_alone}
use Rattle.cl_classfile.specs.declared.version.Version as classfile
use Rattle.cl_classfile.specs.declared.fault.Fault.{Fault}
use Rattle.cl_classfile.specs.Structure.{Structure}
use Rattle.cl_classfile.specs.Checking.{parts_of}
use Rattle.cl_writer.specs.declared.item.MemberKind.{MemberKind}
use Rattle.cl_writer.specs.declared.item.MemberKind.TheVariants as kinds
use Rattle.cl_writer.specs.declared.item.MemberName.{MemberName}
use Rattle.cl_writer.specs.declared.item.Item.{Item}
use Rattle.cl_writer.specs.declared.item.Item.TheVariants.{Text, Integer, Class, NameAndType, Member}
use Rattle.cl_writer.specs.declared.statement.ClassLine.{ClassLine}
use Rattle.cl_writer.specs.declared.statement.MemberLine.{MemberLine}
use Rattle.cl_writer.specs.declared.statement.Statement.{Statement}
use Rattle.cl_writer.specs.declared.statement.Statement.TheVariants.{Implements, Field, Method, Ref, Version}
use Rattle.cl_writer.specs.declared.fault.AssembleFault.{AssembleFault}
use Rattle.cl_writer.specs.declared.fault.AssembleFault.TheVariants.{Memory, BadLine, Invalid}
use Rattle.cl_writer.specs.Statements.{WritesInteger, WritesSuper, IsName, IsInteger, IsMemberLine, IsMemberName, IsClassLine, IsVersion, Begins, kind_word, Refers, Says}
use Rattle.cl_writer.specs.Assemblies.{ListedClass, class_alone, with_said, VersionAtMostOnce, AllSay, IsRest, StopsAt, IsRead, IsBadAt}
use Rattle.cl_writer.specs.Described.{described_file}
use Rattle.cl_writer.specs.Assembled.{IsAssembled, IsInvalid, AssembleOf}
use Rattle.cl_writer.proofs.Rows.{first_of, second_of, third_of, first_of_two, second_of_two, head_of, only_of, letters, differs, other, behind, no_member_word}
use Rattle.cl_writer.proofs.Words.{WritesFlags, One, Two, Three, name_words, integer_words, version, version_words, member_line, member_line_words, member_name, member_name_words, class_line, class_line_words}
use Rattle.cl_writer.proofs.Versions.{count, count_first, count_more}
use Rattle.std.proofs.lemmas.Option.{same_Some}

-- ---- words

-- what is said is one thing
abbrev Alone : {W A : Type 0} → (W → A → Type 0) → Type 0
Alone {W} {A} P = (w : W) (a b : A) → P w a → P w b → a ≡ b

one_super : Alone WritesSuper
one_super text None None v w = refl
one_super text None (Some n) v w = absurd (w.0 v)
one_super text (Some m) None v w = absurd (v.0 w)
one_super text (Some m) (Some n) v w = ap (λ (x : List ℕ). Some x) (name_alone text m n v.1 w.1)

one_flags : Alone WritesFlags
one_flags text a b v w = same_Some a b (sym v ∙ w)

one_number : Alone WritesInteger
one_number text a b v w = v.value ∙ sym w.value

one_count : Alone WritesNumber
one_count text a b v w = v.value ∙ sym w.value

one_alone : {A : Type 0} (P : List ℕ → A → Type 0) → Alone P → Alone (One P)
one_alone P p words a b v w = p w.text a b (subst (λ s. P s a) (only_of (sym v.spelled ∙ w.spelled)) v.says) w.says

same_two : {A B : Type 0} (x y : A × B) → x.0 ≡ y.0 → x.1 ≡ y.1 → x ≡ y
same_two (a, b) (x, y) e f = cc

two_alone : {A B : Type 0} (P : List ℕ → A → Type 0) (Q : List ℕ → B → Type 0) → Alone P → Alone Q → Alone (Two P Q)
two_alone P Q p q words x y v w =
    let texts = sym v.spelled ∙ w.spelled in
    same_two x y
    (p w.first x.0 y.0 (subst (λ s. P s x.0) (first_of_two texts) v.one) w.one)
    (q w.second x.1 y.1 (subst (λ s. Q s x.1) (second_of_two texts) v.two) w.two)

same_three : {A B C : Type 0} (x y : A × B × C) → x.0 ≡ y.0 → x.1 ≡ y.1 → x.2 ≡ y.2 → x ≡ y
same_three (a, b, c) (x, y, z) e f g = cc

three_alone : {A B C : Type 0} (P : List ℕ → A → Type 0) (Q : List ℕ → B → Type 0) (R : List ℕ → C → Type 0) → Alone P → Alone Q → Alone R → Alone (Three P Q R)
three_alone P Q R p q r words x y v w =
    let texts = sym v.spelled ∙ w.spelled in
    same_three x y
    (p w.first x.0 y.0 (subst (λ s. P s x.0) (first_of texts) v.one) w.one)
    (q w.second x.1 y.1 (subst (λ s. Q s x.1) (second_of texts) v.two) w.two)
    (r w.third x.2 y.2 (subst (λ s. R s x.2) (third_of texts) v.three) w.three)

begun_alone : {A : Type 0} (P : List (List ℕ) → A → Type 0) (keyword : List ℕ) → Alone P → Alone (λ (words : List (List ℕ)) (a : A). Begins keyword words (λ rest. P rest a))
begun_alone P keyword p words a b v w = p w.rest a b (behind w.spelled v) w.behind

one_word : Alone IsName
one_word words a b v w = one_alone WritesName name_alone words a b (name_words words a v) (name_words words b w)

one_integer : Alone IsInteger
one_integer words a b v w = one_alone WritesInteger one_number words a b (integer_words words a v) (integer_words words b w)

one_version : Alone IsVersion
one_version words a b v w = ap version (two_alone WritesNumber WritesNumber one_count one_count words _ _ (version_words words a v) (version_words words b w))

one_member_line : Alone IsMemberLine
one_member_line words a b v w = ap member_line (three_alone WritesFlags WritesName WritesName one_flags name_alone name_alone words _ _ (member_line_words words a v) (member_line_words words b w))

one_member_name : Alone IsMemberName
one_member_name words a b v w = ap member_name (three_alone WritesName WritesName WritesName name_alone name_alone name_alone words _ _ (member_name_words words a v) (member_name_words words b w))

pub one_class_line : Alone IsClassLine
one_class_line words a b v w =
    ap class_line (begun_alone (Three WritesFlags WritesName WritesSuper) (codes "class") (three_alone WritesFlags WritesName WritesSuper one_flags name_alone one_super) words _ _ (class_line_words words a v) (class_line_words words b w))

-- ---- lines

one_kind : (k l : MemberKind) → kind_word k ≡ kind_word l → k ≡ l
unfolding letters
one_kind kinds.Field kinds.Field e = refl
one_kind kinds.Method kinds.Method e = refl
one_kind kinds.InterfaceMethod kinds.InterfaceMethod e = refl
one_kind k l e = absurd (differs (kind_word k) (kind_word l) (λ h. absurd (omega arith)) e)

no_int_class : codes "int" ≡ codes "class" → ⊥
unfolding letters
no_int_class = differs _ _ (λ h. absurd (omega arith))

same_member : (k l : MemberKind) (m n : MemberName) → k ≡ l → m ≡ n → Member k m ≡ Member l n
same_member k l m n e f = cc

one_item : Alone Refers
one_item words (Text x) b v w = absurd v
one_item words (NameAndType n d) b v w = absurd v
one_item words a (Text x) v w = absurd w
one_item words a (NameAndType n d) v w = absurd w
one_item words (Integer m) (Integer n) v w = ap (λ (i : ℤ). Integer i) (begun_alone IsInteger (codes "int") one_integer words m n v w)
one_item words (Class m) (Class n) v w = ap (λ (i : List ℕ). Class i) (begun_alone IsName (codes "class") one_word words m n v w)
one_item words (Member k m) (Member l n) v w =
    same_member k l m n (one_kind k l (head_of (sym v.spelled ∙ w.spelled))) (one_member_name w.rest m n (behind w.spelled v) w.behind)
one_item words (Integer m) (Class n) v w = absurd (no_int_class (head_of (sym v.spelled ∙ w.spelled)))
one_item words (Class m) (Integer n) v w = absurd (no_int_class (head_of (sym w.spelled ∙ v.spelled)))
one_item words (Integer m) (Member l n) v w = absurd ((no_member_word l).0 (head_of (sym v.spelled ∙ w.spelled)))
one_item words (Member k m) (Integer n) v w = absurd ((no_member_word k).0 (head_of (sym w.spelled ∙ v.spelled)))
one_item words (Class m) (Member l n) v w = absurd ((no_member_word l).1 (head_of (sym v.spelled ∙ w.spelled)))
one_item words (Member k m) (Class n) v w = absurd ((no_member_word k).1 (head_of (sym w.spelled ∙ v.spelled)))

pub one_statement : Alone Says
unfolding letters
one_statement words (Implements m) (Implements n) v w = ap (λ (x : List ℕ). Implements x) (begun_alone IsName (codes "implements") one_word words m n v w)
one_statement words (Field m) (Field n) v w = ap (λ (x : MemberLine). Field x) (begun_alone IsMemberLine (codes "field") one_member_line words m n v w)
one_statement words (Method m) (Method n) v w = ap (λ (x : MemberLine). Method x) (begun_alone IsMemberLine (codes "method") one_member_line words m n v w)
one_statement words (Ref m) (Ref n) v w = ap (λ (x : Item). Ref x) (begun_alone Refers (codes "ref") one_item words m n v w)
one_statement words (Version m) (Version n) v w = ap (λ (x : classfile.Version). Version x) (begun_alone IsVersion (codes "version") one_version words m n v w)
one_statement words a b v w = absurd (other _ _ w.spelled (differs _ _ (λ h. absurd (omega arith))) v)

-- ---- texts

same_more : (a b : Statement) (ss ts : List Statement) → a ≡ b → ss ≡ ts → a ∷ ss ≡ b ∷ ts
same_more a b ss ts e f = cc

one_list : (lines : List Numbered) (ss ts : List Statement) → AllSay lines ss → AllSay lines ts → ss ≡ ts
one_list [] [] [] v w = refl
one_list [] (a ∷ ss) ts v w = absurd v
one_list [] [] (b ∷ ts) v w = absurd w
one_list (l ∷ ls) [] ts v w = absurd v
one_list (l ∷ ls) (a ∷ ss) [] v w = absurd w
one_list (l ∷ ls) (a ∷ ss) (b ∷ ts) v w = same_more a b ss ts (one_statement (words_of l.text) a b v.0 w.0) (one_list ls ss ts v.1 w.1)

one_rest : (class : ClassLine) (lines : List Numbered) (a b : ListedClass) → IsRest class lines a → IsRest class lines b → a ≡ b
one_rest class lines a b v w = v.is ∙ ap (fold with_said (class_alone class)) (one_list lines v.statements w.statements v.said w.said) ∙ sym w.is

pub one_listed : (lines : List Numbered) (a b : ListedClass) → IsRead lines a → IsRead lines b → a ≡ b
one_listed [] a b v w = absurd v
one_listed (l ∷ ls) a b v w =
    let same : a.class ≡ b.class = one_class_line (words_of l.text) a.class b.class v.0 w.0 in
    one_rest b.class ls a b (subst (λ c. IsRest c ls a) same v.1) w.1

-- ---- the first line that is wrong

-- a line that says nothing, or a version behind so many
Bad : ℕ → Numbered → Type 0
Bad before line = (s : Statement) → Says (words_of line.text) s → before + count (s ∷ []) ≤ 1 → ⊥

bad_at : (before after : ℕ) (s t : Numbered) → before ≡ after → s ≡ t → Bad before s → Bad after t
bad_at before after s t e f bad = rw (e, f) at bad

first_line : (s t : Numbered) (ls ms : List Numbered) → s ∷ ls ≡ t ∷ ms → s ≡ t
first_line s t ls ms e = cc

other_lines : (s t : Numbered) (ls ms : List Numbered) → s ∷ ls ≡ t ∷ ms → ls ≡ ms
other_lines s t ls ms e = cc

-- where one that is bad stands, not all lines say something, behind so many versions
all_but : (n : ℕ) (front : List Numbered) (s : Numbered) (behind : List Numbered) (ss ts : List Statement)
    → AllSay (front ++ s ∷ behind) ss → n + count ss ≤ 1 → AllSay front ts → Bad (n + count ts) s → ⊥
unfolding Bad
all_but n [] s behind [] ts v once w bad = v
all_but n [] s behind (a ∷ ss) [] v once w bad = bad a v.0 (omega (arith, count_first a ss, count_first a []))
all_but n [] s behind (a ∷ ss) (b ∷ ts) v once w bad = w
all_but n (l ∷ ls) s behind [] ts v once w bad = v
all_but n (l ∷ ls) s behind (a ∷ ss) [] v once w bad = w
all_but n (l ∷ ls) s behind (a ∷ ss) (b ∷ ts) v once w bad =
    let same : count (a ∷ []) ≡ count (b ∷ []) = ap (λ (x : Statement). count (x ∷ [])) (one_statement (words_of l.text) a b v.0 w.0) in
    all_but (n + count (a ∷ [])) ls s behind ss ts v.1 (omega (arith, count_first a ss)) w.1 (bad_at (n + count (b ∷ ts)) _ s s (omega (arith, same, count_first b ts)) refl bad)

none_bad : (front : List Numbered) (s : Numbered) (behind : List Numbered) (ss ts : List Statement)
    → AllSay (front ++ s ∷ behind) ss → VersionAtMostOnce ss → AllSay front ts → Bad (count ts) s → ⊥
none_bad front s behind ss ts v once w bad = all_but 0 front s behind ss ts v (omega (arith, once)) w (bad_at (count ts) (0 + count ts) s s (omega arith) refl bad)

-- the one line stands before the other, or they are the same
Places : (front before : List Numbered) (s t : Numbered) → Type 0
Places front before s t = (s ≡ t) ⊎ (((more : List Numbered) × (before ≡ front ++ s ∷ more)) ⊎ ((more : List Numbered) × (front ≡ before ++ t ∷ more)))

places : (front before : List Numbered) (s t : Numbered) (behind after : List Numbered) → front ++ s ∷ behind ≡ before ++ t ∷ after → Places front before s t
unfolding Places
places [] [] s t behind after e = inl (first_line s t behind after e)
places [] (m ∷ ms) s t behind after e = inr (inl (ms, ap (λ (l : Numbered). l ∷ ms) (sym (first_line s m behind (ms ++ t ∷ after) e))))
places (l ∷ ls) [] s t behind after e = inr (inr (ls, ap (λ (m : Numbered). m ∷ ls) (first_line l t (ls ++ s ∷ behind) after e)))
places (l ∷ ls) (m ∷ ms) s t behind after e = further (first_line l m _ _ e) (places ls ms s t behind after (other_lines l m _ _ e))
  where
    further : l ≡ m → Places ls ms s t → Places (l ∷ ls) (m ∷ ms) s t
    further f (inl g) = inl g
    further f (inr (inl g)) = inr (inl (g.0, ap (λ (x : Numbered). x ∷ ms) (sym f) ∙ ap (λ (r : List Numbered). l ∷ r) g.1))
    further f (inr (inr g)) = inr (inr (g.0, ap (λ (x : Numbered). x ∷ ls) f ∙ ap (λ (r : List Numbered). m ∷ r) g.1))

bad_stop : (lines : List Numbered) (n : ℕ) (v : StopsAt lines n) → Bad (count v.statements) v.line
unfolding Bad
bad_stop lines n v s says once = v.bad s says (omega (arith, count_more v.statements s, count_first s []))

-- a line that is bad does not stand among those before another
not_before : (lines : List Numbered) (m n : ℕ) (v : StopsAt lines m) (w : StopsAt lines n) (more : List Numbered) → w.front ≡ v.front ++ v.line ∷ more → ⊥
not_before lines m n v w more e =
    none_bad v.front v.line more w.statements v.statements (subst (λ (ls : List Numbered). AllSay ls w.statements) e w.said) w.once v.said (bad_stop lines m v)

one_place : (lines : List Numbered) (m n : ℕ) → StopsAt lines m → StopsAt lines n → m ≡ n
unfolding Places
one_place lines m n v w =
    elim (places v.front w.front v.line w.line v.behind w.behind (sym v.cut ∙ w.cut)) [
      | inl e ↦ v.is ∙ ap (λ (l : Numbered). l.number) e ∙ sym w.is
      | inr p ↦ elim p [ inl q ↦ absurd (not_before lines m n v w q.0 q.1) | inr q ↦ absurd (not_before lines n m w v q.0 q.1) ]
    ]

-- lines that all say something stop nowhere
goes_on : (class : ClassLine) (lines : List Numbered) (a : ListedClass) (n : ℕ) → IsRest class lines a → StopsAt lines n → ⊥
goes_on class lines a n v w = none_bad w.front w.line w.behind v.statements w.statements (subst (λ (ls : List Numbered). AllSay ls v.statements) w.cut v.said) v.once w.said (bad_stop lines n w)

-- lines that are read have no line that is wrong
read_or_bad : (lines : List Numbered) (a : ListedClass) (n : ℕ) → IsRead lines a → IsBadAt lines n → ⊥
read_or_bad [] a n v w = v
read_or_bad (l ∷ ls) a n v w = elim w [ inl first ↦ first.1 a.class v.0 | inr later ↦ goes_on a.class ls a n v.1 later.1 ]

one_bad : (lines : List Numbered) (m n : ℕ) → IsBadAt lines m → IsBadAt lines n → m ≡ n
one_bad [] m n v w = v ∙ sym w
one_bad (l ∷ ls) m n v w =
    elim v [
      | inl p ↦ elim w [ inl q ↦ p.0 ∙ sym q.0 | inr q ↦ absurd (p.1 q.0.0 q.0.1) ]
      | inr p ↦ elim w [ inl q ↦ absurd (q.1 p.0.0 p.0.1) | inr q ↦ one_place ls m n p.1 q.1 ]
    ]

-- ---- what is made of the lines

one_file : (lines : List Numbered) (f g : Structure) → IsAssembled lines f → IsAssembled lines g → f ≡ g
one_file lines f g v w = v.is ∙ ap described_file (one_listed lines v.listed w.listed v.read w.read) ∙ sym w.is

fault_is : (f g : Fault) (r : Result Structure Fault) → r ≡ Err f → r ≡ Err g → f ≡ g
fault_is f g r v w = cc

no_both : (f : Structure) (g : Fault) (r : Result Structure Fault) → r ≡ Ok f → r ≡ Err g → ⊥
no_both f g r v w = absurd cc

one_fault : (lines : List Numbered) (f g : Fault) → IsInvalid lines f → IsInvalid lines g → f ≡ g
one_fault lines f g v w = fault_is f g (parts_of (described_file v.listed)) v.first (ap (λ (l : ListedClass). parts_of (described_file l)) (one_listed lines v.listed w.listed v.read w.read) ∙ w.first)

good_or_invalid : (lines : List Numbered) (f : Structure) (g : Fault) → IsAssembled lines f → IsInvalid lines g → ⊥
good_or_invalid lines f g v w = no_both f g (parts_of (described_file v.listed)) v.kept (ap (λ (l : ListedClass). parts_of (described_file l)) (one_listed lines v.listed w.listed v.read w.read) ∙ w.first)

pub one_answer : (lines : List Numbered) (r s : Result Structure AssembleFault) → AssembleOf lines r → AssembleOf lines s → r ≢ Err Memory → s ≢ Err Memory → r ≡ s
one_answer lines (Err Memory) s v w some other = absurd (some refl)
one_answer lines r (Err Memory) v w some other = absurd (other refl)
one_answer lines (Ok f) (Ok g) v w some other = ap (λ (x : Structure). Ok x) (one_file lines f g v w)
one_answer lines (Ok f) (Err (BadLine n)) v w some other = absurd (read_or_bad lines v.listed n v.read w)
one_answer lines (Ok f) (Err (Invalid g)) v w some other = absurd (good_or_invalid lines f g v w)
one_answer lines (Err (BadLine n)) (Ok f) v w some other = absurd (read_or_bad lines w.listed n w.read v)
one_answer lines (Err (Invalid g)) (Ok f) v w some other = absurd (good_or_invalid lines f g w v)
one_answer lines (Err (BadLine m)) (Err (BadLine n)) v w some other = ap (λ (n : ℕ). Err (BadLine n)) (one_bad lines m n v w)
one_answer lines (Err (Invalid f)) (Err (Invalid g)) v w some other = ap (λ (g : Fault). Err (Invalid g)) (one_fault lines f g v w)
one_answer lines (Err (BadLine n)) (Err (Invalid g)) v w some other = absurd (read_or_bad lines w.listed n w.read v)
one_answer lines (Err (Invalid g)) (Err (BadLine n)) v w some other = absurd (read_or_bad lines v.listed n v.read w)
