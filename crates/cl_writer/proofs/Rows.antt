-- Lines that say nothing.
use Rattle.std.proofs.Common.{◌≡◌, ℕ, ◌+◌, ◌*◌, ℤ, List, [], ◌∷◌, Option, Some, None, Result, Ok, Err, codes, sym, ap, subst, ◌∙◌, arith}
use Rattle.cl_lines.specs.Numbers.{WritesNumber}
use Rattle.cl_names.specs.Escape.{WritesName}
use Rattle.cl_classfile.specs.declared.version.Version as classfile
use Rattle.cl_writer.specs.declared.item.MemberKind.{MemberKind}
use Rattle.cl_writer.specs.declared.item.MemberKind.TheVariants as kinds
use Rattle.cl_writer.specs.declared.item.MemberName.{MemberName}
use Rattle.cl_writer.specs.declared.item.Item.{Item}
use Rattle.cl_writer.specs.declared.item.Item.TheVariants.{Text, Integer, Class, NameAndType, Member}
use Rattle.cl_writer.specs.declared.statement.ClassLine.{ClassLine}
use Rattle.cl_writer.specs.declared.statement.MemberLine.{MemberLine}
use Rattle.cl_writer.specs.declared.statement.Statement.{Statement}
use Rattle.cl_writer.specs.declared.statement.Statement.TheVariants.{Implements, Field, Method, Ref, Version}
use Rattle.cl_writer.specs.Statements.{WritesSuper, IsName, IsInteger, IsMemberLine, IsMemberName, IsClassLine, IsVersion, Begins, kind_word, Refers, Says}
use Rattle.cl_names.specs.Truth.{Reads}

-- ---- a word that writes nothing

-- a text that no name writes
abbrev pub NoName : List ℕ → Type 0
NoName text = (name : List ℕ) → WritesName text name → ⊥

pub first_of : {a b c d e f : List ℕ} → a ∷ b ∷ c ∷ [] ≡ d ∷ e ∷ f ∷ [] → a ≡ d
first_of h = cc

pub second_of : {a b c d e f : List ℕ} → a ∷ b ∷ c ∷ [] ≡ d ∷ e ∷ f ∷ [] → b ≡ e
second_of h = cc

pub third_of : {a b c d e f : List ℕ} → a ∷ b ∷ c ∷ [] ≡ d ∷ e ∷ f ∷ [] → c ≡ f
third_of h = cc

pub first_of_two : {a b d e : List ℕ} → a ∷ b ∷ [] ≡ d ∷ e ∷ [] → a ≡ d
first_of_two h = cc

pub second_of_two : {a b d e : List ℕ} → a ∷ b ∷ [] ≡ d ∷ e ∷ [] → b ≡ e
second_of_two h = cc

pub tail_of : {a b : List ℕ} {xs ys : List (List ℕ)} → a ∷ xs ≡ b ∷ ys → xs ≡ ys
tail_of h = cc

pub head_of : {a b : List ℕ} {xs ys : List (List ℕ)} → a ∷ xs ≡ b ∷ ys → a ≡ b
head_of h = cc

-- where the text of one is the other's, that writes nothing either
along : {a b : List ℕ} (name : List ℕ) → a ≡ b → NoName b → WritesName a name → ⊥
along name e none t = none name (subst (λ w. WritesName w name) e t)

pub no_class_name : (words : List (List ℕ)) (first flags name above : List ℕ) → words ≡ first ∷ flags ∷ name ∷ above ∷ [] → NoName name → (line : ClassLine) → IsClassLine words line → ⊥
no_class_name words first flags name above e none line t = along line.name (second_of (tail_of (sym t.spelled ∙ e))) none t.name

pub no_line_name : (words : List (List ℕ)) (flags name descriptor : List ℕ) → words ≡ flags ∷ name ∷ descriptor ∷ [] → NoName name → (line : MemberLine) → IsMemberLine words line → ⊥
no_line_name words flags name descriptor e none line t = along line.name (second_of (sym t.spelled ∙ e)) none t.name

pub no_line_descriptor : (words : List (List ℕ)) (flags name descriptor : List ℕ) → words ≡ flags ∷ name ∷ descriptor ∷ [] → NoName descriptor → (line : MemberLine) → IsMemberLine words line → ⊥
no_line_descriptor words flags name descriptor e none line t = along line.descriptor (third_of (sym t.spelled ∙ e)) none t.descriptor

-- a text that no number writes
abbrev pub NoNumber : List ℕ → Type 0
NoNumber text = (n : ℕ) → WritesNumber text n → ⊥

pub no_major : (words : List (List ℕ)) (major minor : List ℕ) → words ≡ major ∷ minor ∷ [] → NoNumber major → (v : classfile.Version) → IsVersion words v → ⊥
no_major words major minor e none v t = none v.major (subst (λ w. WritesNumber w v.major) (first_of_two (sym t.spelled ∙ e)) t.major)

pub no_minor : (words : List (List ℕ)) (major minor : List ℕ) → words ≡ major ∷ minor ∷ [] → NoNumber minor → (v : classfile.Version) → IsVersion words v → ⊥
no_minor words major minor e none v t = none v.minor (subst (λ w. WritesNumber w v.minor) (second_of_two (sym t.spelled ∙ e)) t.minor)

pub no_member_class : (words : List (List ℕ)) (class name descriptor : List ℕ) → words ≡ class ∷ name ∷ descriptor ∷ [] → NoName class → (m : MemberName) → IsMemberName words m → ⊥
no_member_class words class name descriptor e none m t = along m.class (first_of (sym t.spelled ∙ e)) none t.class

pub no_member_name : (words : List (List ℕ)) (class name descriptor : List ℕ) → words ≡ class ∷ name ∷ descriptor ∷ [] → NoName name → (m : MemberName) → IsMemberName words m → ⊥
no_member_name words class name descriptor e none m t = along m.name (second_of (sym t.spelled ∙ e)) none t.name

pub no_member_descriptor : (words : List (List ℕ)) (class name descriptor : List ℕ) → words ≡ class ∷ name ∷ descriptor ∷ [] → NoName descriptor → (m : MemberName) → IsMemberName words m → ⊥
no_member_descriptor words class name descriptor e none m t = along m.descriptor (third_of (sym t.spelled ∙ e)) none t.descriptor

pub no_super : (text : List ℕ) → (text ≡ codes "-" → ⊥) → NoName text → (name : Option (List ℕ)) → WritesSuper text name → ⊥
no_super text named none None t = named t
no_super text named none (Some name) t = none name t.1

pub only_of : {a b : List ℕ} → a ∷ [] ≡ b ∷ [] → a ≡ b
only_of h = cc

-- the one word is what its text writes
pub named : {E : Type 0} (words : List (List ℕ)) (text : List ℕ) (r : Result (Option (List ℕ)) E) → words ≡ text ∷ [] → Reads (WritesName text) r → Reads (IsName words) r
named words text (Ok None) e none = λ name t. along name (only_of (sym t.spelled ∙ e)) none t.writes
named words text (Ok (Some name)) e here = record { text = text; spelled = e; writes = here }
named words text (Err x) e h = tt

-- ---- a keyword that another line begins with

-- the second and the third letter of a word, which tell keywords apart
unfoldable pub letters : List ℕ → ℕ
letters (a ∷ b ∷ c ∷ word) = b + 1000 * c
letters (a ∷ b ∷ []) = 0
letters (a ∷ []) = 0
letters [] = 0

pub other : {P : List (List ℕ) → Type 0} (keyword word : List ℕ) {words rest : List (List ℕ)} → words ≡ word ∷ rest → (keyword ≡ word → ⊥) → Begins keyword words P → ⊥
other keyword word e differ t = differ (head_of (sym t.spelled ∙ e))

-- what stands behind the keyword
pub behind : {P : List (List ℕ) → Type 0} {keyword word : List ℕ} {words rest : List (List ℕ)} → words ≡ word ∷ rest → Begins keyword words P → P rest
behind {P = P} e t = subst P (tail_of (sym t.spelled ∙ e)) t.behind

-- keywords differ
pub differs : (a b : List ℕ) → (letters a ≡ letters b → ⊥) → a ≡ b → ⊥
differs a b d e = d (ap letters e)

pub no_member_word : (k : MemberKind) → (codes "int" ≡ kind_word k → ⊥) × (codes "class" ≡ kind_word k → ⊥)
unfolding letters
no_member_word kinds.Field = (differs _ _ (λ h. absurd (omega arith)), differs _ _ (λ h. absurd (omega arith)))
no_member_word kinds.Method = (differs _ _ (λ h. absurd (omega arith)), differs _ _ (λ h. absurd (omega arith)))
no_member_word kinds.InterfaceMethod = (differs _ _ (λ h. absurd (omega arith)), differs _ _ (λ h. absurd (omega arith)))

pub no_implements : (words rest : List (List ℕ)) → words ≡ codes "implements" ∷ rest → ((n : List ℕ) → IsName rest n → ⊥) → (s : Statement) → Says words s → ⊥
unfolding letters
no_implements words rest e none (Implements n) t = none n (behind e t)
no_implements words rest e none s t = other _ _ e (differs _ _ (λ h. absurd (omega arith))) t

pub no_field : (words rest : List (List ℕ)) → words ≡ codes "field" ∷ rest → ((l : MemberLine) → IsMemberLine rest l → ⊥) → (s : Statement) → Says words s → ⊥
unfolding letters
no_field words rest e none (Field l) t = none l (behind e t)
no_field words rest e none s t = other _ _ e (differs _ _ (λ h. absurd (omega arith))) t

pub no_method : (words rest : List (List ℕ)) → words ≡ codes "method" ∷ rest → ((l : MemberLine) → IsMemberLine rest l → ⊥) → (s : Statement) → Says words s → ⊥
unfolding letters
no_method words rest e none (Method l) t = none l (behind e t)
no_method words rest e none s t = other _ _ e (differs _ _ (λ h. absurd (omega arith))) t

pub no_ref : (words rest : List (List ℕ)) → words ≡ codes "ref" ∷ rest → ((i : Item) → Refers rest i → ⊥) → (s : Statement) → Says words s → ⊥
unfolding letters
no_ref words rest e none (Ref i) t = none i (behind e t)
no_ref words rest e none s t = other _ _ e (differs _ _ (λ h. absurd (omega arith))) t

pub no_version : (words rest : List (List ℕ)) → words ≡ codes "version" ∷ rest → ((v : classfile.Version) → IsVersion rest v → ⊥) → (s : Statement) → Says words s → ⊥
unfolding letters
no_version words rest e none (Version v) t = none v (behind e t)
no_version words rest e none s t = other _ _ e (differs _ _ (λ h. absurd (omega arith))) t

pub no_ref_class : (words rest : List (List ℕ)) → words ≡ codes "class" ∷ rest → ((n : List ℕ) → IsName rest n → ⊥) → (i : Item) → Refers words i → ⊥
unfolding letters
no_ref_class words rest e none (Class n) t = none n (behind e t)
no_ref_class words rest e none (Text text) t = t
no_ref_class words rest e none (NameAndType n d) t = t
no_ref_class words rest e none (Member k m) t = other (kind_word k) _ e (λ h. (no_member_word k).1 (sym h)) t
no_ref_class words rest e none (Integer n) t = other _ _ e (differs _ _ (λ h. absurd (omega arith))) t

pub no_ref_int : (words rest : List (List ℕ)) → words ≡ codes "int" ∷ rest → ((n : ℤ) → IsInteger rest n → ⊥) → (i : Item) → Refers words i → ⊥
unfolding letters
no_ref_int words rest e none (Integer n) t = none n (behind e t)
no_ref_int words rest e none (Text text) t = t
no_ref_int words rest e none (NameAndType n d) t = t
no_ref_int words rest e none (Member k m) t = other (kind_word k) _ e (λ h. (no_member_word k).0 (sym h)) t
no_ref_int words rest e none (Class n) t = other _ _ e (differs _ _ (λ h. absurd (omega arith))) t

pub no_ref_member : (words rest : List (List ℕ)) (first : List ℕ) → words ≡ first ∷ rest → (first ≡ codes "class" → ⊥) → (first ≡ codes "int" → ⊥) → ((m : MemberName) → IsMemberName rest m → ⊥) → (i : Item) → Refers words i → ⊥
no_ref_member words rest first e a b none (Text text) t = t
no_ref_member words rest first e a b none (Integer n) t = other (codes "int") first e (λ h. b (sym h)) t
no_ref_member words rest first e a b none (Class n) t = other (codes "class") first e (λ h. a (sym h)) t
no_ref_member words rest first e a b none (NameAndType n d) t = t
no_ref_member words rest first e a b none (Member k m) t = none m (behind e t)
