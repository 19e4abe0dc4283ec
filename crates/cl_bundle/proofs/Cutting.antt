-- A bundle's lines, cut off one by one.
use Rattle.std.proofs.Common.{◌≡◌, ◌⊎◌, ℕ, ◌+◌, ◌<◌, ◌≤◌, true, false, if◌then◌else◌, ◌==◌, List, [], ◌∷◌, ◌++◌, length, Some, Result, Ok, Err, refl, sym, ap, ◌∙◌, arith, inl, inr, append-nil, append_assoc, subst, IsErrAnd, Bor}
use Rattle.std.specs.List.{join_with_byte, position_or_len, before_first, after_first}
use Rattle.std.proofs.lemmas.Grind.{common_steps}
use Rattle.std.proofs.lemmas.List.{append_cancel_right, length-drop}
use Rattle.std.proofs.lemmas.List.Splits.{length-slice_split, join_with_byte-slice_split}
use Rattle.cl_lines.proofs.LineCuts.{first_part}
use Rattle.cl_lines.specs.Lines.{CutsLine, Numbered, is_skipped, words_of, lines_in}
use Rattle.cl_bundle.specs.Sections.{Heading, InnerLine, ClassLine, ScriptLine, WrongLine, Cut, Part, Parts, add_class, add_line, behind_line, cut_from, cut_of, heading_of, is_config, parts_from, with_config}
use Rattle.cl_bundle.specs.Cuts.{CutOf, HasNumber, IsWrongLine, SectionLineOf, cuts_of, add_front, ended_by, heading_from, section_parts}
use Rattle.cl_bundle.specs.declared.fault.BundleFault.{BundleFault}
use Rattle.cl_bundle.specs.declared.fault.BundleFault.TheVariants.{BadLine, Memory}
use Rattle.cl_bundle.specs.declared.sections.Sections.{Sections}
use Rattle.cl_bundle.specs.declared.sections.End.{End}
use Rattle.cl_bundle.specs.declared.sections.End.TheVariants as ends

-- the lines so far stand before what is left, and belong to the body
pub record IsInBody (start : List ℕ) (old new : Numbered) : Type 0 where
  pub front : List ℕ
  pub whole : start ≡ front ++ new.text
  pub parts : section_parts old ≡ add_front front (section_parts new)
  pub less : length new.text ≤ length old.text

-- no line, behind the last, is the same as an empty one
none_behind : (h : Heading) (n : ℕ) (line rest : List ℕ) → behind_line h n line rest (Err 0) ≡ behind_line h n line rest (parts_from (n + 1) (lines_in []))
none_behind InnerLine n line rest = refl
none_behind (ClassLine loader name) n line rest = refl
none_behind ScriptLine n line rest = refl
none_behind WrongLine n line rest = refl

pub parts_of_line : (n : ℕ) (text line rest : List ℕ) → line ≡ before_first (λ b. b == 10) text → rest ≡ after_first (λ b. b == 10) text
    → parts_from n (lines_in text) ≡ behind_line (heading_of (words_of line)) n line rest (parts_from (n + 1) (lines_in rest))
parts_of_line n text line rest before after =
    elim (first_part (λ (b : ℕ). b == 10) text) [
      | inl e ↦ rw (before, after, e) (rw (join_with_byte-slice_split 10 (after_first (λ b. b == 10) text)) refl)
      | inr e ↦ rw (before, after, e.2, e.1, e.0) (none_behind (heading_of (words_of text)) n text [])
    ]

join_more : (line : List ℕ) (lines : List (List ℕ)) → 0 < length lines → join_with_byte 10 (line ∷ lines) ≡ line ++ 10 ∷ join_with_byte 10 lines
join_more line [] h = absurd (omega arith)
join_more line (next ∷ lines) h = refl

-- a text is its first line, a line feed and the rest, or a line alone
pub text_of_line : (text line rest : List ℕ) → line ≡ before_first (λ b. b == 10) text → rest ≡ after_first (λ b. b == 10) text
    → (text ≡ line ++ 10 ∷ rest) ⊎ (rest ≡ [])
text_of_line text line rest before after =
    elim (first_part (λ (b : ℕ). b == 10) text) [
      | inl e ↦ inl (rw (before, after) (whole e))
      | inr e ↦ inr (after ∙ e.2)
    ]
  where
    whole : lines_in text ≡ before_first (λ b. b == 10) text ∷ lines_in (after_first (λ b. b == 10) text) → text ≡ before_first (λ b. b == 10) text ++ 10 ∷ after_first (λ b. b == 10) text
    whole e =
        let some : 0 < length (lines_in (after_first (λ b. b == 10) text)) = omega (arith, length-slice_split (λ (b : ℕ). b == 10) (after_first (λ b. b == 10) text)) in
        sym (join_with_byte-slice_split 10 text) ∙ ap (join_with_byte 10) e ∙ join_more _ _ some ∙ ap (λ (t : List ℕ). before_first (λ b. b == 10) text ++ 10 ∷ t) (join_with_byte-slice_split 10 (after_first (λ b. b == 10) text))

pub rest_is_less : (text rest : List ℕ) → rest ≡ after_first (λ b. b == 10) text → length rest ≤ length text
rest_is_less text rest e = rw e (omega (arith, length-drop (position_or_len (λ (b : ℕ). b == 10) text + 1) text))

-- ---- the body of a section, line by line

-- the parts behind a line that was cut off
parts_behind : (left new line : Numbered) (h : Heading) → CutsLine left line new → heading_of (words_of line.text) ≡ h → section_parts left ≡ behind_line h left.number line.text new.text (section_parts new)
parts_behind left new line h cut e =
    parts_of_line left.number left.text line.text new.text cut.text cut.rest
    ∙ ap (λ (k : Heading). behind_line k left.number line.text new.text (parts_from (left.number + 1) (lines_in new.text))) e
    ∙ ap (λ (n : ℕ). behind_line h left.number line.text new.text (parts_from n (lines_in new.text))) (sym cut.next)

-- the line ends the body
pub body_found : (start text : List ℕ) (old left new line : Numbered) (end : End) → IsInBody start old left → CutsLine left line new → start ≡ text ++ left.text
    → SectionLineOf line.number line.text (Ok (Some end)) → section_parts old ≡ add_front text (ended_by end new)
body_found start text old left new line end b cut e s =
    let front : b.front ≡ text = append_cancel_right b.front text left.text (sym b.whole ∙ e) in
    b.parts ∙ ap (λ (f : List ℕ). add_front f (section_parts left)) front ∙ ap (add_front text) (parts_behind left new line (heading_from (Some end)) cut s.0 ∙ ended left new line end cut s.1)
  where
    ended : (left new line : Numbered) (end : End) → CutsLine left line new → HasNumber line.number (Some end)
        → behind_line (heading_from (Some end)) left.number line.text new.text (section_parts new) ≡ ended_by end new
    ended left new line (ends.Class n loader name) cut e = ap (λ (k : ℕ). add_class k loader.now name (section_parts new)) (sym cut.number ∙ sym e)
    ended left new line ends.Script cut e = refl

-- the line belongs to the body
more_front : (front line : List ℕ) (r : Result Parts ℕ) → add_front front (add_line line r) ≡ add_front (front ++ (line ++ 10 ∷ [])) r
more_front front line (Ok p) = ap (λ (f : List ℕ). Ok (record { body = f; classes = p.classes; script = p.script })) (grind (arith, common_steps))
more_front front line (Err n) = refl

any_front : (front other line : List ℕ) (n : ℕ) (text : List ℕ) → text ≡ [] → add_front front (add_line line (parts_from n (lines_in text))) ≡ add_front other (parts_from n (lines_in text))
any_front front other line n text e = rw e refl

pub body_goes_on : (start : List ℕ) (old left new line : Numbered) → IsInBody start old left → CutsLine left line new → length new.text ≤ length left.text
    → heading_of (words_of line.text) ≡ InnerLine → IsInBody start old new
body_goes_on start old left new line b cut less h =
    let parts = b.parts ∙ ap (add_front b.front) (parts_behind left new line InnerLine cut h) in
    elim (text_of_line left.text line.text new.text cut.text cut.rest) [
      | inl e ↦ record {
        front = b.front ++ (line.text ++ 10 ∷ []);
        whole = b.whole ∙ ap (λ (t : List ℕ). b.front ++ t) e ∙ grind (arith, common_steps);
        parts = parts ∙ more_front b.front line.text (section_parts new);
        less = omega arith;
      }
      | inr e ↦ record {
        front = start;
        whole = sym (append-nil start) ∙ ap (λ (t : List ℕ). start ++ t) (sym e);
        parts = parts ∙ any_front b.front start line.text new.number new.text e;
        less = omega arith;
      }
    ]

-- ---- the line `%config`

abbrev pub after_line : ℕ → List ℕ → Result Cut ℕ → Result Parts ℕ → Result Cut ℕ
after_line n line cuts parts = if is_skipped line then cuts else if is_config (words_of line) then with_config parts else Err n

pub cuts_of_line : (n : ℕ) (text line rest : List ℕ) → line ≡ before_first (λ b. b == 10) text → rest ≡ after_first (λ b. b == 10) text
    → cut_from n (lines_in text) ≡ after_line n line (cut_from (n + 1) (lines_in rest)) (parts_from (n + 1) (lines_in rest))
cuts_of_line n text line rest before after =
    elim (first_part (λ (b : ℕ). b == 10) text) [
      | inl e ↦ rw (before, after, e) refl
      | inr e ↦ rw (before, after, e.2, e.1, e.0) refl
    ]

pub opens_at : (left new line : Numbered) → CutsLine left line new → is_skipped line.text ≡ false → is_config (words_of line.text) ≡ true → cuts_of left ≡ with_config (section_parts new)
opens_at left new line cut s k =
    cuts_of_line left.number left.text line.text new.text cut.text cut.rest ∙ rw (s, k, cut.next) refl

pub opens_wrong : (left new line : Numbered) → CutsLine left line new → is_skipped line.text ≡ false → is_config (words_of line.text) ≡ false → cuts_of left ≡ Err line.number
opens_wrong left new line cut s k =
    cuts_of_line left.number left.text line.text new.text cut.text cut.rest ∙ rw (s, k, cut.number) refl

pub opens_later : (left new line : Numbered) → CutsLine left line new → is_skipped line.text ≡ true → cuts_of left ≡ cuts_of new
opens_later left new line cut s =
    cuts_of_line left.number left.text line.text new.text cut.text cut.rest ∙ rw (s, cut.next) refl

pub opens_never : (left : Numbered) → left.text ≡ [] → cuts_of left ≡ Err 0
opens_never left e = ap (λ (t : List ℕ). cut_from left.number (lines_in t)) e

-- ---- section after section

abbrev pub add_parts : List Part → Result Parts ℕ → Result Parts ℕ
add_parts done (Ok p) = Ok (record { body = p.body; classes = done ++ p.classes; script = p.script })
add_parts done (Err n) = Err n

-- what a text gives is what was cut so far, and then what the line at hand begins
pub record IsCutSoFar (text : List ℕ) (config : List ℕ) (done : List Part) (end : End) (left : Numbered) : Type 0 where
  pub all : Result Parts ℕ
  pub opened : cut_of text ≡ with_config all
  pub so : all ≡ add_front config (add_parts done (ended_by end left))

pub cut_starts : (text : List ℕ) (config : List ℕ) (end : End) (first left : Numbered) → cut_of text ≡ with_config (section_parts first) → section_parts first ≡ add_front config (ended_by end left)
    → IsCutSoFar text config [] end left
cut_starts text config end first left o e = record { all = section_parts first; opened = o; so = e ∙ ap (add_front config) (none_yet (ended_by end left)) }
  where
    none_yet : (r : Result Parts ℕ) → r ≡ add_parts [] r
    none_yet (Ok p) = refl
    none_yet (Err n) = refl

-- the parts that a class section begins have its body, and then what its end begins
of_class : (n m : ℕ) (loader name text l k : List ℕ) (r : Result Parts ℕ)
    → add_class n loader name (add_front text (add_class m l k r)) ≡ add_parts (record { line = n; loader = loader; name = name; body = text } ∷ []) (add_class m l k r)
of_class n m loader name text l k (Ok p) = rw (append-nil text) refl
of_class n m loader name text l k (Err e) = refl

next_part : (n : ℕ) (loader name text : List ℕ) (end : End) (left : Numbered)
    → add_class n loader name (add_front text (ended_by end left)) ≡ add_parts (record { line = n; loader = loader; name = name; body = text } ∷ []) (ended_by end left)
next_part n loader name text (ends.Class m l k) left = of_class n m loader name text l.now k (section_parts left)
next_part n loader name text ends.Script left = rw (append-nil text) refl

parts_then : (done more : List Part) (r : Result Parts ℕ) → add_parts done (add_parts more r) ≡ add_parts (done ++ more) r
parts_then done more (Ok p) = ap (λ (c : List Part). Ok (record { body = p.body; classes = c; script = p.script })) (sym (append_assoc done more p.classes))
parts_then done more (Err n) = refl

pub cut_goes_on : (whole : List ℕ) (config : List ℕ) (done : List Part) (n : ℕ) (loader : Bor (List ℕ)) (name text : List ℕ) (end : End) (left new : Numbered)
    → IsCutSoFar whole config done (ends.Class n loader name) left → section_parts left ≡ add_front text (ended_by end new)
    → IsCutSoFar whole config (done ++ record { line = n; loader = loader.now; name = name; body = text } ∷ []) end new
cut_goes_on whole config done n loader name text end left new s e = record {
  all = s.all;
  opened = s.opened;
  so = s.so ∙ ap (λ (r : Result Parts ℕ). add_front config (add_parts done (add_class n loader.now name r))) e
      ∙ ap (λ (r : Result Parts ℕ). add_front config (add_parts done r)) (next_part n loader.now name text end new)
      ∙ ap (add_front config) (parts_then done (record { line = n; loader = loader.now; name = name; body = text } ∷ []) (ended_by end new));
}

pub cut_ends : (text : List ℕ) (config : List ℕ) (done : List Part) (left : Numbered) → IsCutSoFar text config done ends.Script left
    → cut_of text ≡ Ok (record { config = config; classes = done; script = left.text })
cut_ends text config done left s = s.opened ∙ ap with_config s.so ∙ rw (append-nil config, append-nil done) refl

-- a wrong line is wrong for all
err_after : (m n : ℕ) (config loader name : List ℕ) (done : List Part) (r : Result Parts ℕ) → r ≡ Err m → with_config (add_front config (add_parts done (add_class n loader name r))) ≡ Err m
err_after m n config loader name done r e = rw e refl

same_wrong : {A B : Type 0} (r : Result A ℕ) (s : Result B ℕ) (fault : BundleFault) → ((m : ℕ) → r ≡ Err m → s ≡ Err m) → IsWrongLine r fault → IsWrongLine s fault
same_wrong r s (BadLine m) f e = f m e
same_wrong r s Memory f e = tt
same_wrong r s fault f e = absurd e

pub cut_wrong : (text : List ℕ) (config : List ℕ) (done : List Part) (n : ℕ) (loader : Bor (List ℕ)) (name : List ℕ) (left : Numbered) (fault : BundleFault)
    → IsCutSoFar text config done (ends.Class n loader name) left → IsWrongLine (section_parts left) fault → IsWrongLine (cut_of text) fault
cut_wrong text config done n loader name left fault s e =
    same_wrong (section_parts left) (cut_of text) fault (λ m w. s.opened ∙ ap with_config s.so ∙ err_after m n config loader.now name done (section_parts left) w) e

pub cut_err : (text : List ℕ) (r : Result Sections BundleFault) (fault : BundleFault) → IsErrAnd r (λ e. e ≡ fault) → IsWrongLine (cut_of text) fault → CutOf text r
cut_err text (Ok s) fault e w = absurd e
cut_err text (Err f) fault e w = subst (λ (g : BundleFault). IsWrongLine (cut_of text) g) (sym e) w
