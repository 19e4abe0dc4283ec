-- What all lines want, one kind of line after another.
use Rattle.std.proofs.Common.{◌≡◌, ℕ, List, [], ◌++◌, Result, Ok, Err, fold, ap, ◌∙◌}
use Rattle.std.specs.Prelude.{IfOk, option_to_list}
use Rattle.std.specs.List.{flat_map}
use Rattle.std.proofs.lemmas.List.Sums.{fold-append}
use Rattle.cl_writer.specs.declared.item.Item.{Item}
use Rattle.cl_writer.specs.declared.statement.MemberLine.{MemberLine}
use Rattle.cl_writer.specs.Assemblies.{ListedClass}
use Rattle.cl_writer.specs.Items.{with_item, wanted_items, class_wanted, line_wanted, items_of}

joined : (f : List Item → Item → List Item) (r a b c d e g : List Item)
    → fold f (fold f (fold f (fold f (fold f (fold f r a) b) c) d) e) g ≡ fold f r (a ++ (b ++ (c ++ (d ++ (e ++ g)))))
joined f r a b c d e g = simp fold-append

pub all_items : {E : Type 0} (l : ListedClass) (none named a b c d e g : List Item) (interfaces : List (List ℕ)) (fields methods : List MemberLine) (r : Result (List Item) E)
    → none ≡ [] → named ≡ l.references → interfaces ≡ l.interfaces → fields ≡ l.fields → methods ≡ l.methods
    → a ≡ none ++ named → b ≡ fold with_item a (flat_map wanted_items named) → c ≡ fold with_item b (class_wanted l.class.name)
    → d ≡ fold with_item c (flat_map class_wanted (option_to_list l.class.superclass)) → e ≡ fold with_item d (flat_map class_wanted interfaces)
    → g ≡ fold with_item e (flat_map line_wanted fields) → IfOk r (λ t. t ≡ fold with_item g (flat_map line_wanted methods)) → IfOk r (λ t. t ≡ items_of l)
all_items l none named a b c d e g interfaces fields methods (Err x) e1 e2 e3 e4 e5 p q s t u v w = tt
all_items l none named a b c d e g interfaces fields methods (Ok x) e1 e2 e3 e4 e5 p q s t u v w =
    let start : a ≡ l.references = p ∙ ap (λ n. n ++ named) e1 ∙ e2 in
    let one : b ≡ fold with_item l.references (flat_map wanted_items l.references) = q ∙ ap (λ n. fold with_item n (flat_map wanted_items named)) start ∙ ap (λ n. fold with_item l.references (flat_map wanted_items n)) e2 in
    let two : e ≡ fold with_item d (flat_map class_wanted l.interfaces) = u ∙ ap (λ n. fold with_item d (flat_map class_wanted n)) e3 in
    let three : g ≡ fold with_item e (flat_map line_wanted l.fields) = v ∙ ap (λ n. fold with_item e (flat_map line_wanted n)) e4 in
    let four : x ≡ fold with_item g (flat_map line_wanted l.methods) = w ∙ ap (λ n. fold with_item g (flat_map line_wanted n)) e5 in
    four
    ∙ ap (λ n. fold with_item n (flat_map line_wanted l.methods)) (three ∙ ap (λ n. fold with_item n (flat_map line_wanted l.fields)) (two ∙ ap (λ n. fold with_item n (flat_map class_wanted l.interfaces)) (t ∙ ap (λ n. fold with_item n (flat_map class_wanted (option_to_list l.class.superclass))) (s ∙ ap (λ n. fold with_item n (class_wanted l.class.name)) one))))
    ∙ joined with_item l.references (flat_map wanted_items l.references) (class_wanted l.class.name) (flat_map class_wanted (option_to_list l.class.superclass)) (flat_map class_wanted l.interfaces) (flat_map line_wanted l.fields) (flat_map line_wanted l.methods)
