-- What a writer took, step by step.
use Rattle.std.proofs.Common.{◌≡◌, Bool, true, false, All, if◌then◌else◌, ℕ, ◌+◌, ◌<◌, List, [], ◌∷◌, ◌++◌, length, take, drop, get_or, Option, Some, None, Result, Ok, Err, OnOk, OnErr, refl, sym, ap, subst, ◌∙◌, add-one, append_assoc, append-nil, drop-cons}
use Rattle.std.specs.List.{enumerate_from, flat_map}
use Rattle.std.proofs.lemmas.List.FromFn.{get_or-enumerate_from}
use Rattle.std.proofs.Math.Seq.{take-add}
use Rattle.std.proofs.lemmas.Grind.{flat_map-append}
use Rattle.std.proofs.lemmas.List.{take-append-drop, take_more}
use Rattle.std.proofs.lemmas.List.Elements.{All-nil}
use Rattle.std.specs.Io.KnownBytes.{Appends, Keeps}
use Rattle.cl_streams.specs.Writing.{AppendsPart, Passes}

pub appends_nothing : (o : Option (List ℕ)) → Appends o o []
appends_nothing None = tt
appends_nothing (Some xs) = sym (append-nil xs)

pub appends_then : (o m n : Option (List ℕ)) (a b : List ℕ) → Appends o m a → Appends m n b → Appends o n (a ++ b)
appends_then None m n a b p q = tt
appends_then (Some xs) None n a b p q = absurd p
appends_then (Some xs) (Some ys) None a b p q = absurd q
appends_then (Some xs) (Some ys) (Some zs) a b p q = q ∙ ap (λ (f : List ℕ). f ++ b) p ∙ append_assoc xs a b

pub keeps_all : (o m : Option (List ℕ)) → Keeps o m → Appends o m []
keeps_all None m p = tt
keeps_all (Some xs) None p = absurd p
keeps_all (Some xs) (Some ys) p = p ∙ sym (append-nil xs)

-- more of the bytes are written
pub sent_more : (o m n : Option (List ℕ)) (bytes : List ℕ) (sent count : ℕ) → Appends o m (take sent bytes) → Appends m n (take count (drop sent bytes))
    → Appends o n (take (sent + count) bytes)
sent_more o m n bytes sent count p q = rw (take-add sent count bytes) (appends_then o m n (take sent bytes) (take count (drop sent bytes)) p q)

-- no more of the bytes is written
pub sent_part : (o m n : Option (List ℕ)) (bytes : List ℕ) (sent : ℕ) → Appends o m (take sent bytes) → Appends m n [] → AppendsPart o n bytes
sent_part o m n bytes sent p q = record {
  front = take sent bytes ++ [];
  rest = drop sent bytes;
  whole = sym (take-append-drop sent bytes) ∙ ap (λ (f : List ℕ). f ++ drop sent bytes) (sym (append-nil (take sent bytes)));
  grown = appends_then o m n (take sent bytes) [] p q;
}

-- the bytes wait
pub passes_none : (o : Option (List ℕ)) (w b : List ℕ) → Passes o w o (w ++ b) b
passes_none o w b = record { front = []; whole = refl; grown = appends_nothing o }

-- all that waited is written
pub passes_out : (o n : Option (List ℕ)) (w b : List ℕ) → Appends o n (w ++ b) → Passes o w n [] b
passes_out o n w b p = record { front = w ++ b; whole = sym (append-nil (w ++ b)); grown = p }

joined : (w a b front w1 back end : List ℕ) → w ++ a ≡ front ++ w1 → w1 ++ b ≡ back ++ end → w ++ (a ++ b) ≡ (front ++ back) ++ end
joined w a b front w1 back end p q =
    sym (append_assoc w a b) ∙ ap (λ (f : List ℕ). f ++ b) p ∙ append_assoc front w1 b ∙ ap (λ (f : List ℕ). front ++ f) q ∙ sym (append_assoc front back end)

pub passes_then : (o m n : Option (List ℕ)) (w w1 w2 a b : List ℕ) → Passes o w m w1 a → Passes m w1 n w2 b → Passes o w n w2 (a ++ b)
passes_then o m n w w1 w2 a b p q = record {
  front = p.front ++ q.front;
  whole = joined w a b p.front w1 q.front w2 p.whole q.whole;
  grown = appends_then o m n p.front q.front p.grown q.grown;
}

-- what passed by then is a first part
pub passes_part : (o m : Option (List ℕ)) (w w1 a b : List ℕ) → Passes o w m w1 a → AppendsPart o m (w ++ (a ++ b))
passes_part o m w w1 a b p = record {
  front = p.front;
  rest = w1 ++ b;
  whole = sym (append_assoc w a b) ∙ ap (λ (f : List ℕ). f ++ b) p.whole ∙ append_assoc p.front w1 b;
  grown = p.grown;
}

-- so is a first part of what is next
pub passes_refused : (o m n : Option (List ℕ)) (w w1 a b c : List ℕ) → Passes o w m w1 a → AppendsPart m n (w1 ++ b) → AppendsPart o n (w ++ (a ++ (b ++ c)))
passes_refused o m n w w1 a b c p q =
    let next : w1 ++ (b ++ c) ≡ q.front ++ (q.rest ++ c) = sym (append_assoc w1 b c) ∙ ap (λ (f : List ℕ). f ++ c) q.whole ∙ append_assoc q.front q.rest c in
    record {
      front = p.front ++ q.front;
      rest = q.rest ++ c;
      whole = joined w a (b ++ c) p.front w1 q.front (q.rest ++ c) p.whole next;
      grown = appends_then o m n p.front q.front p.grown q.grown;
    }

-- the rest is written, too
pub passes_all : (o m n : Option (List ℕ)) (w1 a : List ℕ) → Passes o [] m w1 a → Appends m n w1 → Appends o n a
passes_all o m n w1 a p q = rw p.whole (appends_then o m n p.front w1 p.grown q)

pub refused_last : (o m n : Option (List ℕ)) (w1 a : List ℕ) → Passes o [] m w1 a → AppendsPart m n w1 → AppendsPart o n a
refused_last o m n w1 a p q = record {
  front = p.front ++ q.front;
  rest = q.rest;
  whole = p.whole ∙ ap (λ (f : List ℕ). p.front ++ f) q.whole ∙ sym (append_assoc p.front q.front q.rest);
  grown = appends_then o m n p.front q.front p.grown q.grown;
}

-- ---- the lines of a list's elements

pub lines_before : {X : Type 0} (f : X → List ℕ) (xs : List X) (i : ℕ) → flat_map f (take i xs) ++ flat_map f (drop i xs) ≡ flat_map f xs
lines_before f xs i = sym (flat_map-append f (take i xs) (drop i xs)) ∙ ap (flat_map f) (take-append-drop i xs)

pub lines_from : {X : Type 0} (f : X → List ℕ) (xs : List X) (i : ℕ) (x : X) → i < length xs → x ≡ get_or xs i x
    → flat_map f (take i xs) ++ (f x ++ flat_map f (drop (i + 1) xs)) ≡ flat_map f xs
lines_from {X = X} f xs i x h e =
    let place : drop i xs ≡ x ∷ drop (i + 1) xs = drop-cons xs i x h ∙ ap (λ (n : ℕ). get_or xs i x ∷ drop n xs) (sym (add-one i)) ∙ ap (λ (y : X). y ∷ drop (i + 1) xs) (sym e) in
    ap (λ (ys : List X). flat_map f (take i xs) ++ flat_map f ys) (sym place) ∙ lines_before f xs i

pub lines_to : {X : Type 0} (f : X → List ℕ) (xs : List X) (i : ℕ) (x : X) → i < length xs → x ≡ get_or xs i x
    → flat_map f (take (i + 1) xs) ≡ flat_map f (take i xs) ++ f x
lines_to {X = X} f xs i x h e =
    let last : take (i + 1) xs ≡ take i xs ++ x ∷ [] = take_more xs i x h ∙ ap (λ (y : X). take i xs ++ y ∷ []) (sym e) in
    ap (flat_map f) last ∙ flat_map-append f (take i xs) (x ∷ []) ∙ ap (λ (b : List ℕ). flat_map f (take i xs) ++ b) (append-nil (f x))

-- what passed and what was refused after it, where nothing waited at first
pub refused_next : (o m n : Option (List ℕ)) (w1 a b : List ℕ) → Passes o [] m w1 a → AppendsPart m n (w1 ++ b) → AppendsPart o n (a ++ b)
refused_next o m n w1 a b p q = subst (λ (f : List ℕ). AppendsPart o n (a ++ f)) (append-nil b) (passes_refused o m n [] w1 a b [] p q)

pub part_more : (o n : Option (List ℕ)) (a b : List ℕ) → AppendsPart o n a → AppendsPart o n (a ++ b)
part_more o n a b p = record {
  front = p.front;
  rest = p.rest ++ b;
  whole = ap (λ (f : List ℕ). f ++ b) p.whole ∙ append_assoc p.front p.rest b;
  grown = p.grown;
}

-- ---- results

pub on_err : {A E : Type 0} (r : Result A E) (P : Type 0) → P → OnErr r P
on_err (Ok x) P p = tt
on_err (Err e) P p = p

-- ---- nothing written, and answers with their numbers

pub part_none : (o : Option (List ℕ)) (bytes : List ℕ) → AppendsPart o o bytes
part_none o bytes = record { front = []; rest = bytes; whole = refl; grown = appends_nothing o }

pub numbered_at : {X : Type 0} (n : ℕ) (xs : List X) (i k : ℕ) (x : X) → i < length xs → x ≡ get_or xs i x → k ≡ n + i
    → (k, x) ≡ get_or (enumerate_from n xs) i (k, x)
numbered_at n xs i k x h e q = let found = get_or-enumerate_from n xs i (k, x) h in cc

pub all_shown : {X : Type 0} (P : X → Type 0) (only : Bool) (xs : List X) → All P xs → All P (if only then [] else xs)
all_shown P true xs h = All-nil P
all_shown P false xs h = h

pub on_ok_by : {A E : Type 0} (r : Result A E) (P Q : Type 0) → (P → Q) → OnOk r P → OnOk r Q
on_ok_by (Ok x) P Q f p = f p
on_ok_by (Err e) P Q f p = tt

pub on_err_by : {A E : Type 0} (r : Result A E) (P Q : Type 0) → (P → Q) → OnErr r P → OnErr r Q
on_err_by (Ok x) P Q f p = tt
on_err_by (Err e) P Q f p = f p

-- ---- a line put behind what waits, and then a page passed

pub passes_after : (o n : Option (List ℕ)) (w w1 w2 b : List ℕ) → w1 ≡ w ++ b → Passes o w1 n w2 [] → Passes o w n w2 b
passes_after o n w w1 w2 b e p = record { front = p.front; whole = sym e ∙ sym (append-nil w1) ∙ p.whole; grown = p.grown }

pub part_after : (o n : Option (List ℕ)) (w w1 b : List ℕ) → w1 ≡ w ++ b → AppendsPart o n w1 → AppendsPart o n (w ++ b)
part_after o n w w1 b e p = subst (AppendsPart o n) e p
