-- The lines of a class file, passed page by page.
use Rattle.std.proofs.Common.{◌≡◌, ℕ, List, [], ◌++◌, Option, sym, subst}
use Rattle.cl_streams.specs.Writing.{AppendsPart, Passes}
use Rattle.cl_streams.proofs.Written.{part_more, passes_none, passes_then, refused_next}

-- the class line waits
pub class_waits : (o : Option (List ℕ)) (w a : List ℕ) → w ≡ a → Passes o [] o w a
class_waits o w a e = subst (λ (x : List ℕ). Passes o [] o x a) (sym e) (passes_none o [] a)

pub at_interfaces : (o n : Option (List ℕ)) (w a b c d : List ℕ) → Passes o [] o w a → AppendsPart o n (w ++ b) → AppendsPart o n (((a ++ b) ++ c) ++ d)
at_interfaces o n w a b c d p q = part_more o n ((a ++ b) ++ c) d (part_more o n (a ++ b) c (refused_next o o n w a b p q))

pub at_fields : (o m n : Option (List ℕ)) (w w2 a b c d : List ℕ) → Passes o [] o w a → Passes o w m w2 b → AppendsPart m n (w2 ++ c) → AppendsPart o n (((a ++ b) ++ c) ++ d)
at_fields o m n w w2 a b c d p q r = part_more o n ((a ++ b) ++ c) d (refused_next o m n w2 (a ++ b) c (passes_then o o m [] w w2 a b p q) r)

pub before_methods : (o m k : Option (List ℕ)) (w w2 w3 a b c : List ℕ) → Passes o [] o w a → Passes o w m w2 b → Passes m w2 k w3 c → Passes o [] k w3 ((a ++ b) ++ c)
before_methods o m k w w2 w3 a b c p q r = passes_then o m k [] w2 w3 (a ++ b) c (passes_then o o m [] w w2 a b p q) r
