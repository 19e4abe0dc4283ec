use Rattle.std.proofs.Common.{◌≡◌, ◌++◌, string_bytes}
use Rattle.std.specs.List.{concat}
use Rattle.cl_lines.specs.Lines.{words_of}
use Rattle.cl_bundle.proofs.bundle.push_words.Given as goal

abbrev pub invariant-loop-word : goal.invariant-loop-word
invariant-loop-word l = string_bytes l.digits ++ concat (words_of l.word-iterator) ≡ string_bytes l.initial.digits ++ concat (words_of l.fn.words)
