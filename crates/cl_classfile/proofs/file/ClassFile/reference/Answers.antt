use Rattle.std.proofs.Common.{◌≡◌, List, ap, sym, ◌∙◌}
use Rattle.std.specs.Prelude.{is_some}
use Rattle.std.specs.Option.{option_map, option_and_then}
use Rattle.cl_classfile.specs.declared.entry.Entry.{Entry}
use Rattle.cl_classfile.specs.Structure.{Structure, at}
use Rattle.cl_classfile.specs.Files.{citation_of, typed_reference, reference, file_of}
use Rattle.cl_classfile.specs.References.{plain_reference, refers}
use Rattle.cl_classfile.specs.View.{structure}
use Rattle.cl_classfile.proofs.References.{value_is, some_is, sound_is, map_some, each_sound}
use Rattle.cl_classfile.proofs.file.ClassFile.reference.Goals as goal

pub returns-clause-value : goal.returns-clause-value
returns-clause-value c =
    let cites : option_map plain_reference c.reference_at.result ≡ option_and_then (citation_of c.self.inside.parts.pool.items) (at c.self.inside.parts.pool.items c.args.index) =
    c.reference_at.ensures ∙ ap (λ (es : List Entry). option_and_then (citation_of es) (at es c.args.index)) c.as_slice.ensures.value in
    ap (option_and_then typed_reference) cites ∙ value_is (structure c.self.inside) c.args.index ∙ ap (λ (f : Structure). reference (file_of f) c.args.index) c.self.view_is

pub returns-clause-some : goal.returns-clause-some
returns-clause-some c =
    let cites : option_map plain_reference c.reference_at.result ≡ option_and_then (citation_of c.self.inside.parts.pool.items) (at c.self.inside.parts.pool.items c.args.index) =
    c.reference_at.ensures ∙ ap (λ (es : List Entry). option_and_then (citation_of es) (at es c.args.index)) c.as_slice.ensures.value in
    sym (map_some plain_reference c.reference_at.result) ∙ ap is_some cites ∙ some_is c.self.inside.parts.pool.items (c.self.inside.parts.version.major, c.self.invariant.0.kept.pool) c.args.index ∙ ap (λ (f : Structure). refers (at f.pool c.args.index)) c.self.view_is

pub returns-clause-sound : goal.returns-clause-sound
returns-clause-sound c =
    let cites : option_map plain_reference c.reference_at.result ≡ option_and_then (citation_of c.self.inside.parts.pool.items) (at c.self.inside.parts.pool.items c.args.index) =
    c.reference_at.ensures ∙ ap (λ (es : List Entry). option_and_then (citation_of es) (at es c.args.index)) c.as_slice.ensures.value in
    each_sound plain_reference c.reference_at.result _ cites (sound_is c.self.inside.parts.pool.items (c.self.inside.parts.version.major, c.self.invariant.0.kept.pool) c.args.index)
