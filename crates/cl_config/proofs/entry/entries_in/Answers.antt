use Rattle.std.proofs.Common.{◌∙◌, ◌++◌, ◌∷◌, length, map, [], List, ℕ, refl, sym, ap}
use Rattle.std.proofs.lemmas.List.{map-append}
use Rattle.std.proofs.lemmas.Result.{err_from_is_err_and}
use Rattle.cl_config.specs.declared.fault.ConfigFault.TheVariants.{BadLoader}
use Rattle.cl_config.specs.Entries.{Entry, entry_of}
use Rattle.cl_config.proofs.Each.{each_is, goes_on, ends, is_done}
use Rattle.cl_config.proofs.entry.entries_in.Goals as goal

pub loop-value-init : goal.loop-value-init
loop-value-init c = rw (c.new-loaders.ensures.items, c.new-names.ensures) (record { count = refl; rest = each_is (λ before. entry_of (BadLoader (length before)) (map (λ (e : Entry). e.name) before)) [] c.args.values.now }, refl)

pub returns-in_err-loader-clause-loaders : goal.returns-in_err-loader-clause-loaders
returns-in_err-loader-clause-loaders c =
    let p = err_from_is_err_and c.from_residual.result c.from_residual.ensures.1 in
    rw (p.1, p.2) (ends _ c.in_err-loader.field-0.0 _ _ _ c.value-item.result _ c.loop-value-test.true c.value-item.is (rw (c.as_slice-before.ensures.value, c.loop-value.invariant.1) at c.in_err-loader.ensures.entry) c.loop-value.invariant.0)

pub loop-value-preserved : goal.loop-value-preserved
loop-value-preserved c = (
  goes_on _ _ _ _ _ c.value-item.result c.in_ok-loader.loader _ c.loop-value-test.true c.value-item.is (rw (c.as_slice-before.ensures.value, c.loop-value.invariant.1) at c.in_ok-loader.ensures.entry) c.in_ok-push.ensures.items c.loop-value.invariant.0,
  c.in_ok-loader.ensures.names ∙ ap (λ (ns : List (List ℕ)). ns ++ c.in_ok-loader.loader.name ∷ []) c.loop-value.invariant.1
      ∙ sym (map-append (λ (e : Entry). e.name) c.loop-value.loaders.items (c.in_ok-loader.loader ∷ []))
      ∙ ap (map (λ (e : Entry). e.name)) (sym c.in_ok-push.ensures.items),
)

pub returns-clause-loaders : goal.returns-clause-loaders
returns-clause-loaders c = is_done _ _ _ _ _ c.loop-value-test.false c.loop-value.invariant.0
