use Rattle.std.proofs.Common.{refl, arith}
use Rattle.cl_classfile.specs.declared.fault.Fault.TheVariants as faults
use Rattle.cl_classfile.proofs.Header.{magic_says, magic_told, version_says, version_told}
use Rattle.cl_classfile.proofs.Exact.{is_found, is_only, is_early}
use Rattle.cl_classfile.proofs.file.read.Goals as goal

pub returns-clause-found : goal.returns-clause-found
returns-clause-found c = is_found c.args.bytes.now c.read_of.result (λ i. omega (arith, c.type_inv.bytes i)) c.read_of.ensures.exact

pub returns-clause-only : goal.returns-clause-only
returns-clause-only c = λ f s. is_only c.args.bytes.now c.read_of.result f c.read_of.ensures.exact s

pub returns-clause-magic : goal.returns-clause-magic
returns-clause-magic c =
    let bytes = c.args.bytes.now in (
      λ e. magic_says bytes (λ i. omega (arith, c.type_inv.bytes i)) (is_early bytes c.read_of.result faults.BadMagic refl c.read_of.ensures.exact e),
      λ h. c.read_of.ensures.early faults.BadMagic (magic_told bytes (λ i. omega (arith, c.type_inv.bytes i)) h),
    )

pub returns-clause-version : goal.returns-clause-version
returns-clause-version c =
    let bytes = c.args.bytes.now in (
      λ e. version_says bytes (λ i. omega (arith, c.type_inv.bytes i)) (is_early bytes c.read_of.result faults.Version refl c.read_of.ensures.exact e),
      λ h. c.read_of.ensures.early faults.Version (version_told bytes (λ i. omega (arith, c.type_inv.bytes i)) h),
    )
