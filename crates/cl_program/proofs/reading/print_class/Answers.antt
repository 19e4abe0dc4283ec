use Rattle.std.proofs.Common.{refl}
use Rattle.cl_writer.specs.Listings.{listing_of}
use Rattle.cl_program.specs.Faults.{print_fault}
use Rattle.cl_program.proofs.Listing.{by_bytes, by_class, by_writing, read_wrong}
use Rattle.cl_program.proofs.reading.print_class.Goals as goal

pub returns-in_err-bytes : goal.returns-in_err-bytes
returns-in_err-bytes g c = read_wrong (g.F.ReadFile.gives c.args.files.now c.args.path.now) c.args.path.now _ c.from_residual.result c.in_err-bytes.field-0.0 c.from_residual.ensures.1 (by_bytes _ _ _ _ c.in_err-bytes.ensures.err)

pub returns-in_err-file : goal.returns-in_err-file
returns-in_err-file g c =
    read_wrong (g.F.ReadFile.gives c.args.files.now c.args.path.now) c.args.path.now _ c.from_residual-in_err-file.result c.in_err-file.field-0.0 c.from_residual-in_err-file.ensures.1
    (by_class _ _ _ c.in_ok-bytes.bytes.items c.in_err-file.field-0.0 c.in_ok-bytes.ensures.ok
    (rw c.as_slice.ensures.value at c.in_err-file.ensures.err))

pub returns-in_err-print_listing : goal.returns-in_err-print_listing
returns-in_err-print_listing g c =
    read_wrong (g.F.ReadFile.gives c.args.files.now c.args.path.now) c.args.path.now _ c.from_residual-in_err-print_listing.result (print_fault c.in_err-print_listing.field-0.0) c.from_residual-in_err-print_listing.ensures.1
    (by_writing _ _ _ _ _
    (record { bytes = c.in_ok-bytes.bytes.items; content = c.in_ok-bytes.ensures.ok; listing = record { file = c.in_ok-file.file; read = rw c.as_slice.ensures.value at c.in_ok-file.ensures.ok; are = refl } })
    c.in_err-print_listing.ensures.part)

pub returns : goal.returns
returns g c = record {
  lines = listing_of c.in_ok-file.file;
  are = record { bytes = c.in_ok-bytes.bytes.items; content = c.in_ok-bytes.ensures.ok; listing = record { file = c.in_ok-file.file; read = rw c.as_slice.ensures.value at c.in_ok-file.ensures.ok; are = refl } };
  whole = c.in_ok-print_listing.ensures.lines;
}
