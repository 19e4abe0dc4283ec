-- What lines describe: a class file, or parts that are none.
use Rattle.std.proofs.Common.{◌≡◌, ◌+◌, ◌<◌, ◌^◌, ℕ, Bool, true, false, ◌&&◌, List, length, Ok, Err, refl, sym, ap, ◌∙◌, arith}
use Rattle.std.proofs.lemmas.Bool.Decides.{nat_tests}
use Rattle.std.proofs.lemmas.List.{length-map}
use Rattle.cl_lines.specs.Lines.{Numbered}
use Rattle.cl_classfile.specs.declared.fault.Fault.{Fault}
use Rattle.cl_classfile.specs.declared.fault.Fault.TheVariants.{BadPool, Version}
use Rattle.cl_classfile.specs.declared.version.Version as classfile
use Rattle.cl_classfile.specs.Versions.{is_supported}
use Rattle.cl_classfile.specs.Structure.{Structure, Spells, spelling}
use Rattle.cl_classfile.specs.Widths.{is_short}
use Rattle.cl_classfile.specs.Checking.{checked_pool, checked_version, parts_of}
use Rattle.cl_writer.specs.declared.item.Item.{Item}
use Rattle.cl_writer.specs.Assemblies.{ListedClass, IsRead, version_of}
use Rattle.cl_writer.specs.Items.{items_of}
use Rattle.cl_writer.specs.Described.{described_file, described_over, entry_of}
use Rattle.cl_writer.specs.Assembled.{IsAssembled, IsInvalid}
use Rattle.cl_writer.specs.Listings.{listing_of}
use Rattle.cl_writer.proofs.Standing.{printed_so}
use Rattle.cl_classfile.specs.declared.limits.TheConstants.{MOST_ENTRIES}

no_count : (n : ℕ) → MOST_ENTRIES < n → is_short (n + 1) ≡ false
no_count n many = grind (arith, nat_tests)

-- the version is looked at first
not_read : (short b : Bool) → b ≡ false → (short && b) ≡ false
not_read true b e = e
not_read false b e = refl

other_version : (f : Structure) → is_supported f.version ≡ false → parts_of f ≡ Err Version
unfolding parts_of
other_version f other = rw (not_read (is_short f.version.minor && is_short f.version.major) (is_supported f.version) other) refl

pub unread : (lines : List Numbered) (l : ListedClass) (v : classfile.Version) → IsRead lines l → v ≡ version_of l → is_supported v ≡ false → IsInvalid lines Version
unread lines l v read is other = record { listed = l; read = read; first = other_version (described_file l) (ap is_supported (sym is) ∙ other) }

two_bytes : (n : ℕ) → n < 2 ^ 16 → is_short n ≡ true
two_bytes n h = grind (arith, nat_tests)

read_version : (v : classfile.Version) → v.minor < 2 ^ 16 → v.major < 2 ^ 16 → is_supported v ≡ true → checked_version v ≡ Ok tt
read_version v minor major read = rw (two_bytes v.minor minor, two_bytes v.major major, read) refl

-- a pool of which no count can say how many entries it has is the first fault of parts of a version that is read
too_long : (f : Structure) → checked_version f.version ≡ Ok tt → is_short (length f.pool + 1) ≡ false → parts_of f ≡ Err (BadPool 0)
unfolding checked_pool parts_of
too_long f read long = rw (read, long) refl

pub too_many : (lines : List Numbered) (l : ListedClass) (items : List Item) (v : classfile.Version) → IsRead lines l → v ≡ version_of l → v.minor < 2 ^ 16 → v.major < 2 ^ 16 → is_supported v ≡ true → items ≡ items_of l → MOST_ENTRIES < length items → IsInvalid lines (BadPool 0)
too_many lines l items v read same minor major supported is many = record {
  listed = l;
  read = read;
  first = too_long (described_file l) (ap checked_version (sym same) ∙ read_version v minor major supported) (ap (λ n. is_short (n + 1)) (length-map (items_of l) (entry_of (items_of l)) ∙ sym (ap length is)) ∙ no_count (length items) many);
}

pub faulty : (lines : List Numbered) (l : ListedClass) (items : List Item) (parts : Structure) (fault : Fault) → IsRead lines l → items ≡ items_of l → parts ≡ described_over items l → parts_of parts ≡ Err fault → IsInvalid lines fault
faulty lines l items parts fault read is same first = record {
  listed = l;
  read = read;
  first = ap parts_of (sym (same ∙ ap (λ i. described_over i l) is)) ∙ first;
}

pub made : (lines : List Numbered) (l : ListedClass) (items : List Item) (parts file : Structure) → IsRead lines l → items ≡ items_of l → parts ≡ described_over items l → (file ≡ parts) × Spells (spelling file) file → parts_of parts ≡ Ok file
    → IsAssembled lines file
made lines l items parts file read is same found kept =
    let described_so : parts ≡ described_file l = same ∙ ap (λ i. described_over i l) is in
    record {
      listed = l;
      read = read;
      is = found.0 ∙ described_so;
      kept = ap parts_of (sym described_so) ∙ kept;
      spelled = found.1;
      printed = ap listing_of (found.0 ∙ described_so) ∙ printed_so l;
    }
