-- The lines of output of the commands.
use Rattle.std.specs.Prelude.{ℕ, List, ◌++◌, length, Option, Some, None, codes, decimal}
use Rattle.rkyv_base.specs.declared.errors.VerifyError.{VerifyError}
use Rattle.rkyv_base.specs.declared.errors.WriteError.{WriteError}
use Rattle.rkyv_dict.specs.declared.form.Form.{Form}
use Rattle.rkyv_dict.specs.Archives.{line, listing, misplaced_count, value_found, value_line}
use Rattle.rkyv_dict.specs.Errors.{verify_error_text, write_error_text}
use Rattle.rkyv_dict.specs.First.{first_value_text}
use Rattle.rkyv_dict.specs.Forms.{LookupKey, Pairs}
use Rattle.rkyv_dict.specs.Hex.{hex_of}
use Rattle.rkyv_dict.specs.States.{Archived}

-- the line of a line that is no request
abbrev pub bad_line : List ℕ
bad_line = line (codes "error 10 BadLine")

-- the output for the archive, or the line of error 11 without one
abbrev pub archive_output : (Archived → List ℕ) → Option Archived → List ℕ
archive_output print None = line (codes "error 11 NoArchive")
archive_output print (Some archived) = print archived

-- the line of the archive's bytes in hexadecimal digits
abbrev pub hex_line : Archived → List ℕ
hex_line archived = line (hex_of archived.bytes)

-- the text of the value of `key`: in a built archive that of its first pair.
-- In an archive from `check`, it is the value that a lookup finds.
abbrev pub value_in : Form → List ℕ → Option Pairs → LookupKey → Option (List ℕ)
value_in form bytes None key = value_found form bytes key
value_in form bytes (Some pairs) key = first_value_text pairs key

-- the line of the value of `key`
abbrev pub get_line : Form → LookupKey → Archived → List ℕ
get_line form key archived = value_line (value_in form archived.bytes archived.built_of key)

-- the lines of the archive's pairs
abbrev pub list_lines : Form → Archived → List ℕ
list_lines form archived = listing form archived.bytes

-- the line of the number of misplaced keys
abbrev pub audit_line : Form → Archived → List ℕ
audit_line form archived = line (codes "misplaced "
    ++ decimal (misplaced_count form archived.bytes))

-- the line of the length of a built archive, in bytes
abbrev pub built_line : List ℕ → List ℕ
built_line bytes = line (codes "built " ++ decimal (length bytes))

-- the line of a write error
abbrev pub error_line : {F : Type 0} → WriteError F → List ℕ
error_line cause = line (codes "error " ++ write_error_text cause)

-- the line of the number of pairs of a valid archive
abbrev pub ok_line : ℕ → List ℕ
ok_line count = line (codes "ok " ++ decimal count)

-- the line of a validation error
abbrev pub verify_error_line : VerifyError → List ℕ
verify_error_line error = line (codes "refused " ++ verify_error_text error)
