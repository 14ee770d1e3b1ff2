-- What a shelf in memory keeps in its lists.
use Rattle.std.specs.Prelude.{ℕ, List, map, string_bytes}
use Rattle.wi_base.specs.declared.memory_shelf.NamedFile.{NamedFile}

-- a file's name and its bytes
abbrev pub file_of : NamedFile → List ℕ × List ℕ
file_of file = (string_bytes file.name, file.bytes.items)

-- the names and the bytes of files
abbrev pub files_of : List NamedFile → List (List ℕ × List ℕ)
files_of files = map file_of files
