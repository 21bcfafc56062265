-- The limits of the product, by name. The code has the same numbers in `src/limits.rt`.
use Rattle.std.specs.Prelude.{ℕ}

-- bytes of one file
abbrev pub most_file_bytes : ℕ
most_file_bytes = 1048576

-- files of a set
abbrev pub most_files : ℕ
most_files = 64

-- levels of a type: as it is written, and with its typedefs replaced
abbrev pub most_type_levels : ℕ
most_type_levels = 16

-- arguments of one list
abbrev pub most_arguments : ℕ
most_arguments = 64

-- overloads of one name
abbrev pub most_overloads : ℕ
most_overloads = 64

-- dictionaries on one chain of member types
abbrev pub most_chained_dictionaries : ℕ
most_chained_dictionaries = 256

-- interfaces, namespaces, partials and includes statements of a set, with the members that they bring
abbrev pub most_members : ℕ
most_members = 1000000

-- units of a budget
abbrev pub most_units : ℕ
most_units = 2000000

-- levels of blocks of a script that lie in one another
abbrev pub most_nested_blocks : ℕ
most_nested_blocks = 32

-- levels of brackets on one line of a script
abbrev pub most_nested_brackets : ℕ
most_nested_brackets = 32

-- units of a text that is written in a script
abbrev pub most_text_units : ℕ
most_text_units = 1000

-- calls that are open at a time
abbrev pub most_open_calls : ℕ
most_open_calls = 100

-- objects that are there before a script
abbrev pub most_first_objects : ℕ
most_first_objects = 6000018

-- the greatest number that a workload is made from
abbrev pub most_work : ℕ
most_work = 1000
