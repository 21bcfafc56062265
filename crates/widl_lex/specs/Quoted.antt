-- The quoted terminals: each word and each sign that the grammar writes out.
-- Source: Web IDL, "IDL grammar".
use Rattle.std.specs.Prelude.{ℕ, List, [], ◌∷◌, ◌++◌, map, Contains, codes}

abbrev pub signs : List (List ℕ)
signs = map codes (
    "(" ∷ ")" ∷ "*" ∷ "," ∷ "..." ∷ ":" ∷ ";" ∷ "<" ∷ "=" ∷ ">" ∷ "?" ∷ "[" ∷ "]" ∷ "{" ∷ "}" ∷ [])

abbrev pub names : List (List ℕ)
names = map codes (
    "-Infinity" ∷ "ArrayBuffer" ∷ "BigInt64Array" ∷ "BigUint64Array" ∷ "ByteString" ∷
    "DOMString" ∷ "DataView" ∷ "Float16Array" ∷ "Float32Array" ∷ "Float64Array" ∷ "FrozenArray" ∷
    "Infinity" ∷ "Int16Array" ∷ "Int32Array" ∷ "Int8Array" ∷ "NaN" ∷ "ObservableArray" ∷
    "Promise" ∷ "SharedArrayBuffer" ∷ "USVString" ∷ "Uint16Array" ∷ "Uint32Array" ∷ "Uint8Array" ∷
    "Uint8ClampedArray" ∷ [])

abbrev pub words : List (List ℕ)
words = map codes (
    "any" ∷ "async" ∷ "async_iterable" ∷ "async_sequence" ∷ "attribute" ∷ "bigint" ∷ "boolean" ∷
    "byte" ∷ "callback" ∷ "const" ∷ "constructor" ∷ "deleter" ∷ "dictionary" ∷ "double" ∷ "enum" ∷
    "false" ∷ "float" ∷ "getter" ∷ "includes" ∷ "inherit" ∷ "interface" ∷ "iterable" ∷ "long" ∷
    "maplike" ∷ "mixin" ∷ "namespace" ∷ "null" ∷ "object" ∷ "octet" ∷ "optional" ∷ "or" ∷
    "partial" ∷ "readonly" ∷ "record" ∷ "required" ∷ "sequence" ∷ "setlike" ∷ "setter" ∷ "short" ∷
    "static" ∷ "stringifier" ∷ "symbol" ∷ "true" ∷ "typedef" ∷ "undefined" ∷ "unrestricted" ∷
    "unsigned" ∷ [])

abbrev pub quoted_terminals : List (List ℕ)
quoted_terminals = signs ++ names ++ words

-- the text is a quoted terminal
abbrev pub IsQuoted : List ℕ → Type 0
IsQuoted text = Contains quoted_terminals text
