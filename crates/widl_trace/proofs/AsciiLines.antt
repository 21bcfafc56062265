-- The bytes of a line are ASCII, whatever the list and the event.
use Rattle.std.proofs.Common.{◌≡◌, ℕ, ◌<◌, ◌/◌, ◌%◌, ◌++◌, ◌⊎◌, inl, inr, Bool, true, false, cond, ◌&&◌, nat_eq, nat_lt, zero, suc, List, [], ◌∷◌, map, codes, ℤ, pos, negsuc, arith, refl, sym, subst}
use Rattle.std.specs.Prelude.{Option, None, Some, slice_get}
use Rattle.std.specs.Fmt.{decimal, digit_glyph, digits, digits_onto, signed_decimal}
use Rattle.std.specs.List.{flat_map}
use Rattle.std.specs.Str.{IsAscii}
use Rattle.std.proofs.lemmas.Bool.{cases_Bool}
use Rattle.std.proofs.lemmas.Bool.Decides.{nat_tests}
use Rattle.std.proofs.lemmas.Str.{IsAscii-append}
use Rattle.std.proofs.lemmas.Str.Ascii.{IsAscii-cons, IsAscii-nil}
use Rattle.widl_idl.specs.declared.callee.Callee.{Callee}
use Rattle.widl_idl.specs.declared.callee.Owner.{Owner}
use Rattle.widl_idl.specs.declared.callee.Owner.TheVariants as owners
use Rattle.widl_idl.specs.declared.callee.Part.{Part}
use Rattle.widl_idl.specs.declared.callee.Part.TheVariants as parts
use Rattle.widl_idl.specs.DefinitionTerms.{AttrTerm, DefsTerm, IfaceTerm, OpNameTerm, SpaceTerm}
use Rattle.widl_spell.specs.Names.{separated}
use Rattle.widl_text.specs.declared.key.Key.{Key}
use Rattle.widl_text.specs.declared.key.Key.TheVariants as keys
use Rattle.widl_value.specs.declared.number.Number.{Number}
use Rattle.widl_value.specs.declared.number.Number.TheVariants as numbers
use Rattle.widl_value.specs.declared.object.ObjRef.{ObjRef}
use Rattle.widl_value.specs.declared.value.Value.{Value}
use Rattle.widl_value.specs.declared.value.Value.TheVariants as values
use Rattle.widl_value.specs.IdlTerms.{IdlTerm, IdlTerms, EntryTerms, MemberTerms, UndefinedValue, NullValue, MissingValue, BooleanValue, IntegerValue, StringValue, EnumerationValue, ObjectValue, AnyValue, SequenceValue, RecordValue, DictionaryValue, PromiseValue, no_values, more_values, no_entries, more_entries, no_members, more_members}
use Rattle.widl_trace.specs.CalleeTexts.{accessor_or_nothing, callee_text, interface_part, name_or_nothing, name_text, namespace_part, operation_or_nothing, overload_text, owner_part, part_text, static_text}
use Rattle.widl_trace.specs.Codes.{code_text}
use Rattle.widl_trace.specs.declared.code.Code.{Code}
use Rattle.widl_trace.specs.declared.code.Code.TheVariants as causes
use Rattle.widl_trace.specs.EventLines.{arguments_text, idl_arguments_text, line_of}
use Rattle.widl_trace.specs.EventTerms.{EventTerm, GetEvent, KeysEvent, OwnEvent, CallEvent, NewEvent, ReturnEvent, ThrowEvent, OperationEvent, ErrorEvent, FulfilledEvent, RejectedEvent, WaitsEvent, ShowEvent, JobEvent, DoneEvent, UncaughtEvent, BudgetStop, DepthStop, ProfileStop}
use Rattle.widl_trace.specs.IdlValueTexts.{dictionary_name, element_texts, entry_texts, enumeration_value, idl_value_text, member_name, member_texts, quoted_or_nothing}
use Rattle.widl_trace.specs.ValueTexts.{boolean_text, escape, exact_text, hex_digit, is_itself, key_text, object_text, quoted, symbol_text, unit_text, value_text}

-- each byte is ASCII; a record, so that it shows of which bytes it speaks
record Ascii (bytes : List ℕ) : Type 0 where
  pub small : IsAscii bytes

none : Ascii []
none = record { small = IsAscii-nil }

one : (b : ℕ) (bytes : List ℕ) → b < 128 → Ascii bytes → Ascii (b ∷ bytes)
one b bytes small others = record { small = IsAscii-cons b bytes small others.small }

infixl 60 ◌then◌
◌then◌ : {xs ys : List ℕ} → Ascii xs → Ascii ys → Ascii (xs ++ ys)
◌then◌ {xs} {ys} a b = record { small = IsAscii-append xs ys a.small b.small }

-- a literal, by a test that computes
abbrev are_small : List ℕ → Bool
are_small [] = true
are_small (b ∷ bytes) = nat_lt b 128 && are_small bytes

both_true : (a b : Bool) → a && b ≡ true → (a ≡ true) × (b ≡ true)
both_true true b is = (refl, is)
both_true false b is = absurd (cc)

literal : (bytes : List ℕ) → are_small bytes ≡ true → Ascii bytes
literal [] is = none
literal (b ∷ bytes) is =
    let each = both_true (nat_lt b 128) (are_small bytes) is in
    one b bytes (grind (arith, nat_tests, each)) (literal bytes each.1)

-- numbers

digits_small : (k n : ℕ) (acc : List ℕ) → Ascii acc → Ascii (digits_onto k 10 false n acc)
digits_small zero n acc others = others
digits_small (suc k) n acc others =
    let more : Ascii (digit_glyph false (n % 10) ∷ acc) = one (digit_glyph false (n % 10)) acc (grind (arith, nat_tests)) others in
    elim (nat_eq (n / 10) 0) as (λ b. Ascii (cond b (digit_glyph false (n % 10) ∷ acc) (digits_onto k 10 false (n / 10) (digit_glyph false (n % 10) ∷ acc))))
    [ true ↦ more | false ↦ digits_small k (n / 10) (digit_glyph false (n % 10) ∷ acc) more ]

decimal_small : (n : ℕ) → Ascii (decimal n)
unfolding digits
decimal_small n = digits_small 64 n [] none

signed_small : (n : ℤ) → Ascii (signed_decimal n)
signed_small (pos n) = decimal_small n
signed_small (negsuc n) = one 45 (decimal (suc n)) (omega arith) (decimal_small (suc n))

-- texts

itself_small : (unit : ℕ) → is_itself unit ≡ true → unit < 128
itself_small unit is = grind (arith, nat_tests, is)

hex_small : (d : ℕ) → d < 16 → hex_digit d < 128
hex_small d below = grind (arith, nat_tests, below)

escape_small : (unit : ℕ) → Ascii (escape unit)
escape_small unit =
    literal (codes "\\u") refl
    then one (hex_digit (unit / 4096 % 16)) _ (hex_small (unit / 4096 % 16) (omega arith))
    (one (hex_digit (unit / 256 % 16)) _ (hex_small (unit / 256 % 16) (omega arith))
    (one (hex_digit (unit / 16 % 16)) _ (hex_small (unit / 16 % 16) (omega arith))
    (one (hex_digit (unit % 16)) [] (hex_small (unit % 16) (omega arith)) none)))

unit_small : (unit : ℕ) → Ascii (unit_text unit)
unit_small unit = by (cases_Bool (is_itself unit))
  where
    by : (is_itself unit ≡ true) ⊎ (is_itself unit ≡ false) → Ascii (unit_text unit)
    by (inl itself) = subst (λ b. Ascii (cond b (unit ∷ []) (escape unit))) (sym itself) (one unit [] (itself_small unit itself) none)
    by (inr other) = subst (λ b. Ascii (cond b (unit ∷ []) (escape unit))) (sym other) (escape_small unit)

units_small : (units : List ℕ) → Ascii (flat_map unit_text units)
units_small [] = none
units_small (unit ∷ units) = unit_small unit then units_small units

quoted_small : (text : List ℕ) → Ascii (quoted text)
quoted_small text = literal (codes "\"") refl then units_small text then literal (codes "\"") refl

name_small : (name : List ℕ) → Ascii (name_text name)
name_small [] = none
name_small (unit ∷ name) = one (unit % 128) (name_text name) (omega arith) (name_small name)

-- values and keys

symbol_small : (id : ℕ) → Ascii (symbol_text id)
symbol_small zero = literal (codes "@iterator") refl
symbol_small (suc zero) = literal (codes "@toPrimitive") refl
symbol_small (suc (suc zero)) = literal (codes "@toStringTag") refl
symbol_small (suc (suc (suc id))) = literal (codes "@") refl then decimal_small (suc (suc (suc id)))

object_small : (obj : ObjRef) → Ascii (object_text obj)
object_small obj = literal (codes "#") refl then decimal_small obj.id

boolean_small : (b : Bool) → Ascii (boolean_text b)
boolean_small true = literal (codes "true") refl
boolean_small false = literal (codes "false") refl

exact_small : (number : Number) → Ascii (exact_text number)
exact_small numbers.NaN = literal (codes "NaN") refl
exact_small numbers.PosInf = literal (codes "Infinity") refl
exact_small numbers.NegInf = literal (codes "-Infinity") refl
exact_small (numbers.Whole n) = signed_small n

value_small : (value : Value) → Ascii (value_text value)
value_small values.Undefined = literal (codes "undefined") refl
value_small values.Null = literal (codes "null") refl
value_small (values.Bool b) = boolean_small b
value_small (values.Num number) = exact_small number
value_small (values.Str text) = quoted_small text
value_small (values.Sym id) = symbol_small id
value_small (values.Obj obj) = object_small obj

key_small : (key : Key) → Ascii (key_text key)
key_small (keys.Name text) = quoted_small text
key_small (keys.Sym id) = symbol_small id

-- texts in a row

abbrev AreAscii : List (List ℕ) → Type 0
AreAscii [] = Unit {0}
AreAscii (text ∷ texts) = Ascii text × AreAscii texts

rest_small : (texts : List (List ℕ)) → AreAscii texts → Ascii (flat_map (λ text. codes ", " ++ text) texts)
rest_small [] each = none
rest_small (text ∷ texts) each = literal (codes ", ") refl then each.0 then rest_small texts each.1

row_small : (texts : List (List ℕ)) → AreAscii texts → Ascii (separated (codes ", ") texts)
row_small [] each = none
row_small (first ∷ texts) each = each.0 then rest_small texts each.1

each_small : {X : Type 0} (f : X → List ℕ) → ((x : X) → Ascii (f x)) → (xs : List X) → AreAscii (map f xs)
each_small f small [] = tt
each_small f small (x ∷ xs) = (small x, each_small f small xs)

arguments_small : (args : List Value) → Ascii (arguments_text args)
arguments_small args = literal (codes " (") refl then row_small (map value_text args) (each_small value_text value_small args) then literal (codes ")") refl

-- callees

static_small : (fixed : Bool) → Ascii (static_text fixed)
static_small true = literal (codes "static ") refl
static_small false = none

operation_small : (owner : List ℕ) (op : Option OpNameTerm) → Ascii (operation_or_nothing owner op)
operation_small owner None = none
operation_small owner (Some op) = name_small owner then literal (codes ".") refl then static_small op.fixed then name_small op.name

accessor_small : (owner word : List ℕ) (attr : Option AttrTerm) → Ascii word → Ascii (accessor_or_nothing owner word attr)
accessor_small owner word None small = none
accessor_small owner word (Some a) small = name_small owner then small then name_small a.name

part_small : (owner : List ℕ) (ops : List OpNameTerm) (attrs : List AttrTerm) (part : Part) → Ascii (part_text owner ops attrs part)
part_small owner ops attrs (parts.Op n) = operation_small owner (slice_get ops n)
part_small owner ops attrs parts.Constructor = name_small owner then literal (codes ".constructor") refl
part_small owner ops attrs (parts.Get n) = accessor_small owner (codes ".get ") (slice_get attrs n) (literal (codes ".get ") refl)
part_small owner ops attrs (parts.Set n) = accessor_small owner (codes ".set ") (slice_get attrs n) (literal (codes ".set ") refl)
part_small owner ops attrs parts.Text = name_small owner then literal (codes ".toString") refl

interface_small : (part : Part) (iface : Option IfaceTerm) → Ascii (interface_part part iface)
interface_small part None = none
interface_small part (Some i) = part_small i.name i.members.ops i.members.attrs part

namespace_small : (part : Part) (space : Option SpaceTerm) → Ascii (namespace_part part space)
namespace_small part None = none
namespace_small part (Some s) = part_small s.name s.members.ops s.members.attrs part

owner_small : (defs : DefsTerm) (owner : Owner) (part : Part) → Ascii (owner_part defs owner part)
owner_small defs (owners.Iface n) part = interface_small part (slice_get defs.ifaces n)
owner_small defs (owners.Space n) part = namespace_small part (slice_get defs.spaces n)

overload_small : (overload : Option ℕ) → Ascii (overload_text overload)
overload_small None = none
overload_small (Some number) = literal (codes "#") refl then decimal_small number

callee_small : (defs : DefsTerm) (callee : Callee) (overload : Option ℕ) → Ascii (callee_text defs callee overload)
callee_small defs callee overload = owner_small defs callee.owner callee.part then overload_small overload

-- IDL values

name_or_nothing_small : (name : Option (List ℕ)) → Ascii (name_or_nothing name)
name_or_nothing_small None = none
name_or_nothing_small (Some name) = name_small name

quoted_or_nothing_small : (text : Option (List ℕ)) → Ascii (quoted_or_nothing text)
quoted_or_nothing_small None = none
quoted_or_nothing_small (Some text) = quoted_small text

mutual
  idl_value_small : (defs : DefsTerm) (value : IdlTerm) → Ascii (idl_value_text defs value)
  idl_value_small defs UndefinedValue = literal (codes "undefined") refl
  idl_value_small defs NullValue = literal (codes "null") refl
  idl_value_small defs MissingValue = literal (codes "missing") refl
  idl_value_small defs (BooleanValue b) = boolean_small b
  idl_value_small defs (IntegerValue n) = signed_small n
  idl_value_small defs (StringValue text) = quoted_small text
  idl_value_small defs (EnumerationValue enumeration index) = quoted_or_nothing_small (enumeration_value defs enumeration index)
  idl_value_small defs (ObjectValue obj) = object_small obj
  idl_value_small defs (AnyValue value) = value_small value
  idl_value_small defs (SequenceValue vs) = literal (codes "[") refl then row_small (element_texts defs vs) (elements_small defs vs) then literal (codes "]") refl
  idl_value_small defs (RecordValue es) = literal (codes "{") refl then row_small (entry_texts defs es) (entries_small defs es) then literal (codes "}") refl
  idl_value_small defs (DictionaryValue dictionary ms) = name_or_nothing_small (dictionary_name defs dictionary) then literal (codes "{") refl then row_small (member_texts defs ms) (members_small defs ms) then literal (codes "}") refl
  idl_value_small defs (PromiseValue obj) = literal (codes "promise ") refl then object_small obj

  elements_small : (defs : DefsTerm) (vs : IdlTerms) → AreAscii (element_texts defs vs)
  elements_small defs no_values = tt
  elements_small defs (more_values value vs) = (idl_value_small defs value, elements_small defs vs)

  entries_small : (defs : DefsTerm) (es : EntryTerms) → AreAscii (entry_texts defs es)
  entries_small defs no_entries = tt
  entries_small defs (more_entries key value es) = (quoted_small key then literal (codes ": ") refl then idl_value_small defs value, entries_small defs es)

  members_small : (defs : DefsTerm) (ms : MemberTerms) → AreAscii (member_texts defs ms)
  members_small defs no_members = tt
  members_small defs (more_members dictionary n value ms) = (name_or_nothing_small (member_name defs dictionary n) then literal (codes ": ") refl then idl_value_small defs value, members_small defs ms)

idl_arguments_small : (defs : DefsTerm) (args : List IdlTerm) → Ascii (idl_arguments_text defs args)
idl_arguments_small defs args = literal (codes " (") refl then row_small (map (idl_value_text defs) args) (each_small (idl_value_text defs) (idl_value_small defs) args) then literal (codes ")") refl

-- lines

code_small : (code : Code) → Ascii (code_text code)
code_small causes.NoOverload = literal (codes "no-overload") refl
code_small causes.NoMatch = literal (codes "no-match") refl
code_small causes.NotObject = literal (codes "not-object") refl
code_small causes.NotCallable = literal (codes "not-callable") refl
code_small causes.NotIterable = literal (codes "not-iterable") refl
code_small causes.Iterator = literal (codes "iterator") refl
code_small causes.Result = literal (codes "result") refl
code_small causes.Symbol = literal (codes "symbol") refl
code_small causes.Range = literal (codes "range") refl
code_small causes.Byte = literal (codes "byte") refl
code_small causes.Enum = literal (codes "enum") refl
code_small causes.Required = literal (codes "required") refl
code_small causes.Dictionary = literal (codes "dictionary") refl
code_small causes.Interface = literal (codes "interface") refl
code_small causes.Primitive = literal (codes "primitive") refl
code_small causes.Union = literal (codes "union") refl
code_small causes.This = literal (codes "this") refl
code_small causes.Running = literal (codes "running") refl
code_small causes.NoConstructor = literal (codes "no-constructor") refl
code_small causes.NeedsNew = literal (codes "needs-new") refl
code_small causes.NoValue = literal (codes "no-value") refl
code_small causes.NoDefault = literal (codes "no-default") refl
code_small causes.ReadOnly = literal (codes "read-only") refl
code_small causes.NotConfigurable = literal (codes "not-configurable") refl
code_small causes.Member = literal (codes "member") refl
code_small causes.Key = literal (codes "key") refl

line_small : (defs : DefsTerm) (event : EventTerm) → Ascii (line_of defs event)
unfolding line_of
line_small defs (GetEvent obj key) = literal (codes "get ") refl then object_small obj then literal (codes " ") refl then key_small key
line_small defs (KeysEvent obj) = literal (codes "keys ") refl then object_small obj
line_small defs (OwnEvent obj key) = literal (codes "own ") refl then object_small obj then literal (codes " ") refl then key_small key
line_small defs (CallEvent f this args) = literal (codes "call ") refl then object_small f then literal (codes " this ") refl then value_small this then arguments_small args
line_small defs (NewEvent f args) = literal (codes "new ") refl then object_small f then arguments_small args
line_small defs (ReturnEvent value) = literal (codes "ret ") refl then value_small value
line_small defs (ThrowEvent value) = literal (codes "thr ") refl then value_small value
line_small defs (OperationEvent callee overload args) = literal (codes "op ") refl then callee_small defs callee overload then idl_arguments_small defs args
line_small defs (ErrorEvent obj code) = literal (codes "error ") refl then object_small obj then literal (codes " ") refl then code_small code
line_small defs (FulfilledEvent promise value) = literal (codes "promise ") refl then object_small promise then literal (codes " fulfilled ") refl then value_small value
line_small defs (RejectedEvent promise value) = literal (codes "promise ") refl then object_small promise then literal (codes " rejected ") refl then value_small value
line_small defs (WaitsEvent promise on method) = literal (codes "promise ") refl then object_small promise then literal (codes " waits ") refl then object_small on then literal (codes " ") refl then object_small method
line_small defs (ShowEvent value) = literal (codes "show ") refl then value_small value
line_small defs (JobEvent promise on method) = literal (codes "job ") refl then object_small promise then literal (codes " ") refl then object_small on then literal (codes " ") refl then object_small method
line_small defs DoneEvent = literal (codes "done") refl
line_small defs (UncaughtEvent value) = literal (codes "uncaught ") refl then value_small value
line_small defs BudgetStop = literal (codes "stop budget") refl
line_small defs DepthStop = literal (codes "stop depth") refl
line_small defs (ProfileStop end) = literal (codes "stop profile ") refl then decimal_small end

pub line_is_ascii : (defs : DefsTerm) (event : EventTerm) → IsAscii (line_of defs event)
line_is_ascii defs event = (line_small defs event).small
