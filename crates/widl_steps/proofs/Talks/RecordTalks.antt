-- Worked conversations with everything built: records.
use Rattle.std.specs.Prelude.{[], ◌∷◌, ◌++◌, None, codes, refl}
use Rattle.std.specs.Char.Utf16.{utf16_chars}
use Rattle.widl_dialog.specs.Conversation.{Asks, Ends}
use Rattle.widl_text.specs.declared.key.Key.TheVariants as keys
use Rattle.widl_idl.specs.declared.text_kind.TextKind.TheVariants as texts
use Rattle.widl_idl.specs.Terms.{RecordType}
use Rattle.widl_value.specs.declared.value.Value.TheVariants as values
use Rattle.widl_value.specs.IdlTerms.{RecordValue, packed_entries}
use Rattle.widl_trace.specs.declared.code.Code.TheVariants as code
use Rattle.widl_steps.specs.AskTerms.{GetAsk, OwnKeysAsk, OwnAsk, OwnAnswer, ThrownAnswer}
use Rattle.widl_steps.specs.Laws.{Said}
use Rattle.widl_steps.specs.Tasks.{Task, Convert, Gives, Throw, Rethrow}
use Rattle.widl_steps.proofs.Worked.{number, integer, plain, gets_name, has_keys, shows_own, hides_own, long, nothing_defined, Tells}

-- `record<DOMString, long>` of object 1, which has the keys `"2"`, `"10"`, `"b"`, `"h"`, which is hidden, and symbol 3
abbrev pub of_numbers : Task
of_numbers = Convert (RecordType texts.Dom long) (values.Obj (plain 1))

abbrev pub listed : Said
listed = has_keys (plain 1) (keys.Name (codes "2") ∷ keys.Name (codes "10") ∷ keys.Name (codes "b") ∷ keys.Name (codes "h") ∷ keys.Sym 3 ∷ []) ∷ []

abbrev named : Said
named =
    shows_own (plain 1) (keys.Name (codes "2")) ∷ gets_name (plain 1) (codes "2") (number 3) ∷ shows_own (plain 1) (keys.Name (codes "10")) ∷ gets_name (plain 1) (codes "10") (number 2)
    ∷ shows_own (plain 1) (keys.Name (codes "b")) ∷ gets_name (plain 1) (codes "b") (number 1) ∷ []

keys_are_listed : Tells nothing_defined of_numbers [] (Asks (OwnKeysAsk (plain 1)))
keys_are_listed = (60, refl)

pub first_is_looked_at : Tells nothing_defined of_numbers listed (Asks (OwnAsk (plain 1) (keys.Name (codes "2"))))
first_is_looked_at = (60, (refl, tt, refl))

first_is_read : Tells nothing_defined of_numbers (listed ++ shows_own (plain 1) (keys.Name (codes "2")) ∷ []) (Asks (GetAsk (plain 1) (keys.Name (codes "2"))))
first_is_read = (60, (refl, tt, (refl, tt, refl)))

hidden_is_not_read : Tells nothing_defined of_numbers (listed ++ named ++ hides_own (plain 1) (keys.Name (codes "h")) ∷ []) (Asks (OwnAsk (plain 1) (keys.Sym 3)))
hidden_is_not_read = (60, (refl, tt, (refl, tt, (refl, tt, (refl, tt, (refl, tt, (refl, tt, (refl, tt, (refl, tt, refl)))))))))

symbol_has_no_name : Tells nothing_defined of_numbers (listed ++ named ++ hides_own (plain 1) (keys.Name (codes "h")) ∷ shows_own (plain 1) (keys.Sym 3) ∷ []) (Ends (Throw code.Symbol))
symbol_has_no_name = (60, (refl, tt, (refl, tt, (refl, tt, (refl, tt, (refl, tt, (refl, tt, (refl, tt, (refl, tt, (refl, tt, refl))))))))))

hidden_symbol_is_left_out : Tells nothing_defined of_numbers (listed ++ named ++ hides_own (plain 1) (keys.Name (codes "h")) ∷ hides_own (plain 1) (keys.Sym 3) ∷ []) (Ends (Gives (RecordValue (packed_entries ((codes "2", integer 3) ∷ (codes "10", integer 2) ∷ (codes "b", integer 1) ∷ [])))))
hidden_symbol_is_left_out = (60, (refl, tt, (refl, tt, (refl, tt, (refl, tt, (refl, tt, (refl, tt, (refl, tt, (refl, tt, (refl, tt, refl))))))))))

-- a property that was deleted since the keys were listed is left out

gone : Tells nothing_defined of_numbers (has_keys (plain 1) (keys.Name (codes "a") ∷ []) ∷ (OwnAsk (plain 1) (keys.Name (codes "a")), OwnAnswer None) ∷ []) (Ends (Gives (RecordValue (packed_entries []))))
gone = (60, (refl, tt, (refl, tt, refl)))

value_throws : Tells nothing_defined of_numbers (has_keys (plain 1) (keys.Name (codes "a") ∷ keys.Name (codes "b") ∷ []) ∷ shows_own (plain 1) (keys.Name (codes "a")) ∷ gets_name (plain 1) (codes "a") (values.Sym 3) ∷ []) (Ends (Throw code.Symbol))
value_throws = (60, (refl, tt, (refl, tt, (refl, tt, refl))))

read_throws : Tells nothing_defined of_numbers (has_keys (plain 1) (keys.Name (codes "a") ∷ keys.Name (codes "b") ∷ []) ∷ shows_own (plain 1) (keys.Name (codes "a")) ∷ (GetAsk (plain 1) (keys.Name (codes "a")), ThrownAnswer (number 9)) ∷ []) (Ends (Rethrow (number 9)))
read_throws = (60, (refl, tt, (refl, tt, (refl, tt, refl))))

no_object : Tells nothing_defined (Convert (RecordType texts.Dom long) values.Null) [] (Ends (Throw code.NotObject))
no_object = (60, refl)

key_is_no_byte : Tells nothing_defined (Convert (RecordType texts.Byte long) (values.Obj (plain 1))) (has_keys (plain 1) (keys.Name (256 ∷ []) ∷ []) ∷ shows_own (plain 1) (keys.Name (256 ∷ [])) ∷ []) (Ends (Throw code.Byte))
key_is_no_byte = (60, (refl, tt, (refl, tt, refl)))

-- `record<USVString, long>`: two surrogates without a partner are the same key, which keeps its place and has the later value; each is read by the
-- key as it was

same_key_twice : Tells nothing_defined (Convert (RecordType texts.Usv long) (values.Obj (plain 1))) (has_keys (plain 1) (keys.Name (55296 ∷ []) ∷ keys.Name (98 ∷ []) ∷ keys.Name (56320 ∷ []) ∷ []) ∷ shows_own (plain 1) (keys.Name (55296 ∷ [])) ∷ gets_name (plain 1) (55296 ∷ []) (number 1) ∷ shows_own (plain 1) (keys.Name (98 ∷ [])) ∷ gets_name (plain 1) (98 ∷ []) (number 5) ∷ shows_own (plain 1) (keys.Name (56320 ∷ [])) ∷ gets_name (plain 1) (56320 ∷ []) (number 2) ∷ []) (Ends (Gives (RecordValue (packed_entries ((65533 ∷ [], integer 2) ∷ (98 ∷ [], integer 5) ∷ [])))))
unfolding utf16_chars
same_key_twice = (60, (refl, tt, (refl, tt, (refl, tt, (refl, tt, (refl, tt, (refl, tt, (refl, tt, refl))))))))
