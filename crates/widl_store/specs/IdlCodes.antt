-- For proofs alone. A code for the terms of IDL values, by which values of the store are told apart: a term is
-- written as tokens, parts before what they are parts of, and read again over a stack.
use Rattle.std.proofs.Common.{◌∙◌, refl, ap}
use Rattle.std.specs.Prelude.{◌≡◌, ℕ, Bool, ℤ, List, [], ◌∷◌}
use Rattle.std.specs.Coded.{Coded, code_by, coded_list}
use Rattle.widl_value.specs.IdlTerms.{IdlTerm, IdlTerms, EntryTerms, MemberTerms, UndefinedValue, NullValue, MissingValue, BooleanValue, IntegerValue, StringValue, EnumerationValue, ObjectValue, AnyValue, SequenceValue, RecordValue, DictionaryValue, PromiseValue, no_values, more_values, no_entries, more_entries, no_members, more_members}
use Rattle.widl_value.specs.declared.object.ObjRef.{ObjRef}
use Rattle.widl_value.specs.declared.value.Value.{Value}

pub data Token : Type 0 where
  UndefinedToken : Token
  NullToken : Token
  MissingToken : Token
  BooleanToken : Bool → Token
  IntegerToken : ℤ → Token
  StringToken : List ℕ → Token
  EnumerationToken : ℕ → ℕ → Token
  ObjectToken : ObjRef → Token
  AnyToken : Value → Token
  SequenceToken : Token
  RecordToken : Token
  DictionaryToken : ℕ → Token
  PromiseToken : ObjRef → Token
  NoValues : Token
  MoreValues : Token
  NoEntries : Token
  MoreEntries : List ℕ → Token
  NoMembers : Token
  MoreMembers : ℕ → ℕ → Token

abbrev mutual
  pub term_tokens : IdlTerm → List Token → List Token
  term_tokens UndefinedValue after = UndefinedToken ∷ after
  term_tokens NullValue after = NullToken ∷ after
  term_tokens MissingValue after = MissingToken ∷ after
  term_tokens (BooleanValue b) after = BooleanToken b ∷ after
  term_tokens (IntegerValue n) after = IntegerToken n ∷ after
  term_tokens (StringValue text) after = StringToken text ∷ after
  term_tokens (EnumerationValue of index) after = EnumerationToken of index ∷ after
  term_tokens (ObjectValue object) after = ObjectToken object ∷ after
  term_tokens (AnyValue value) after = AnyToken value ∷ after
  term_tokens (SequenceValue values) after = value_tokens values (SequenceToken ∷ after)
  term_tokens (RecordValue entries) after = entry_tokens entries (RecordToken ∷ after)
  term_tokens (DictionaryValue of members) after = member_tokens members (DictionaryToken of ∷ after)
  term_tokens (PromiseValue promise) after = PromiseToken promise ∷ after

  pub value_tokens : IdlTerms → List Token → List Token
  value_tokens no_values after = NoValues ∷ after
  value_tokens (more_values value values) after = value_tokens values (term_tokens value (MoreValues ∷ after))

  pub entry_tokens : EntryTerms → List Token → List Token
  entry_tokens no_entries after = NoEntries ∷ after
  entry_tokens (more_entries key value entries) after = entry_tokens entries (term_tokens value (MoreEntries key ∷ after))

  pub member_tokens : MemberTerms → List Token → List Token
  member_tokens no_members after = NoMembers ∷ after
  member_tokens (more_members of index value members) after = member_tokens members (term_tokens value (MoreMembers of index ∷ after))

pub data Piece : Type 0 where
  OneTerm : IdlTerm → Piece
  SomeValues : IdlTerms → Piece
  SomeEntries : EntryTerms → Piece
  SomeMembers : MemberTerms → Piece

abbrev pub piece_term : Piece → IdlTerm
piece_term (OneTerm term) = term
piece_term _ = UndefinedValue

abbrev pub piece_values : Piece → IdlTerms
piece_values (SomeValues values) = values
piece_values _ = no_values

abbrev pub piece_entries : Piece → EntryTerms
piece_entries (SomeEntries entries) = entries
piece_entries _ = no_entries

abbrev pub piece_members : Piece → MemberTerms
piece_members (SomeMembers members) = members
piece_members _ = no_members

abbrev pub top : List Piece → Piece
top [] = OneTerm UndefinedValue
top (piece ∷ stack) = piece

abbrev pub below : List Piece → List Piece
below [] = []
below (piece ∷ stack) = stack

abbrev pub step : Token → List Piece → List Piece
step UndefinedToken stack = OneTerm UndefinedValue ∷ stack
step NullToken stack = OneTerm NullValue ∷ stack
step MissingToken stack = OneTerm MissingValue ∷ stack
step (BooleanToken b) stack = OneTerm (BooleanValue b) ∷ stack
step (IntegerToken n) stack = OneTerm (IntegerValue n) ∷ stack
step (StringToken text) stack = OneTerm (StringValue text) ∷ stack
step (EnumerationToken of index) stack = OneTerm (EnumerationValue of index) ∷ stack
step (ObjectToken object) stack = OneTerm (ObjectValue object) ∷ stack
step (AnyToken value) stack = OneTerm (AnyValue value) ∷ stack
step SequenceToken stack = OneTerm (SequenceValue (piece_values (top stack))) ∷ below stack
step RecordToken stack = OneTerm (RecordValue (piece_entries (top stack))) ∷ below stack
step (DictionaryToken of) stack = OneTerm (DictionaryValue of (piece_members (top stack))) ∷ below stack
step (PromiseToken promise) stack = OneTerm (PromiseValue promise) ∷ stack
step NoValues stack = SomeValues no_values ∷ stack
step MoreValues stack = SomeValues (more_values (piece_term (top stack)) (piece_values (top (below stack)))) ∷ below (below stack)
step NoEntries stack = SomeEntries no_entries ∷ stack
step (MoreEntries key) stack = SomeEntries (more_entries key (piece_term (top stack)) (piece_entries (top (below stack)))) ∷ below (below stack)
step NoMembers stack = SomeMembers no_members ∷ stack
step (MoreMembers of index) stack = SomeMembers (more_members of index (piece_term (top stack)) (piece_members (top (below stack)))) ∷ below (below stack)

abbrev pub stacked : List Token → List Piece → List Piece
stacked [] stack = stack
stacked (token ∷ tokens) stack = stacked tokens (step token stack)

abbrev pub read_term : List Token → IdlTerm
read_term tokens = piece_term (top (stacked tokens []))

mutual
  pub term_stacked : (term : IdlTerm) (after : List Token) (stack : List Piece) → stacked (term_tokens term after) stack ≡ stacked after (OneTerm term ∷ stack)
  term_stacked UndefinedValue after stack = refl
  term_stacked NullValue after stack = refl
  term_stacked MissingValue after stack = refl
  term_stacked (BooleanValue b) after stack = refl
  term_stacked (IntegerValue n) after stack = refl
  term_stacked (StringValue text) after stack = refl
  term_stacked (EnumerationValue of index) after stack = refl
  term_stacked (ObjectValue object) after stack = refl
  term_stacked (AnyValue value) after stack = refl
  term_stacked (SequenceValue values) after stack = values_stacked values (SequenceToken ∷ after) stack
  term_stacked (RecordValue entries) after stack = entries_stacked entries (RecordToken ∷ after) stack
  term_stacked (DictionaryValue of members) after stack = members_stacked members (DictionaryToken of ∷ after) stack
  term_stacked (PromiseValue promise) after stack = refl

  pub values_stacked : (values : IdlTerms) (after : List Token) (stack : List Piece) → stacked (value_tokens values after) stack ≡ stacked after (SomeValues values ∷ stack)
  values_stacked no_values after stack = refl
  values_stacked (more_values value values) after stack =
      values_stacked values (term_tokens value (MoreValues ∷ after)) stack ∙ term_stacked value (MoreValues ∷ after) (SomeValues values ∷ stack)

  pub entries_stacked : (entries : EntryTerms) (after : List Token) (stack : List Piece) → stacked (entry_tokens entries after) stack ≡ stacked after (SomeEntries entries ∷ stack)
  entries_stacked no_entries after stack = refl
  entries_stacked (more_entries key value entries) after stack =
      entries_stacked entries (term_tokens value (MoreEntries key ∷ after)) stack ∙ term_stacked value (MoreEntries key ∷ after) (SomeEntries entries ∷ stack)

  pub members_stacked : (members : MemberTerms) (after : List Token) (stack : List Piece) → stacked (member_tokens members after) stack ≡ stacked after (SomeMembers members ∷ stack)
  members_stacked no_members after stack = refl
  members_stacked (more_members of index value members) after stack =
      members_stacked members (term_tokens value (MoreMembers of index ∷ after)) stack ∙ term_stacked value (MoreMembers of index ∷ after) (SomeMembers members ∷ stack)

pub term_read : (term : IdlTerm) → read_term (term_tokens term []) ≡ term
term_read term = ap (λ stack. piece_term (top stack)) (term_stacked term [] [])

-- the code, from one of tokens
abbrev pub term_code : Coded Token → Coded IdlTerm
term_code token = code_by (List Token) (coded_list token) (λ term. term_tokens term []) read_term term_read
