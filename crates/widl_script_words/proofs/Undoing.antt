-- For proofs alone. A machine that makes what a line's words stand for again, one word at a time. It undoes spelling, and may take words that are none.
use Rattle.std.proofs.Common.{ℕ, Bool, true, false, Option, Some, None, List, [], ◌∷◌, if◌then◌else◌}
use Rattle.widl_idl.specs.declared.literal.Literal.{Literal}
use Rattle.widl_idl.specs.declared.literal.Literal.TheVariants as literal
use Rattle.widl_value.specs.declared.number.Number.TheVariants.{NaN, PosInf, NegInf}
use Rattle.widl_value.specs.declared.value.Value.{Value}
use Rattle.widl_value.specs.declared.value.Value.TheVariants as value
use Rattle.widl_lines.specs.declared.grammar.Terminal.{Terminal}
use Rattle.widl_lines.specs.declared.grammar.Terminal.TheVariants as terminal
use Rattle.widl_lines.specs.Words.{Lexeme}
use Rattle.widl_script_tree.specs.declared.steps.Target.{Target}
use Rattle.widl_script_tree.specs.declared.steps.Target.TheVariants as target
use Rattle.widl_script_tree.specs.declared.steps.Source.{Source}
use Rattle.widl_script_tree.specs.declared.steps.Source.TheVariants as source
use Rattle.widl_script_tree.specs.declared.steps.StepLine.{StepLine}
use Rattle.widl_script_tree.specs.declared.steps.StepLine.TheVariants as step
use Rattle.widl_script_tree.specs.Trees.{Text, ExpressionTree, ExpressionTrees, none, more, UndefinedT, NullT, ThisT, NewSymbolT, NewObjectT, BoolT, NumberT, TextT, NameT, SymbolT, ObjectOfT, NewArrayT, MemberT, IndexT, CallT, NewT, CallWithT, MemberTree, NamedT, ComputedT, StatementTree, LetT, DoT, ReturnT, ThrowT, ShowT, SetT, DefineT, DefineAccessorT, DeleteT}
use Rattle.widl_script_words.specs.Words.{is_name, is_operation_name, is_whole, is_integer, number_of, integer_in, index_of, units_in}

-- 1. Expressions and statements

-- what a list in parentheses belongs to
pub data Group : Type 0 where
  Call : ExpressionTree → Group
  NewArray NewSymbol NewObject CallWith New : Group

abbrev pub closed : Group → ExpressionTrees → ExpressionTree
closed (Call t) ts = CallT t ts
closed NewArray ts = NewArrayT ts
closed NewSymbol ts = NewSymbolT
closed NewObject none = NewObjectT
closed NewObject (more t ts) = ObjectOfT t
closed CallWith (more f (more t ts)) = CallWithT f t ts
closed CallWith _ = UndefinedT
closed New (more f ts) = NewT f ts
closed New none = UndefinedT

-- what an expression is wanted for: the items of a list come last first
pub data Frame : Type 0 where
  InIndex : ExpressionTree → Frame
  InItems : Group → ExpressionTrees → Frame
  InLet : Text → Frame
  InDo InReturn InThrow InShow InDelete InSet InIf : Frame
  InDefine : Bool → Frame
  InSetTo : MemberTree → Frame
  InDefineTo : Bool → MemberTree → Frame
  InGetter : MemberTree → Frame
  InSetter : MemberTree → ExpressionTree → Frame
  InIs : ExpressionTree → Frame

-- what a source is wanted for: the sources of a call come last first, and it may be returned
pub data Wanted : Type 0 where
  ForReturn ForKey : Wanted
  ForSlot : Text → Wanted
  ForValue : Source → Wanted
  ForItems : Bool → ℕ → List Source → Wanted

-- a line outside steps blocks, or one that opens or closes a block in one
pub data Head : Type 0 where
  Alone : StatementTree → Head
  Tries Elses Ends : Head
  Catches : Text → Head
  Ifs : ExpressionTree → ExpressionTree → Head
  Functions : Text → List Text → Head
  StepsFor : Target → Head

pub data State : Type 0 where
  Start : State
  Operand : List Frame → State
  After : ExpressionTree → List Frame → State
  Dotted : ExpressionTree → List Frame → State
  Opening : Group → List Frame → State
  LetName CatchName FunctionName : State
  LetTo : Text → State
  Params : Text → State
  Param Parameter : Text → List Text → State
  TargetOwner : State
  TargetDot TargetPart : Text → State
  TargetWord : Text → Terminal → Text → State
  StaticName : Text → Text → State
  Overload : Target → State
  WholeLine : Head → State
  StepStart : State
  SourceOf ArgOf SlotOf LiteralOf : Wanted → State
  Bracketed : Literal → Wanted → State
  SourceEnded : Source → Wanted → State
  InvokeArg InvokeNumber : Bool → State
  InvokeOpen : Bool → ℕ → State
  SlotName : State
  SlotTo : Text → State
  Thrown : State
  WholeStep : StepLine → State
  Broken : State

-- items that come last first, then others
abbrev pub onto : ExpressionTrees → ExpressionTrees → ExpressionTrees
onto none ts = ts
onto (more t rev) ts = onto rev (more t ts)

abbrev pub list_onto : {X : Type 0} → List X → List X → List X
list_onto [] xs = xs
list_onto (x ∷ rev) xs = list_onto rev (x ∷ xs)

abbrev pub close_empty : List Frame → State
close_empty (InItems g none ∷ stack) = After (closed g none) stack
close_empty _ = Broken

abbrev pub hide : List Frame → State
hide (InDefine hidden ∷ stack) = Operand (InDefine true ∷ stack)
hide _ = Broken

abbrev pub operand_of : Terminal → Lexeme → List Frame → State
operand_of terminal.Undefined w stack = After UndefinedT stack
operand_of terminal.Null w stack = After NullT stack
operand_of terminal.True w stack = After (BoolT true) stack
operand_of terminal.False w stack = After (BoolT false) stack
operand_of terminal.This w stack = After ThisT stack
operand_of terminal.Nan w stack = After (NumberT NaN) stack
operand_of terminal.Infinity w stack = After (NumberT PosInf) stack
operand_of terminal.MinusInfinity w stack = After (NumberT NegInf) stack
operand_of terminal.Text w stack = After (TextT (units_in w)) stack
operand_of terminal.IteratorSymbol w stack = After (SymbolT 0) stack
operand_of terminal.ToPrimitiveSymbol w stack = After (SymbolT 1) stack
operand_of terminal.ToStringTagSymbol w stack = After (SymbolT 2) stack
operand_of terminal.Symbol w stack = Opening NewSymbol stack
operand_of terminal.Object w stack = Opening NewObject stack
operand_of terminal.Array w stack = Opening NewArray stack
operand_of terminal.Call w stack = Opening CallWith stack
operand_of terminal.New w stack = Opening New stack
operand_of terminal.CloseParen w stack = close_empty stack
operand_of terminal.Hidden w stack = hide stack
operand_of _ w stack = Broken

abbrev pub operand : Lexeme → List Frame → State
operand w stack = if is_name w.terminal then After (NameT w.text) stack else (if is_whole w.terminal then After (NumberT (number_of w)) stack else operand_of w.terminal w stack)

abbrev pub close_index : ExpressionTree → List Frame → State
close_index t (InIndex of ∷ stack) = After (IndexT of t) stack
close_index t _ = Broken

abbrev pub next_item : ExpressionTree → List Frame → State
next_item t (InItems g rev ∷ stack) = Operand (InItems g (more t rev) ∷ stack)
next_item t _ = Broken

abbrev pub close_items : ExpressionTree → List Frame → State
close_items t (InItems g rev ∷ stack) = After (closed g (onto rev (more t none))) stack
close_items t _ = Broken

abbrev pub with_member : (MemberTree → State) → ExpressionTree → State
with_member f (MemberT of text) = f (NamedT of text)
with_member f (IndexT of key) = f (ComputedT of key)
with_member f _ = Broken

abbrev pub equals : ExpressionTree → List Frame → State
equals t (InSet ∷ stack) = with_member (λ m. Operand (InSetTo m ∷ stack)) t
equals t (InDefine hidden ∷ stack) = with_member (λ m. Operand (InDefineTo hidden m ∷ stack)) t
equals t _ = Broken

abbrev pub getter : ExpressionTree → List Frame → State
getter t (InDefine hidden ∷ stack) = with_member (λ m. Operand (InGetter m ∷ stack)) t
getter t _ = Broken

abbrev pub setter : ExpressionTree → List Frame → State
setter t (InGetter m ∷ stack) = Operand (InSetter m t ∷ stack)
setter t _ = Broken

abbrev pub same_as : ExpressionTree → List Frame → State
same_as t (InIf ∷ stack) = Operand (InIs t ∷ stack)
same_as t _ = Broken

abbrev pub after : Terminal → ExpressionTree → List Frame → State
after terminal.Dot t stack = Dotted t stack
after terminal.OpenBracket t stack = Operand (InIndex t ∷ stack)
after terminal.OpenParen t stack = Operand (InItems (Call t) none ∷ stack)
after terminal.CloseBracket t stack = close_index t stack
after terminal.Comma t stack = next_item t stack
after terminal.CloseParen t stack = close_items t stack
after terminal.Equals t stack = equals t stack
after terminal.Get t stack = getter t stack
after terminal.Set t stack = setter t stack
after terminal.Is t stack = same_as t stack
after _ t stack = Broken

abbrev pub start : Terminal → State
start terminal.Let = LetName
start terminal.Do = Operand (InDo ∷ [])
start terminal.Return = Operand (InReturn ∷ [])
start terminal.Throw = Operand (InThrow ∷ [])
start terminal.Show = Operand (InShow ∷ [])
start terminal.Set = Operand (InSet ∷ [])
start terminal.Define = Operand (InDefine false ∷ [])
start terminal.Delete = Operand (InDelete ∷ [])
start terminal.Try = WholeLine Tries
start terminal.Else = WholeLine Elses
start terminal.End = WholeLine Ends
start terminal.Catch = CatchName
start terminal.If = Operand (InIf ∷ [])
start terminal.Function = FunctionName
start terminal.Steps = TargetOwner
start _ = Broken

abbrev pub param : Lexeme → Text → List Text → State
param w text rev = if is_name w.terminal then Parameter text (w.text ∷ rev) else WholeLine (Functions text [])

abbrev pub parameter : Terminal → Text → List Text → State
parameter terminal.Comma text rev = Param text rev
parameter _ text rev = WholeLine (Functions text (list_onto rev []))

-- 2. Targets

abbrev pub is_number_sign : Terminal → Bool
is_number_sign terminal.NumberSign = true
is_number_sign _ = false

abbrev pub numbered : Bool → Text → Text → Target
numbered true owner text = target.Operation owner text false 0
numbered false owner text = target.Constructor owner 0

abbrev pub part_named : Terminal → Text → Text → State
part_named terminal.Static owner text = StaticName owner text
part_named terminal.Get owner text = WholeLine (StepsFor (target.Getter owner text))
part_named terminal.Set owner text = WholeLine (StepsFor (target.Setter owner text))
part_named _ owner text = Broken

abbrev pub after_part : Lexeme → Text → Terminal → Text → State
after_part w owner t text = if is_number_sign w.terminal then Overload (numbered (is_operation_name t) owner text) else part_named t owner w.text

abbrev pub with_overload : Target → ℕ → Target
with_overload (target.Operation owner text fixed k) number = target.Operation owner text fixed number
with_overload (target.Constructor owner k) number = target.Constructor owner number
with_overload t number = t

-- 3. Step lines

abbrev pub invoked : Bool → ℕ → List Source → StepLine
invoked true k sources = step.ReturnInvoke (record { arg = k; sources = sources })
invoked false k sources = step.Invoke (record { arg = k; sources = sources })

abbrev pub close_sources : Wanted → State
close_sources (ForItems returned k rev) = WholeStep (invoked returned k (list_onto rev []))
close_sources _ = Broken

abbrev pub begin_source : Terminal → Wanted → State
begin_source terminal.Arg wanted = ArgOf wanted
begin_source terminal.This wanted = SourceEnded source.This wanted
begin_source terminal.Slot wanted = SlotOf wanted
begin_source terminal.Literal wanted = LiteralOf wanted
begin_source terminal.Invoke wanted = InvokeArg true
begin_source terminal.CloseParen wanted = close_sources wanted
begin_source _ wanted = Broken

abbrev pub literal_of : Terminal → Lexeme → Wanted → State
literal_of terminal.Null w wanted = SourceEnded (source.Literal literal.Null) wanted
literal_of terminal.Undefined w wanted = SourceEnded (source.Literal literal.Undefined) wanted
literal_of terminal.True w wanted = SourceEnded (source.Literal (literal.Bool true)) wanted
literal_of terminal.False w wanted = SourceEnded (source.Literal (literal.Bool false)) wanted
literal_of terminal.Text w wanted = SourceEnded (source.Literal (literal.Text (units_in w))) wanted
literal_of terminal.OpenBracket w wanted = Bracketed literal.EmptyList wanted
literal_of terminal.OpenBrace w wanted = Bracketed literal.EmptyDict wanted
literal_of _ w wanted = Broken

abbrev pub literal_word : Lexeme → Wanted → State
literal_word w wanted = if is_integer w.terminal then SourceEnded (source.Literal (literal.Int (integer_in w))) wanted else literal_of w.terminal w wanted

abbrev pub thrown_of : Terminal → Lexeme → State
thrown_of terminal.Undefined w = WholeStep (step.Throw value.Undefined)
thrown_of terminal.Null w = WholeStep (step.Throw value.Null)
thrown_of terminal.True w = WholeStep (step.Throw (value.Bool true))
thrown_of terminal.False w = WholeStep (step.Throw (value.Bool false))
thrown_of terminal.Nan w = WholeStep (step.Throw (value.Num NaN))
thrown_of terminal.Infinity w = WholeStep (step.Throw (value.Num PosInf))
thrown_of terminal.MinusInfinity w = WholeStep (step.Throw (value.Num NegInf))
thrown_of terminal.Text w = WholeStep (step.Throw (value.Str (units_in w)))
thrown_of _ w = Broken

abbrev pub thrown_word : Lexeme → State
thrown_word w = if is_whole w.terminal then WholeStep (step.Throw (value.Num (number_of w))) else thrown_of w.terminal w

abbrev pub next_source : Terminal → Source → Bool → ℕ → List Source → State
next_source terminal.Comma s returned k rev = SourceOf (ForItems returned k (s ∷ rev))
next_source _ s returned k rev = WholeStep (invoked returned k (list_onto rev (s ∷ [])))

abbrev pub after_source : Terminal → Source → Wanted → State
after_source t s ForKey = begin_source t (ForValue s)
after_source t s (ForItems returned k rev) = next_source t s returned k rev
after_source t s _ = Broken

abbrev pub start_step : Terminal → State
start_step terminal.Return = SourceOf ForReturn
start_step terminal.Slot = SlotName
start_step terminal.Append = SourceOf ForKey
start_step terminal.Clear = WholeStep step.Clear
start_step terminal.Throw = Thrown
start_step terminal.Invoke = InvokeArg false
start_step _ = Broken

-- 4. The machine

abbrev pub step_by : State → Lexeme → State
step_by Start w = start w.terminal
step_by (Operand stack) w = operand w stack
step_by (After t stack) w = after w.terminal t stack
step_by (Dotted t stack) w = After (MemberT t w.text) stack
step_by (Opening g stack) w = Operand (InItems g none ∷ stack)
step_by LetName w = LetTo w.text
step_by (LetTo text) w = Operand (InLet text ∷ [])
step_by CatchName w = WholeLine (Catches w.text)
step_by FunctionName w = Params w.text
step_by (Params text) w = Param text []
step_by (Param text rev) w = param w text rev
step_by (Parameter text rev) w = parameter w.terminal text rev
step_by TargetOwner w = TargetDot w.text
step_by (TargetDot owner) w = TargetPart owner
step_by (TargetPart owner) w = TargetWord owner w.terminal w.text
step_by (TargetWord owner t text) w = after_part w owner t text
step_by (StaticName owner text) w = Overload (target.Operation owner text true 0)
step_by (Overload t) w = WholeLine (StepsFor (with_overload t (index_of w)))
step_by (WholeLine l) w = Broken
step_by StepStart w = start_step w.terminal
step_by (SourceOf wanted) w = begin_source w.terminal wanted
step_by (ArgOf wanted) w = SourceEnded (source.Arg (index_of w)) wanted
step_by (SlotOf wanted) w = SourceEnded (source.Slot w.text) wanted
step_by (LiteralOf wanted) w = literal_word w wanted
step_by (Bracketed l wanted) w = SourceEnded (source.Literal l) wanted
step_by (SourceEnded s wanted) w = after_source w.terminal s wanted
step_by (InvokeArg returned) w = InvokeNumber returned
step_by (InvokeNumber returned) w = InvokeOpen returned (index_of w)
step_by (InvokeOpen returned k) w = SourceOf (ForItems returned k [])
step_by SlotName w = SlotTo w.text
step_by (SlotTo text) w = SourceOf (ForSlot text)
step_by Thrown w = thrown_word w
step_by (WholeStep l) w = Broken
step_by Broken w = Broken

abbrev pub run : State → List Lexeme → State
run s [] = s
run s (w ∷ words) = run (step_by s w) words

abbrev pub member_line : (MemberTree → StatementTree) → ExpressionTree → Option Head
member_line f (MemberT of text) = Some (Alone (f (NamedT of text)))
member_line f (IndexT of key) = Some (Alone (f (ComputedT of key)))
member_line f _ = None

abbrev pub ended : ExpressionTree → List Frame → Option Head
ended t (InLet text ∷ stack) = Some (Alone (LetT text t))
ended t (InDo ∷ stack) = Some (Alone (DoT t))
ended t (InReturn ∷ stack) = Some (Alone (ReturnT t))
ended t (InThrow ∷ stack) = Some (Alone (ThrowT t))
ended t (InShow ∷ stack) = Some (Alone (ShowT t))
ended t (InDelete ∷ stack) = member_line DeleteT t
ended t (InSetTo m ∷ stack) = Some (Alone (SetT m t))
ended t (InDefineTo hidden m ∷ stack) = Some (Alone (DefineT m t hidden))
ended t (InGetter m ∷ stack) = Some (Alone (DefineAccessorT m t None))
ended t (InSetter m g ∷ stack) = Some (Alone (DefineAccessorT m g (Some t)))
ended t (InIs left ∷ stack) = Some (Ifs left t)
ended t _ = None

abbrev pub part_ended : Terminal → Text → Option Head
part_ended terminal.ToString owner = Some (StepsFor (target.Stringifier owner))
part_ended _ owner = None

-- the line that was read
abbrev pub line_of : State → Option Head
line_of (After t stack) = ended t stack
line_of (TargetWord owner t text) = part_ended t owner
line_of (WholeLine l) = Some l
line_of _ = None

abbrev pub source_ended : Source → Wanted → Option StepLine
source_ended s ForReturn = Some (step.Return s)
source_ended s (ForSlot slot) = Some (step.SetSlot slot s)
source_ended s (ForValue key) = Some (step.Append key s)
source_ended s _ = None

-- the step line that was read
abbrev pub step_of : State → Option StepLine
step_of (SourceEnded s wanted) = source_ended s wanted
step_of (WholeStep l) = Some l
step_of _ = None
