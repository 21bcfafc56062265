use Rattle.std.proofs.Common.{Bool, ap, sym, ◌∙◌}
use Rattle.std.specs.Prelude.{if◌then◌else◌}
use Rattle.widl_value.specs.IdlTerms.{StringValue}
use Rattle.widl_trace.specs.declared.code.Code.TheVariants as code
use Rattle.widl_steps.specs.Tasks.{Talk}
use Rattle.widl_steps.specs.Words.{fails, gives}
use Rattle.widl_convert.proofs.Bytes.{is_bytes_of}
use Rattle.widl_convert.proofs.convert.to_bytes.Goals as goal

pub returns-then-is_byte_text-clause-dialog : goal.returns-then-is_byte_text-clause-dialog
returns-then-is_byte_text-clause-dialog c list =
    c.gives_text.ensures.dialog list
    ∙ ap (λ (b : Bool). let d : Talk = if b then gives (StringValue c.args.text) else fails code.Byte in d)
    (sym (is_bytes_of c.is_byte_text.result c.args.text c.is_byte_text.ensures ∙ c.if-is_byte_text.true))

pub returns-else-is_byte_text-clause-dialog : goal.returns-else-is_byte_text-clause-dialog
returns-else-is_byte_text-clause-dialog c list =
    ap (λ (b : Bool). let d : Talk = if b then gives (StringValue c.args.text) else fails code.Byte in d)
    (sym (is_bytes_of c.is_byte_text.result c.args.text c.is_byte_text.ensures ∙ c.if-is_byte_text.false))
