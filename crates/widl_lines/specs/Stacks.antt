-- For proofs alone. The open blocks as they lie on a stack, the innermost last.
use Rattle.std.specs.Prelude.{List, [], ◌∷◌}
use Rattle.widl_lines.specs.declared.blocks.Block.{Block}

abbrev pub inner_first : List Block → List Block → List Block
inner_first [] blocks = blocks
inner_first (block ∷ more) blocks = inner_first more (block ∷ blocks)

-- the innermost first
abbrev pub blocks_of : List Block → List Block
blocks_of stack = inner_first stack []
