-- The top of a stack, lent to be changed.
use Rattle.std.specs.Prelude.{List, Option}
use Rattle.std.specs.Borrow.{LendsIf, MutBor, Fml}
use Rattle.assembly.specs.Stack.{with_top}
use Rattle.assembly.specs.declared.made.Assembly.{Assembly}
use Rattle.assembly.specs.contracts.made.Assembly as assembly
use Rattle.assembly.specs.contracts.stack.Stack as stack

-- s ends with the last board behind r as its top, and as it is where it has none
abbrev pub LendsTop : MutBor (List Assembly) → Option (MutBor Assembly) → Fml
LendsTop s r = LendsIf stack.the_row assembly.the_row s r (with_top s.now) s.now
